-- Bits in bytes: adding 2^k to a byte whose bit k is 0 sets that bit and leaves the others, because 2^k is an even multiple of each lower power and no carry reaches a higher one.
-- Assumes nothing.
use mathlib.Core.Path.{◌≡◌, refl, sym, ap, ◌∙◌}
use mathlib.Core.Bool.{Bool, true, false, ◌||◌, or-true, or-false, or_assoc}
use mathlib.Core.List.{List}
use Prim.Native.Nat.{ℕ, ◌+◌, ◌*◌, ◌-◌, ◌/◌, ◌%◌, ◌^◌, ◌<◌}
use native.Mathlib.Nat.{add-div_right, add-mul-div_left, div-lt_iff_lt-mul}
use native.Mathlib.Omega.{arith}
use borrow.Author.Tests.{eqb-true, eqb-false, eq-eqb, ne_eqb, lt-ltb, le-ltb, ltb-true, ltb-false}
use lib.Dec.{eqb, ltb}
use lib.ListN.{length, set}
use lib.Pow.{pow_pos, pow-add, shr-shr, shl_exact}
use lib.Seq.{get_or-set_same, get_or-set_other}
use Rattle.ring.specs.Word.{at}
use Rattle.bristol_form.specs.Private.{held_bit}

-- ---- one byte

-- `1 << k` at 8 bits
pub one_shl : (k : ℕ) → k < 8 → (1 * 2 ^ k) % 2 ^ 8 ≡ 2 ^ k
one_shl k h = let e = shl_exact {a = 1} 1 k 8 (omega arith) (omega arith) in omega arith

-- a bit is 0 where it is not 1
pub bit_off : (b p q : ℕ) → p ≡ q → (b / p % 2 ≡ 1 → ⊥) → b / q % 2 ≡ 0
bit_off b p q e d = ap (λ (n : ℕ). b / n % 2) (sym e) ∙ (let z : b / p % 2 ≡ 0 = omega (arith, d) in z)

module _ (b k : ℕ) (off : b / 2 ^ k % 2 ≡ 0) where
  raised : (b + 2 ^ k) / 2 ^ k ≡ b / 2 ^ k + 1
  raised = add-div_right b (pow_pos k)

  pub bit_on : (b + 2 ^ k) / 2 ^ k % 2 ≡ 1
  bit_on = let u = raised in omega arith

  pub byte_fits : b < 256 → k < 8 → b + 2 ^ k < 256
  byte_fits h l =
      let m = 2 ^ (7 - k) in
      let e : 256 ≡ 2 * m * 2 ^ k = ap (λ (n : ℕ). 2 ^ n) (let q : 8 ≡ 1 + (7 - k) + k = omega arith in q) ∙ pow-add 2 (1 + (7 - k)) k ∙ ap (λ (n : ℕ). n * 2 ^ k) (pow-add 2 1 (7 - k)) in
      let a : b / 2 ^ k < 2 * m = (div-lt_iff_lt-mul (pow_pos k)).1 (omega arith) in
      let u = raised in
      let z : b + 2 ^ k < 2 * m * 2 ^ k = (div-lt_iff_lt-mul (pow_pos k)).0 (omega arith) in
      omega arith

  above : (d : ℕ) → (b + 2 ^ k) / 2 ^ (k + (1 + d)) ≡ b / 2 ^ (k + (1 + d))
  above d =
      sym (shr-shr (b + 2 ^ k) k (1 + d))
      ∙ ap (λ (n : ℕ). n / 2 ^ (1 + d)) raised
      ∙ sym (shr-shr (b / 2 ^ k + 1) 1 d)
      ∙ ap (λ (n : ℕ). n / 2 ^ d) (let q : (b / 2 ^ k + 1) / 2 ≡ b / 2 ^ k / 2 = omega arith in q)
      ∙ shr-shr (b / 2 ^ k) 1 d
      ∙ shr-shr b k (1 + d)

below : (b i d : ℕ) → (b + 2 ^ (i + (1 + d))) / 2 ^ i % 2 ≡ b / 2 ^ i % 2
below b i d =
    let e : 2 ^ (i + (1 + d)) ≡ 2 ^ i * (2 * 2 ^ d) = pow-add 2 i (1 + d) ∙ ap (λ (n : ℕ). 2 ^ i * n) (pow-add 2 1 d) in
    let f = ap (λ (n : ℕ). (b + n) / 2 ^ i) e ∙ add-mul-div_left b (2 * 2 ^ d) (pow_pos i) in
    omega arith

bit_other_by : (b k i : ℕ) (t : Bool) → ltb i k ≡ t → b / 2 ^ k % 2 ≡ 0 → (i ≡ k → ⊥) → (b + 2 ^ k) / 2 ^ i % 2 ≡ b / 2 ^ i % 2
bit_other_by b k i true l off d =
    let h = ltb-true i k l in
    let e : i + (1 + (k - i - 1)) ≡ k = omega arith in
    ap (λ (n : ℕ). (b + 2 ^ n) / 2 ^ i % 2) (sym e) ∙ below b i (k - i - 1)
bit_other_by b k i false l off d =
    let h = ltb-false i k l in
    let e : k + (1 + (i - k - 1)) ≡ i = omega (arith, d) in
    ap (λ (n : ℕ). (b + 2 ^ k) / 2 ^ n % 2) (sym e) ∙ ap (λ (n : ℕ). n % 2) (above b k off (i - k - 1)) ∙ ap (λ (n : ℕ). b / 2 ^ n % 2) e

pub bit_other : (b k i : ℕ) → b / 2 ^ k % 2 ≡ 0 → (i ≡ k → ⊥) → (b + 2 ^ k) / 2 ^ i % 2 ≡ b / 2 ^ i % 2
bit_other b k i off d = bit_other_by b k i (ltb i k) refl off d

-- ---- a list of bytes, eight bits in each

pub bit_is_on : (bits : List ℕ) (w p : ℕ) → p ≡ 2 ^ (w % 8) → at bits (w / 8) / p % 2 ≡ 1 → held_bit bits w ≡ true
unfolding held_bit
bit_is_on bits w p e h = eq-eqb (at bits (w / 8) / 2 ^ (w % 8) % 2) 1 (ap (λ (n : ℕ). at bits (w / 8) / n % 2) (sym e) ∙ h)

module _ (bits : List ℕ) (w v : ℕ) where
  -- bit w has been set already
  put_by : (t : Bool) → eqb v w ≡ t → held_bit bits w ≡ true → held_bit bits v ≡ held_bit bits v || t
  put_by true e h = ap (held_bit bits) (eqb-true v w e) ∙ h ∙ sym (or-true (held_bit bits v))
  put_by false e h = sym (or-false (held_bit bits v))

  pub put_already : held_bit bits w ≡ true → held_bit bits v ≡ held_bit bits v || eqb v w
  put_already h = put_by (eqb v w) refl h

  -- bit w is set now, by a power of 2 more in its byte
  abbrev byte : ℕ
  byte = at bits (w / 8)

  abbrev more : List ℕ
  more = set bits (w / 8) (byte + 2 ^ (w % 8))

  apart : (v ≡ w → ⊥) → held_bit more v ≡ held_bit bits v → held_bit more v ≡ held_bit bits v || eqb v w
  apart d e = e ∙ sym (or-false (held_bit bits v)) ∙ ap (λ (t : Bool). held_bit bits v || t) (sym (ne_eqb v w d))

  module _ (in_it : w / 8 < length bits) (off : byte / 2 ^ (w % 8) % 2 ≡ 0) where
    there : v / 8 ≡ w / 8 → at more (v / 8) ≡ byte + 2 ^ (w % 8)
    there e = ap (at more) e ∙ get_or-set_same bits (w / 8) (byte + 2 ^ (w % 8)) 0 in_it

    itself : v ≡ w → held_bit more v ≡ held_bit bits v || eqb v w
    unfolding held_bit
    itself e =
        eq-eqb (at more (v / 8) / 2 ^ (v % 8) % 2) 1
        (ap (λ (n : ℕ). n / 2 ^ (v % 8) % 2) (there (ap (λ (n : ℕ). n / 8) e)) ∙ ap (λ (n : ℕ). (byte + 2 ^ (w % 8)) / 2 ^ (n % 8) % 2) e ∙ bit_on byte (w % 8) off)
        ∙ sym (or-true (held_bit bits v))
        ∙ ap (λ (t : Bool). held_bit bits v || t) (sym (eq-eqb v w e))

    beside : v / 8 ≡ w / 8 → (v % 8 ≡ w % 8 → ⊥) → held_bit more v ≡ held_bit bits v
    unfolding held_bit
    beside e d =
        ap (λ (n : ℕ). eqb (n / 2 ^ (v % 8) % 2) 1) (there e)
        ∙ ap (λ (n : ℕ). eqb n 1) (bit_other byte (w % 8) (v % 8) off d)
        ∙ ap (λ (n : ℕ). eqb (at bits n / 2 ^ (v % 8) % 2) 1) (sym e)

    elsewhere : (v / 8 ≡ w / 8 → ⊥) → held_bit more v ≡ held_bit bits v
    unfolding held_bit
    elsewhere d = ap (λ (n : ℕ). eqb (n / 2 ^ (v % 8) % 2) 1) (get_or-set_other bits (w / 8) (v / 8) (byte + 2 ^ (w % 8)) 0 d)

    put_more_by : (s t : Bool) → eqb (v / 8) (w / 8) ≡ s → eqb (v % 8) (w % 8) ≡ t → held_bit more v ≡ held_bit bits v || eqb v w
    put_more_by true true e f = let x = eqb-true (v / 8) (w / 8) e in let y = eqb-true (v % 8) (w % 8) f in itself (omega arith)
    put_more_by true false e f =
        let d = eqb-false (v % 8) (w % 8) f in
        apart (λ q. d (ap (λ (n : ℕ). n % 8) q)) (beside (eqb-true (v / 8) (w / 8) e) d)
    put_more_by false t e f = let d = eqb-false (v / 8) (w / 8) e in apart (λ q. d (ap (λ (n : ℕ). n / 8) q)) (elsewhere d)

    pub put_more : held_bit more v ≡ held_bit bits v || eqb v w
    put_more = put_more_by (eqb (v / 8) (w / 8)) (eqb (v % 8) (w % 8)) refl refl

-- ---- the first bits

pub first_none : (bits : List ℕ) (v : ℕ) → held_bit bits v ≡ held_bit bits v || ltb v 0
first_none bits v = sym (or-false (held_bit bits v)) ∙ ap (λ (t : Bool). held_bit bits v || t) (sym (le-ltb v 0 (omega arith)))

below_next_by : (v w : ℕ) (s t : Bool) → ltb v w ≡ s → eqb v w ≡ t → (s || t) ≡ ltb v (w + 1)
below_next_by v w true t e f = let h = ltb-true v w e in sym (lt-ltb v (w + 1) (omega arith))
below_next_by v w false true e f = let h = eqb-true v w f in sym (lt-ltb v (w + 1) (omega arith))
below_next_by v w false false e f = let h = ltb-false v w e in let d = eqb-false v w f in sym (le-ltb v (w + 1) (omega (arith, d)))

pub below_next : (v w : ℕ) → ltb v w || eqb v w ≡ ltb v (w + 1)
below_next v w = below_next_by v w (ltb v w) (eqb v w) refl refl

-- the first w bits, and then bit w
pub first_more : (was now later : List ℕ) (w v : ℕ) → held_bit now v ≡ held_bit was v || ltb v w → held_bit later v ≡ held_bit now v || eqb v w → held_bit later v ≡ held_bit was v || ltb v (w + 1)
first_more was now later w v h g =
    g ∙ ap (λ (t : Bool). t || eqb v w) h ∙ or_assoc (held_bit was v) (ltb v w) (eqb v w) ∙ ap (λ (t : Bool). held_bit was v || t) (below_next v w)
