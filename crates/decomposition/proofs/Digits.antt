-- The two laws of the decomposition, once over BGBIT and L: a digit's range, and that the digits recompose to the word with its low bits cleared.
-- The top fields are the word without the rest; half a field at each place is the offset, so that digits and offset together make the fields.
-- Assumes nothing.
use mathlib.Core.Path.{◌≡◌, refl, sym, ap, ◌∙◌}
use mathlib.Core.Logic.{◌⊎◌, inl, inr}
use Prim.Native.Nat.{ℕ, zero, suc, ◌+◌, ◌-◌, ◌*◌, ◌/◌, ◌%◌, ◌^◌, ◌≤◌, ◌<◌}
use native.Mathlib.Nat.{add-mod-mod, add-mul-div_right, le_refl, add-sub_of_le, div-mul-le_self, two-pow-succ, mod-lt, mul-le-mul_right, div-add-mod, zero-mul}
use native.Mathlib.Omega.{arith}
use native.Mathlib.Decide.{dec_lt}
use lib.Pow.{pow-add, pow_pos, pow_mono, pow-lt, field}
use Rattle.ring.specs.Word.{Q, Q_pos, neg, field_of}
use Rattle.ring.specs.Sums.{sum_to}
use Rattle.ring.proofs.Words.{mul-mod_l}
use Rattle.ring.proofs.Fields.{field_below, fields_sum}
use Rattle.params.specs.declared.Params.{Params}
use Rattle.params.specs.Ranges.{InRange}
use Rattle.key.specs.Offset.{offset}
use Rattle.decomposition.specs.Digit.{digit_of, digit_weight, cleared}

-- ---- powers

-- one digit times its weight, with what was taken off
term : (f h P : ℕ) → h < Q → ((f + neg h) % Q * P + h * P) % Q ≡ f * P % Q
unfolding Q neg
term f h P l =
    let m : (f + (Q - h % Q)) % Q * P % Q ≡ (f + (Q - h % Q)) * P % Q = mul-mod_l (f + (Q - h % Q)) P in
    let e : Q - h % Q + h ≡ Q = omega arith in
    let s : (Q - h % Q + h) * P ≡ Q * P = ap (λ (n : ℕ). n * P) e in
    omega arith

-- multiples of 2^s that agree modulo 2^m are words that agree
scaled : (n m s : ℕ) → m + s ≡ 32 → n % 2 ^ m * 2 ^ s % Q ≡ n * 2 ^ s % Q
unfolding Q
scaled n m s e =
    let p : 2 ^ m * 2 ^ s ≡ 2 ^ 32 = sym (pow-add 2 m s) ∙ ap (λ (k : ℕ). 2 ^ k) e in
    let q : (2 ^ m * (n / 2 ^ m) + n % 2 ^ m) * 2 ^ s ≡ n * 2 ^ s = ap (λ (k : ℕ). k * 2 ^ s) (div-add-mod n (2 ^ m)) in
    let r : 2 ^ m * 2 ^ s * (n / 2 ^ m) ≡ 2 ^ 32 * (n / 2 ^ m) = ap (λ (k : ℕ). k * (n / 2 ^ m)) p in
    omega arith

-- ---- over the width w

-- the offset before it is taken modulo Q
abbrev halves : ℕ → ℕ → ℕ
halves w k = sum_to k (λ i. 2 ^ (31 - i * w))

module _ (w : ℕ) (w1 : 1 ≤ w) where
  -- half a field at field i's place is one term of the offset
  half : (i : ℕ) → (i + 1) * w ≤ 32 → 2 ^ (w - 1) * 2 ^ (32 - (i + 1) * w) ≡ 2 ^ (31 - i * w)
  half i h = sym (pow-add 2 (w - 1) (32 - (i + 1) * w)) ∙ ap (λ (k : ℕ). 2 ^ k) (omega arith)

  -- the offset's terms are multiples of 2^s
  halves_high : (s k : ℕ) → k * w + s ≤ 32 → (o : ℕ) × (halves w k ≡ o * 2 ^ s)
  unfolding sum_to
  halves_high s zero h = (0, sym (zero-mul (2 ^ s)))
  halves_high s (suc k) h =
      let ih = halves_high s k (omega arith) in
      let r : ℕ = 31 - k * w - s in
      let e : 31 - k * w ≡ r + s = omega arith in
      let p : 2 ^ (31 - k * w) ≡ 2 ^ r * 2 ^ s = ap (λ (n : ℕ). 2 ^ n) e ∙ pow-add 2 r s in
      (ih.0 + 2 ^ r, omega arith)

  module _ (l : ℕ) (hl : l * w ≤ 32) (x : ℕ) (hx : x < Q) where
    -- the word with the offset
    abbrev y : ℕ
    y = (x + halves w l % Q) % Q

    -- its digit
    abbrev d : ℕ → ℕ
    d i = (field_of y w i + neg (2 ^ (w - 1))) % Q

    -- the digits and the offset's terms make the fields
    both : w ≤ 32 → (k : ℕ) → k ≤ l → (sum_to k (λ i. d i * 2 ^ (32 - (i + 1) * w)) + halves w k) % Q ≡ sum_to k (λ i. field_of y w i * 2 ^ (32 - (i + 1) * w)) % Q
    unfolding sum_to Q
    both hw zero h = refl
    both hw (suc k) h =
        let ih = both hw k (omega arith) in
        let kw : (k + 1) * w ≤ 32 = omega (arith, mul-le-mul_right w h) in
        let u : (d k * 2 ^ (32 - (k + 1) * w) + 2 ^ (31 - k * w)) % Q ≡ field_of y w k * 2 ^ (32 - (k + 1) * w) % Q =
        rw (half k kw) at (term (field_of y w k) (2 ^ (w - 1)) (2 ^ (32 - (k + 1) * w)) (pow-lt {i = w - 1} {j = 32} (omega arith))) in
        omega arith

    -- the word with the offset, without the bits below s
    top : (s : ℕ) → l * w + s ≡ 32 → y / 2 ^ s * 2 ^ s % Q ≡ (x / 2 ^ s * 2 ^ s + halves w l) % Q
    unfolding Q
    top s e =
        let oh = halves_high s l (omega arith) in
        let a : y ≡ (x + oh.0 * 2 ^ s) % 2 ^ (l * w + s) =
        add-mod-mod x (halves w l) Q ∙ ap (λ (n : ℕ). (x + n) % 2 ^ 32) oh.1 ∙ ap (λ (n : ℕ). (x + oh.0 * 2 ^ s) % 2 ^ n) (sym e) in
        let b : y / 2 ^ s ≡ (x / 2 ^ s + oh.0) % 2 ^ (l * w) =
        ap (λ (n : ℕ). n / 2 ^ s) a ∙ field (x + oh.0 * 2 ^ s) (l * w) s ∙ ap (λ (n : ℕ). n % 2 ^ (l * w)) (add-mul-div_right x oh.0 (pow_pos s)) in
        let c = scaled (x / 2 ^ s + oh.0) (l * w) s e in
        let f : y / 2 ^ s * 2 ^ s % Q ≡ (x / 2 ^ s + oh.0) * 2 ^ s % Q = ap (λ (n : ℕ). n * 2 ^ s % Q) b ∙ c in
        omega arith

    recompose_w : w ≤ 32 → sum_to l (λ i. d i * 2 ^ (32 - (i + 1) * w)) % Q ≡ x / 2 ^ (32 - l * w) * 2 ^ (32 - l * w)
    unfolding Q
    recompose_w hw =
        let b = both hw l (le_refl l) in
        let f = fields_sum w y l (mod-lt (x + halves w l % Q) Q_pos) hl in
        let t = top (32 - l * w) (add-sub_of_le hl) in
        omega (arith, div-mul-le_self x (2 ^ (32 - l * w)))

    range_w : w ≤ 31 → (i : ℕ) → (d i < 2 ^ (w - 1)) ⊎ (Q - 2 ^ (w - 1) ≤ d i)
    unfolding Q neg
    range_w w31 i =
        let p : 2 ^ w ≡ 2 ^ (w - 1) + 2 ^ (w - 1) = ap (λ (n : ℕ). 2 ^ n) (let q : w ≡ suc (w - 1) = omega arith in q) ∙ two-pow-succ (w - 1) in
        let f = field_below y w i in
        let q : 2 ^ (w - 1) ≤ 2 ^ 30 = pow_mono {i = w - 1} {j = 30} (omega arith) in
        go (dec_lt (field_of y w i) (2 ^ (w - 1))) p f q
      where
        go : Dec (field_of y w i < 2 ^ (w - 1)) → 2 ^ w ≡ 2 ^ (w - 1) + 2 ^ (w - 1) → field_of y w i < 2 ^ w → 2 ^ (w - 1) ≤ 2 ^ 30
            → (d i < 2 ^ (w - 1)) ⊎ (Q - 2 ^ (w - 1) ≤ d i)
        go (yes h) p f q = inr (omega arith)
        go (no h) p f q = inl (omega arith)

-- ---- over the parameters

module _ (p : Params) (r : InRange p) (x : ℕ) (hx : x < Q) where
  -- the digits recompose to the word with its low bits cleared
  pub recompose : sum_to p.l (λ i. digit_of p x i * digit_weight p i) % Q ≡ cleared p x
  unfolding offset digit_of digit_weight cleared
  recompose = recompose_w p.bgbit r.bgbit_from p.l r.digits_to x hx (omega (arith, r))

  -- a digit is, as a word, below 2^(BGBIT-1), or at most 2^(BGBIT-1) short of Q
  pub range : (i : ℕ) → (digit_of p x i < 2 ^ (p.bgbit - 1)) ⊎ (Q - 2 ^ (p.bgbit - 1) ≤ digit_of p x i)
  unfolding offset digit_of
  range = range_w p.bgbit r.bgbit_from p.l r.digits_to x hx (omega (arith, r))
