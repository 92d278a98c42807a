-- Laws of single words: negation and products modulo Q, and bounds. Remainders by a numeral are linear for omega; a factor goes by div-add-mod.
-- Assumes nothing.
use Rattle.std.proofs.Common.{◌≡◌, ℕ, ◌+◌, ◌-◌, ◌*◌, ◌/◌, ◌%◌, ◌^◌, ◌<◌, ◌≤◌, sym, ap, ◌∙◌, lt_of_le_of_lt, le_of_lt, mod-eq_of_lt, mul_comm, mul-le-mul_left, one-mul, arith, lit<, pow_mono, pow-add, shl_lt, shl_exact}
use native.Mathlib.Nat.{div-add-mod, mod-mod}
use Rattle.ring.specs.Word.{Q, neg, comp}

-- a product of two words fits 64 bits
pub mul-lt-pow : {a b : ℕ} (s t : ℕ) → a < 2 ^ s → b < 2 ^ t → a * b < 2 ^ (s + t)
mul-lt-pow {a} s t ha hb = lt_of_le_of_lt (mul-le-mul_left a (le_of_lt hb)) (shl_lt s t ha)

-- `1 << s` at 32 bits
pub one_shl : (s : ℕ) → s < 32 → (1 * 2 ^ s) % 2 ^ 32 ≡ 2 ^ s
one_shl s h = shl_exact {a = 1} 1 s 32 (lit< tt) (omega arith) ∙ one-mul (2 ^ s)

-- below 32, what `ring::power` gives is the power itself
pub power_below : (s : ℕ) → s < 32 → 2 ^ s % Q ≡ 2 ^ s
unfolding Q
power_below s h = mod-eq_of_lt (pow_mono_lt s h)
  where
    pow_mono_lt : (s : ℕ) → s < 32 → 2 ^ s < 4294967296
    pow_mono_lt s h = let b = pow_mono {i = s} {j = 31} (omega arith) in omega arith

-- from 32 on, a power of 2 is a multiple of Q
pub power_past : (s : ℕ) → 32 ≤ s → 0 ≡ 2 ^ s % Q
unfolding Q
power_past s h =
    let e : 2 ^ s ≡ 2 ^ (s - 32) * 2 ^ 32 = ap (λ (n : ℕ). 2 ^ n) (let q : s ≡ s - 32 + 32 = omega arith in q) ∙ pow-add 2 (s - 32) 32 in
    omega arith

-- a product modulo Q goes by its factors modulo Q
pub mul-mod_l : (a c : ℕ) → (a % Q * c) % Q ≡ (a * c) % Q
unfolding Q
mul-mod_l a c =
    let e : a * c ≡ (2 ^ 32 * (a / 2 ^ 32) + a % 2 ^ 32) * c = ap (λ (n : ℕ). n * c) (sym (div-add-mod a (2 ^ 32))) in
    omega arith

pub mul-mod_r : (a c : ℕ) → (a * (c % Q)) % Q ≡ (a * c) % Q
mul-mod_r a c = ap (λ (n : ℕ). n % Q) (mul_comm a (c % Q)) ∙ mul-mod_l c a ∙ ap (λ (n : ℕ). n % Q) (mul_comm c a)

pub neg-mod : (x : ℕ) → neg (x % Q) ≡ neg x
unfolding neg
neg-mod x = ap (λ (y : ℕ). Q - y) (mod-mod x Q)

pub neg-plus : (s d : ℕ) → neg (s + d) % Q ≡ (neg s + neg d) % Q
unfolding neg Q
neg-plus s d = omega arith

-- what is added counts modulo Q
pub glue : (a x y : ℕ) → x % Q ≡ y % Q → (a + x) % Q ≡ (a + y) % Q
unfolding Q
glue a x y e = omega arith

-- neg is what is wanted of it
pub neg_adds : (x : ℕ) → (x + neg x) % Q ≡ 0
unfolding neg Q
neg_adds x = omega arith

pub neg-neg : (x : ℕ) → neg (neg x) % Q ≡ x % Q
unfolding neg Q
neg-neg x = omega arith

pub comp_below : (x : ℕ) → comp x < Q
unfolding comp Q
comp_below x = omega arith

-- the complement is one less than the negative
pub comp-neg : (x : ℕ) → (comp x + 1) % Q ≡ neg x % Q
unfolding comp neg Q
comp-neg x = omega arith
