-- Every operation on ciphertexts is x · a + y · b for words x and y: each content is `combine`'s, word by word modulo Q.
-- Assumes nothing.
use mathlib.Core.Path.{◌≡◌, ap, ◌∙◌}
use mathlib.Core.List.{List}
use Prim.Native.Nat.{ℕ, ◌+◌, ◌-◌, ◌*◌, ◌%◌, ◌^◌, ◌<◌}
use native.Mathlib.Omega.{arith}
use Rattle.ring.specs.Word.{Q, at, neg}
use Rattle.ring.specs.Sums.{tab}
use Rattle.ring.specs.Poly.{plus, minus, scale}
use Rattle.ring.proofs.Tab.{at-tab, tab_ext}
use Rattle.ring.proofs.Words.{mul-mod_l}
use Rattle.tlwe.specs.Linear.{negative}

-- the law behind all: a list whose words are those of x · a + y · b modulo Q is it
pub as_combined : (m x : ℕ) (a : List ℕ) (y : ℕ) (b : List ℕ) (f : ℕ → ℕ)
    → ((i : ℕ) → i < m → f i ≡ (x * at a i + y * at b i) % Q) → tab m f ≡ plus m (scale m x a) (scale m y b)
unfolding plus scale Q
as_combined m x a y b f h = tab_ext m _ _ (λ i l.
    let u = at-tab m (λ j. x * at a j % Q) i l in
    let v = at-tab m (λ j. y * at b j % Q) i l in
    let e = h i l in
    omega arith)

-- u - c · v is u + (-c) · v
pub less_times : (c u v : ℕ) → (u + neg (c * v % Q)) % Q ≡ (1 * u + neg c % Q * v) % Q
unfolding neg Q
less_times c u v =
    let r : c % 2 ^ 32 + (2 ^ 32 - c % 2 ^ 32) ≡ 2 ^ 32 = omega arith in
    let e : (c % 2 ^ 32 + (2 ^ 32 - c % 2 ^ 32)) * v ≡ 2 ^ 32 * v = ap (λ (n : ℕ). n * v) r in
    let f : (c % 2 ^ 32 * v) % 2 ^ 32 ≡ (c * v) % 2 ^ 32 = mul-mod_l c v in
    let g : ((2 ^ 32 - c % 2 ^ 32) % 2 ^ 32 * v) % 2 ^ 32 ≡ ((2 ^ 32 - c % 2 ^ 32) * v) % 2 ^ 32 = mul-mod_l (2 ^ 32 - c % 2 ^ 32) v in
    omega arith

module _ (m : ℕ) (a b : List ℕ) where
  pub add_combined : plus m a b ≡ plus m (scale m 1 a) (scale m 1 b)
  unfolding plus Q
  add_combined = as_combined m 1 a 1 b _ (λ i l. omega arith)

  pub sub_combined : minus m a b ≡ plus m (scale m 1 a) (scale m 4294967295 b)
  unfolding minus neg Q
  sub_combined = as_combined m 1 a 4294967295 b _ (λ i l. omega arith)

  pub neg_combined : negative m a ≡ plus m (scale m 4294967295 a) (scale m 0 a)
  unfolding negative neg Q
  neg_combined = as_combined m 4294967295 a 0 a _ (λ i l. omega arith)

  module _ (c : ℕ) where
    pub add_mul_combined : plus m a (scale m c b) ≡ plus m (scale m 1 a) (scale m c b)
    unfolding plus scale Q
    add_mul_combined = as_combined m 1 a c b _ (λ i l. let v = at-tab m (λ j. c * at b j % Q) i l in omega arith)

    -- the multiplier's negative
    pub sub_mul_combined : minus m a (scale m c b) ≡ plus m (scale m 1 a) (scale m (neg c % Q) b)
    unfolding minus scale
    sub_mul_combined = as_combined m 1 a (neg c % Q) b _ (λ i l. ap (λ (t : ℕ). (at a i + neg t) % Q) (at-tab m (λ j. c * at b j % Q) i l) ∙ less_times c (at a i) (at b i))
