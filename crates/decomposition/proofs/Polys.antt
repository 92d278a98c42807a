-- The laws of digits, carried over to polynomials: a total is the list of the sums of its words, so digit polynomials recompose word by word.
-- Assumes nothing.
use mathlib.Core.Path.{◌≡◌, refl, ap, ◌∙◌}
use mathlib.Core.List.{List}
use Prim.Native.Nat.{ℕ, zero, suc, ◌*◌, ◌%◌, ◌<◌}
use native.Mathlib.Nat.{mul_comm, mod-mod}
use native.Mathlib.Omega.{arith}
use Rattle.ring.specs.Word.{Q, at}
use Rattle.ring.specs.Sums.{sum_to, tab}
use Rattle.ring.specs.Poly.{plus, scale, total}
use Rattle.ring.proofs.Tab.{at-tab, tab_ext}
use Rattle.ring.proofs.SumLaws.{sum_mod}
use Rattle.params.specs.declared.Params.{Params}
use Rattle.params.specs.Ranges.{InRange}
use Rattle.params.specs.Sizes.{size}
use Rattle.decomposition.specs.Digit.{digit_of, digit_poly, digit_weight, cleared_poly}
use Rattle.decomposition.proofs.Digits.{recompose}

-- a total, word by word
pub total-tab : (N n : ℕ) (f : ℕ → List ℕ) → total N n f ≡ tab N (λ x. sum_to n (λ i. at (f i) x) % Q)
unfolding total sum_to plus Q
total-tab N zero f = refl
total-tab N (suc n) f =
    tab_ext N _ _ (λ x l. let e : at (total N n f) x ≡ sum_to n (λ i. at (f i) x) % Q = ap (λ (t : List ℕ). at t x) (total-tab N n f) ∙ at-tab N _ x l in omega arith)

-- a coefficient of a digit polynomial times its weight
term : (p : Params) (a : List ℕ) (i x : ℕ) → x < size p → at (scale (size p) (digit_weight p i) (digit_poly p i a)) x % Q ≡ digit_of p (at a x) i * digit_weight p i % Q
unfolding scale digit_poly
term p a i x l =
    ap (λ (n : ℕ). n % Q) (at-tab (size p) _ x l) ∙ mod-mod _ Q
    ∙ ap (λ (n : ℕ). digit_weight p i * n % Q) (at-tab (size p) _ x l) ∙ ap (λ (n : ℕ). n % Q) (mul_comm (digit_weight p i) _)

-- the digit polynomials recompose to the polynomial with its low bits cleared
pub recompose_poly : (p : Params) → InRange p → (a : List ℕ) → ((x : ℕ) → at a x < Q)
    → total (size p) p.l (λ i. scale (size p) (digit_weight p i) (digit_poly p i a)) ≡ cleared_poly p a
unfolding cleared_poly
recompose_poly p r a ra =
    total-tab (size p) p.l _
    ∙ tab_ext (size p) _ _ (λ x l. sum_mod p.l _ (λ i. digit_of p (at a x) i * digit_weight p i) (λ i li. term p a i x l) ∙ recompose p r (at a x) (ra x))
