-- The phase of the external product, for any rows at all: the rows are taken as what they should carry with their errors, and the digits recompose.
-- Assumes nothing.
use mathlib.Core.Path.{◌≡◌, refl, sym, ap, ap₂, ◌∙◌}
use mathlib.Core.List.{List, [], ◌∷◌}
use Prim.Native.Nat.{ℕ, zero, suc, ◌+◌, ◌-◌, ◌*◌, ◌%◌, ◌^◌, ◌<◌}
use native.Mathlib.Nat.{add-sub_cancel_left}
use native.Mathlib.Omega.{arith}
use borrow.Author.Tests.{lt-ltb, le-ltb}
use lib.Pow.{split}
use Rattle.ring.specs.Word.{Q, neg, at}
use Rattle.ring.specs.Poly.{plus, minus, scale, total}
use Rattle.ring.specs.Phase.{phase}
use Rattle.ring.proofs.Tab.{at-tab, tab_ext}
use Rattle.ring.proofs.Value.{Proper, by_value, value, value-plus, value-minus, 𝓟}
use Rattle.ring.proofs.Solve.{#, ◌:+◌, ◌:-◌, solve}
use Rattle.ring.proofs.Laws.{phase_external, plus_proper, minus_proper, phase_proper}
use Rattle.params.specs.declared.Params.{Params}
use Rattle.params.specs.Ranges.{InRange}
use Rattle.params.specs.Sizes.{size}
use Rattle.params.proofs.Ranges.{size_from}
use Rattle.decomposition.specs.Digit.{digit_poly, digit_weight, cleared, cleared_poly}
use Rattle.decomposition.specs.Pair.{pair_digit}
use Rattle.decomposition.proofs.Flat.{pair_low, pair_high}
use Rattle.decomposition.proofs.Polys.{recompose_poly}
use Rattle.trgsw.specs.External.{row_a, row_b, external}
use Rattle.trgsw.specs.Errors.{bootstrapping_row_error, digit_errors, low_poly}
use Rattle.ring.specs.Pair.{Pair}

-- a sum less its second part, and a difference with it again
module _ (N : ℕ) (h : 0 < N) (a s : List ℕ) (pa : Proper N h a) where
  plus_less : minus N (plus N a s) s ≡ a
  plus_less = by_value N h (minus_proper N h (plus N a s) s) pa (simp (value-minus N h, value-plus N h)
      (solve (𝓟 N h) (value N h a ∷ value N h s ∷ []) (# 0 :+ # 1 :- # 1) (# 0) refl))

  less_plus : plus N s (minus N a s) ≡ a
  less_plus = by_value N h (plus_proper N h s (minus N a s)) pa (simp (value-minus N h, value-plus N h)
      (solve (𝓟 N h) (value N h a ∷ value N h s ∷ []) (# 1 :+ (# 0 :- # 1)) (# 0) refl))

pub total_ext : (N n : ℕ) (f g : ℕ → List ℕ) → ((i : ℕ) → i < n → f i ≡ g i) → total N n f ≡ total N n g
unfolding total
total_ext N zero f g e = refl
total_ext N (suc n) f g e = ap₂ (plus N) (total_ext N n f g (λ i l. e i (omega arith))) (e n (omega arith))

-- the polynomial less its low bits is the polynomial with them cleared
pub cleared_less : (p : Params) (a : List ℕ) → ((i : ℕ) → at a i < Q) → cleared_poly p a ≡ minus (size p) a (low_poly p a)
unfolding cleared_poly cleared minus low_poly neg Q
cleared_less p a w = tab_ext (size p) _ _ (λ i l.
    let s : ℕ = 32 - p.l * p.bgbit in
    let e = at-tab (size p) (λ i. at a i % 2 ^ s) i l in
    let b = w i in
    omega (arith, split (at a i) s))

module _ (p : Params) (r : InRange p) (z rows : List ℕ) (m : ℕ) where
  abbrev N : ℕ
  N = size p

  -- the rows, by their errors
  row_low : (i : ℕ) → i < p.l → phase N z (row_a p rows i) (row_b p rows i) ≡ minus N (bootstrapping_row_error p z rows m i) (scale N (m * digit_weight p i) z)
  unfolding bootstrapping_row_error
  row_low i l = rw (lt-ltb i p.l l) (sym (plus_less N (size_from p) _ _ (phase_proper N (size_from p) z (row_a p rows i) (row_b p rows i))))

  row_high : (i : ℕ) → i < p.l
      → phase N z (row_a p rows (p.l + i)) (row_b p rows (p.l + i)) ≡ plus N (scale N (m * digit_weight p i) (1 ∷ [])) (bootstrapping_row_error p z rows m (p.l + i))
  unfolding bootstrapping_row_error
  row_high i l =
      rw (le-ltb (p.l + i) p.l (omega arith), add-sub_cancel_left p.l i)
      (sym (less_plus N (size_from p) _ _ (phase_proper N (size_from p) z (row_a p rows (p.l + i)) (row_b p rows (p.l + i)))))

  module _ (x : Pair) (wa : (i : ℕ) → at x.a i < Q) (wb : (i : ℕ) → at x.b i < Q) where
    digits_low : total N p.l (λ i. scale N (digit_weight p i) (pair_digit p x i)) ≡ cleared_poly p x.a
    digits_low = total_ext N p.l _ _ (λ i l. ap (scale N (digit_weight p i)) (sym (pair_low p x i l))) ∙ recompose_poly p r x.a wa

    digits_high : total N p.l (λ i. scale N (digit_weight p i) (pair_digit p x (p.l + i))) ≡ cleared_poly p x.b
    digits_high =
        total_ext N p.l _ _ (λ i l. ap (scale N (digit_weight p i)) (sym (ap (λ (k : ℕ). digit_poly p k x.b) (sym (add-sub_cancel_left p.l i)) ∙ pair_high p x (p.l + i) (omega arith))))
        ∙ recompose_poly p r x.b wb

    -- the external product's phase: m times that of the cleared pair, and the digits times the rows' errors (TFHE paper, Theorem 3.14)
    pub external-phase : phase N z (external p rows x).a (external p rows x).b
        ≡ plus N (scale N m (phase N z (cleared_poly p x.a) (cleared_poly p x.b))) (digit_errors p z rows m x)
    unfolding external digit_errors
    external-phase = phase_external N (size_from p) p.l m z (cleared_poly p x.a) (cleared_poly p x.b) (pair_digit p x) (row_a p rows) (row_b p rows) (bootstrapping_row_error p z rows m) (digit_weight p)
        row_low row_high digits_low digits_high
