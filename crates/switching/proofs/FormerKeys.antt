-- Whoever held a key in the layout before 02, 2026-06, loses nothing: without its idle rows it switches every sample as it did. A field of 0 used no row then and uses none now, and
-- another's row is the one that stood there (`row_left`).
-- Assumes nothing.
use mathlib.Core.Path.{◌≡◌, ap, ◌∙◌}
use mathlib.Core.Bool.{cond}
use mathlib.Core.List.{List, []}
use Prim.Native.Nat.{ℕ, ◌+◌, ◌<◌}
use native.Mathlib.Decide.{ℕ_discrete}
use native.Mathlib.Nat.{pos_of_ne-zero}
use borrow.Author.Tests.{eq-eqb, ne_eqb}
use lib.Dec.{eqb}
use lib.ListN.{length}
use Rattle.ring.specs.Word.{at}
use Rattle.ring.specs.Poly.{minus, total}
use Rattle.ring.specs.Phase.{trivial}
use Rattle.ring.proofs.Samples.{total_ext}
use Rattle.ring.proofs.Fields.{field_below}
use Rattle.params.specs.declared.Params.{Params}
use Rattle.params.specs.Ranges.{InRange}
use Rattle.params.specs.Sizes.{size, base}
use Rattle.key.specs.Former.{former_words, former_row, without_idle}
use Rattle.key.proofs.IdleRows.{row_left}
use Rattle.switching.specs.Switched.{rounded, mask_field, used_row, mask_rows, switched}
use Rattle.switching.proofs.Rows.{no_row, the_row}

-- switching as it was: `switched`, its rows from the former places
abbrev former_switched : Params → List ℕ → List ℕ → List ℕ
former_switched p former src =
    minus (p.n + 1) (trivial p.n (at src (size p)))
    (total (p.n + 1) (size p) (λ i. total (p.n + 1) p.t (λ j. cond (eqb (mask_field p src i j) 0) [] (former_row p former i j (mask_field p src i j)))))

module _ (p : Params) (range : InRange p) (former : List ℕ) (e : length former ≡ former_words p) where
  row_used : (i j k : ℕ) → i < size p → j < p.t → k < base p → used_row p (without_idle p former) i j k ≡ cond (eqb k 0) [] (former_row p former i j k)
  row_used i j k hi hj hk = go (ℕ_discrete k 0)
    where
      go : Dec (k ≡ 0) → used_row p (without_idle p former) i j k ≡ cond (eqb k 0) [] (former_row p former i j k)
      go (yes z) = no_row p (without_idle p former) i j k z ∙ rw (eq-eqb k 0 z)
      go (no d) = the_row p (without_idle p former) i j k d ∙ row_left p range former e i j k hi hj (pos_of_ne-zero d) hk ∙ rw (ne_eqb k 0 d)

  pub switched_as_before : (src : List ℕ) → switched p (without_idle p former) src ≡ former_switched p former src
  unfolding switched mask_rows mask_field
  switched_as_before src =
      ap (minus (p.n + 1) (trivial p.n (at src (size p))))
      (total_ext (p.n + 1) (size p) _ _ (λ i x hi hx. ap (λ (l : List ℕ). at l x)
      (total_ext (p.n + 1) p.t _ _ (λ j y hj hy. ap (λ (l : List ℕ). at l y) (row_used i j (mask_field p src i j) hi hj (field_below (rounded p (at src i)) p.basebit j))))))
