-- Rows and their numbers (01, key; 02, 2026-06): row (i, j, k) has a place below the number of rows, the place gives i, j and k back, so no two rows share one, and
-- every number below the number of rows is some row's. A place is a number made of three.
-- Assumes nothing.
use mathlib.Core.Path.{◌≡◌, sym, ap, ◌∙◌}
use Prim.Native.Nat.{ℕ, ◌-◌, ◌/◌, ◌≤◌, ◌<◌}
use native.Mathlib.Nat.{mod-lt}
use native.Mathlib.Omega.{arith}
use Rattle.params.specs.declared.Params.{Params}
use Rattle.params.specs.Ranges.{InRange}
use Rattle.params.specs.Sizes.{size, base, switching_rows}
use Rattle.params.proofs.Ranges.{base_two}
use Rattle.key.specs.Switching.{row_index}
use Rattle.key.specs.Generation.{row_outer, row_field, row_digit}
use Rattle.key.proofs.Mixed.{first_of, second_of, third_of, made_below, made_of, first_below}

-- ---- a number below the number of rows

module _ (p : Params) (range : InRange p) (r : ℕ) where
  digits_from : 0 < base p - 1
  digits_from = let b = base_two p range in omega arith

  pub field_below : row_field p r < p.t
  unfolding row_field
  field_below = mod-lt (r / (base p - 1)) range.t_from

  pub digit_from : 1 ≤ row_digit p r
  unfolding row_digit
  digit_from = omega arith

  pub digit_below : row_digit p r < base p
  unfolding row_digit
  digit_below = let h = mod-lt r digits_from in omega arith

  pub outer_below : r < switching_rows p → row_outer p r < size p
  unfolding row_outer
  outer_below h = first_below (base p - 1) p.t (size p) r digits_from range.t_from h

  -- it is the place of its row
  pub number_back : row_index p (row_outer p r) (row_field p r) (row_digit p r) ≡ r
  unfolding row_index row_outer row_field row_digit
  number_back = let e = made_of (base p - 1) p.t r in omega arith

-- ---- a row

module _ (p : Params) (i j k : ℕ) (hj : j < p.t) (from : 1 ≤ k) (hk : k < base p) where
  less : k - 1 < base p - 1
  less = omega arith

  pub outer_back : row_outer p (row_index p i j k) ≡ i
  unfolding row_outer row_index
  outer_back = first_of (base p - 1) p.t i j (k - 1) hj less

  pub field_back : row_field p (row_index p i j k) ≡ j
  unfolding row_field row_index
  field_back = second_of (base p - 1) p.t i j (k - 1) hj less

  pub digit_back : row_digit p (row_index p i j k) ≡ k
  unfolding row_digit row_index
  digit_back = let e = third_of (base p - 1) p.t i j (k - 1) hj less in omega arith

  pub row_below : i < size p → row_index p i j k < switching_rows p
  unfolding row_index
  row_below = made_below (base p - 1) p.t i j (k - 1) hj less (size p)

-- no two rows share a place
pub rows_apart : (p : Params) (i j k i' j' k' : ℕ) → j < p.t → 1 ≤ k → k < base p → j' < p.t → 1 ≤ k' → k' < base p → row_index p i j k ≡ row_index p i' j' k'
    → (i ≡ i') × (j ≡ j') × (k ≡ k')
rows_apart p i j k i' j' k' hj from hk hj' from' hk' e = (
  sym (outer_back p i j k hj from hk) ∙ ap (row_outer p) e ∙ outer_back p i' j' k' hj' from' hk',
  sym (field_back p i j k hj from hk) ∙ ap (row_field p) e ∙ field_back p i' j' k' hj' from' hk',
  sym (digit_back p i j k hj from hk) ∙ ap (row_digit p) e ∙ digit_back p i' j' k' hj' from' hk',
)
