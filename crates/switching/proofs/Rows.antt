-- The row that a field uses, and that a switching depends on no other.
-- Assumes nothing.
use mathlib.Core.Path.{◌≡◌, ap}
use mathlib.Core.List.{List, []}
use Prim.Native.Nat.{ℕ, ◌+◌, ◌<◌}
use native.Mathlib.Decide.{ℕ_discrete}
use borrow.Author.Tests.{eq-eqb, ne_eqb}
use Rattle.params.specs.declared.Params.{Params}
use Rattle.params.specs.Sizes.{size}
use Rattle.ring.specs.Word.{at}
use Rattle.ring.specs.Poly.{minus}
use Rattle.ring.specs.Phase.{trivial}
use Rattle.key.specs.Switching.{row_part}
use Rattle.switching.specs.Switched.{mask_field, used_row, mask_rows, switched}
use Rattle.ring.proofs.Samples.{total_ext}

module _ (p : Params) (key : List ℕ) (i j k : ℕ) where
  pub no_row : k ≡ 0 → used_row p key i j k ≡ []
  unfolding used_row
  no_row e = rw (eq-eqb k 0 e)

  pub the_row : (k ≡ 0 → ⊥) → used_row p key i j k ≡ row_part p key i j k
  unfolding used_row
  the_row h = rw (ne_eqb k 0 h)

-- keys that are alike in the rows used switch alike
module _ (p : Params) (key key' src : List ℕ)
    (h : (i j x : ℕ) → i < size p → j < p.t → x < p.n + 1 → (mask_field p src i j ≡ 0 → ⊥)
    → at (row_part p key i j (mask_field p src i j)) x ≡ at (row_part p key' i j (mask_field p src i j)) x) where
  row_alike : (i j x : ℕ) → i < size p → j < p.t → x < p.n + 1 → at (used_row p key i j (mask_field p src i j)) x ≡ at (used_row p key' i j (mask_field p src i j)) x
  row_alike i j x hi hj hx = go (ℕ_discrete (mask_field p src i j) 0)
    where
      go : Dec (mask_field p src i j ≡ 0) → at (used_row p key i j (mask_field p src i j)) x ≡ at (used_row p key' i j (mask_field p src i j)) x
      go (yes e) = rw (no_row p key i j (mask_field p src i j) e, no_row p key' i j (mask_field p src i j) e)
      go (no d) = rw (the_row p key i j (mask_field p src i j) d, the_row p key' i j (mask_field p src i j) d) (h i j x hi hj hx d)

  pub used_alike : switched p key src ≡ switched p key' src
  unfolding switched mask_rows
  used_alike =
      ap (minus (p.n + 1) (trivial p.n (at src (size p))))
      (total_ext (p.n + 1) (size p) _ _ (λ i x hi hx. ap (λ (l : List ℕ). at l x) (total_ext (p.n + 1) p.t _ _ (λ j y hj hy. row_alike i j y hi hj hy))))
