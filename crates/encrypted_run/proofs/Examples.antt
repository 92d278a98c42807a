-- Which rows of a switching key two keys must share to be alike for a sample: those of its fields that are not 0 and no other. Each field computes.
-- Assumes nothing.
use mathlib.Core.Path.{refl}
use mathlib.Core.List.{[], ◌∷◌}
use Prim.Native.Nat.{zero, suc}
use native.Mathlib.Omega.{arith}
use Rattle.ring.specs.Word.{Q, field_of}
use Rattle.ring.specs.Lists.{part}
use Rattle.params.specs.declared.Params.{Params}
use Rattle.params.specs.Published.{numbers}
use Rattle.key.specs.Switching.{row_part, row_index}
use Rattle.switching.specs.Switched.{rounding, rounded, mask_field}
use Rattle.encrypted_run.specs.Rows.{RowsAlike}

-- n 1, N 2, BASEBIT 1, T 1: rows (0, 0, 1) and (1, 0, 1) of two words
abbrev two : Params
two = numbers 1 1 6 3 1 1

-- the first mask's field is 0 and the second's is 1, so row (1, 0, 1), the last, is used: the keys share it and nothing else
pub unused_row : RowsAlike two (5 ∷ 6 ∷ 7 ∷ 8 ∷ []) (9 ∷ 9 ∷ 7 ∷ 8 ∷ []) (0 ∷ 0x80000000 ∷ 9 ∷ [])
unfolding RowsAlike Q part row_part row_index rounding rounded field_of mask_field
unused_row zero zero x hi hj hx nonzero = absurd (nonzero refl)
unused_row (suc zero) zero x hi hj hx nonzero = refl
unused_row (suc (suc i)) zero x hi hj hx nonzero = absurd (let f : ⊥ = omega (arith, hi) in f)
unused_row i (suc j) x hi hj hx nonzero = absurd (let f : ⊥ = omega (arith, hj) in f)
