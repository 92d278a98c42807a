-- The cases of document 01 that concern the fields of key switching, at BASEBIT 2 and T 8: 0x7FFF and 0xFFFF8000 use no row, 0x8000 uses one.
-- Each side is computed from the definitions.
-- Assumes nothing.
use mathlib.Core.Path.{◌≡◌, refl}
use mathlib.Core.List.{List, [], ◌∷◌}
use Prim.Native.Nat.{ℕ}
use Rattle.params.specs.declared.Params.{Params}
use Rattle.params.specs.Ranges.{params_number}
use Rattle.params.specs.Published.{numbers, security110}
use Rattle.ring.specs.Word.{Q, neg, field_of}
use Rattle.ring.specs.Sums.{tab}
use Rattle.ring.specs.Lists.{part}
use Rattle.ring.specs.Poly.{plus, minus, total}
use Rattle.ring.specs.Phase.{trivial}
use Rattle.key.specs.Switching.{row_part, row_index}
use Rattle.switching.specs.Switched.{switch_number, rounding, rounded, mask_field, used_row, mask_rows, switched}

-- the 8 fields of a mask
abbrev fields : ℕ → List ℕ
fields a = tab 8 (mask_field security110 (a ∷ []) 0)

-- n 1, N 2, BASEBIT 1, T 1: rows (0, 0, 1) and (1, 0, 1) of 2 words
abbrev two : Params
two = numbers 1 1 6 3 1 1

abbrev key : List ℕ
key = 5 ∷ 6 ∷ 7 ∷ 8 ∷ []

pub examples :
    (fields 0x7FFF ≡ 0 ∷ 0 ∷ 0 ∷ 0 ∷ 0 ∷ 0 ∷ 0 ∷ 0 ∷ [])
    × (fields 0xFFFF8000 ≡ 0 ∷ 0 ∷ 0 ∷ 0 ∷ 0 ∷ 0 ∷ 0 ∷ 0 ∷ [])
    × (fields 0x8000 ≡ 0 ∷ 0 ∷ 0 ∷ 0 ∷ 0 ∷ 0 ∷ 0 ∷ 1 ∷ [])
    × (switch_number two 3 4 2 ≡ 0)
    × (switch_number two 3 8 2 ≡ 2)
    × (switched two key (0 ∷ 0x80000000 ∷ 9 ∷ []) ≡ 0xFFFFFFF9 ∷ 1 ∷ [])
    × (switched two key (0x40000000 ∷ 0x3FFFFFFF ∷ 9 ∷ []) ≡ 0xFFFFFFFB ∷ 3 ∷ [])
    × (switched two key (0xC0000000 ∷ 0 ∷ 9 ∷ []) ≡ 0 ∷ 9 ∷ [])
unfolding field_of mask_field rounded rounding tab plus minus total trivial Q neg switch_number params_number part row_part row_index used_row mask_rows switched
examples = (refl, refl, refl, refl, refl, refl, refl, refl)
