-- Extraction at its last index, and its refusals, by computing the definitions. Document 01's own case is in egl_c.
-- Assumes nothing.
use mathlib.Core.Path.{◌≡◌, refl}
use mathlib.Core.List.{[], ◌∷◌}
use Rattle.params.specs.declared.Params.{Params}
use Rattle.params.specs.Ranges.{params_number}
use Rattle.params.specs.Published.{numbers}
use Rattle.ring.specs.Word.{Q, comp}
use Rattle.ring.specs.Sums.{tab}
use Rattle.ring.specs.Phase.{extract}
use Rattle.trlwe.specs.Extract.{extract_number, extract_out}

-- N 4
abbrev four : Params
four = numbers 1 2 6 3 2 8

-- at N - 1 nothing is complemented; at N the call is refused, and after a slice of another length, in table order
pub extract_ends : (extract_out four (1 ∷ 2 ∷ 3 ∷ 4 ∷ []) (5 ∷ 6 ∷ 7 ∷ 8 ∷ []) 3 (0 ∷ 0 ∷ 0 ∷ 0 ∷ 0 ∷ []) ≡ 4 ∷ 3 ∷ 2 ∷ 1 ∷ 8 ∷ [])
    × (extract_number four 4 4 4 5 ≡ 3)
    × (extract_number four 4 3 4 5 ≡ 2)
    × (extract_number (numbers 0 2 6 3 2 8) 4 3 4 5 ≡ 1)
unfolding extract_number params_number extract tab comp Q
extract_ends = (refl, refl, refl, refl)
