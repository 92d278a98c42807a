-- The published sets: which are in range, by computing the table at each.
-- Assumes nothing.
use mathlib.Core.Path.{◌≡◌, refl}
use Rattle.params.specs.Ranges.{params_number}
use Rattle.params.specs.Published.{security80, security110, security128, uint1, uint2, uint3, uint4, uint5, uint6, uint7, uint8}

pub accepted : (params_number security80 ≡ 0)
    × (params_number security110 ≡ 0)
    × (params_number security128 ≡ 0)
    × (params_number uint1 ≡ 0)
    × (params_number uint2 ≡ 0)
    × (params_number uint3 ≡ 0)
    × (params_number uint4 ≡ 0)
    × (params_number uint5 ≡ 0)
    × (params_number uint6 ≡ 0)
unfolding params_number
accepted = (refl, refl, refl, refl, refl, refl, refl, refl, refl)

pub refused : (params_number uint7 ≡ 1) × (params_number uint8 ≡ 1)
unfolding params_number
refused = (refl, refl)
