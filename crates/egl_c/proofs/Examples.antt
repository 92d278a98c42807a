-- The P cases of document 01 ('Proved examples'), one computed statement over the definitions that the exported functions cite: every side computes.
-- Assumes nothing.
use mathlib.Core.Path.{◌≡◌, refl}
use mathlib.Core.List.{List, [], ◌∷◌}
use Prim.Native.Nat.{ℕ}
use lib.IntN.{ℤ, pos, negsuc}
use Rattle.ring.specs.Word.{Q, neg, comp, field_of}
use Rattle.ring.specs.Sums.{sum_to, tab}
use Rattle.ring.specs.Turn.{source, rotated}
use Rattle.ring.specs.Phase.{extract}
use Rattle.ring.specs.Centre.{H, centre}
use Rattle.params.specs.Published.{security128}
use Rattle.key.specs.Offset.{offset}
use Rattle.decomposition.specs.Digit.{digit_of}
use Rattle.trlwe.specs.Extract.{extracted}
use Rattle.rotation.specs.Amount.{half, step, body_amount}

-- the digits of x at BGBIT 6, L 3, which the 128-bit set has, read as signed
abbrev digits : ℕ → List ℤ
digits x = centre (digit_of security128 x 0) ∷ centre (digit_of security128 x 1) ∷ centre (digit_of security128 x 2) ∷ []

-- the polynomial of the cases on rotation and extraction, N 4
abbrev four : List ℕ
four = 1 ∷ 2 ∷ 3 ∷ 4 ∷ []

pub document01 : (offset security128 ≡ 0x82080000)
    × (digits 0 ≡ pos 0 ∷ pos 0 ∷ pos 0 ∷ [])
    × (digits 0xFFFFFFFF ≡ pos 0 ∷ pos 0 ∷ negsuc 0 ∷ [])
    × (digits 0x80000000 ≡ negsuc 31 ∷ pos 0 ∷ pos 0 ∷ [])
    × (digits 0x7FFFFFFF ≡ negsuc 31 ∷ pos 0 ∷ negsuc 0 ∷ [])
    × (rotated 4 1 four ≡ 0xFFFFFFFB ∷ 1 ∷ 2 ∷ 3 ∷ [])
    × (rotated 4 7 four ≡ 2 ∷ 3 ∷ 4 ∷ 0xFFFFFFFE ∷ [])
    × (rotated 4 4 four ≡ 0xFFFFFFFE ∷ 0xFFFFFFFD ∷ 0xFFFFFFFC ∷ 0xFFFFFFFB ∷ [])
    × (rotated 4 8 four ≡ four)
    × (extracted 4 0 four (5 ∷ 6 ∷ 7 ∷ 8 ∷ []) ≡ 1 ∷ 0xFFFFFFFB ∷ 0xFFFFFFFC ∷ 0xFFFFFFFD ∷ 5 ∷ [])
    × (body_amount security128 0 ≡ 2048)
    × (body_amount security128 0xFFF00000 ≡ 0)
unfolding Q neg comp sum_to tab source rotated extract H centre offset field_of digit_of half step body_amount
document01 = (refl, refl, refl, refl, refl, refl, refl, refl, refl, refl, refl, refl)
