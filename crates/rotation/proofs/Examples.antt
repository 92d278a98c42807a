-- Cases that document 01 names beside its proved ones (those are in egl_c), computed from the definitions: the greatest amount and one more; NBIT 10, b's amount
-- just below a wrap, and the same word as a mask.
-- Assumes nothing.
use mathlib.Core.Path.{◌≡◌, refl}
use Rattle.params.specs.declared.Params.{Params}
use Rattle.params.specs.Ranges.{params_number}
use Rattle.params.specs.Published.{numbers, security128}
use Rattle.ring.specs.Word.{Q}
use Rattle.rotation.specs.Amount.{half, step, mask_amount, body_amount}
use Rattle.rotation.specs.Rotate.{rotate_number}

-- N 4
abbrev four : Params
four = numbers 1 2 6 3 2 9

pub examples :
    (rotate_number four 4 4 8 ≡ 0)
    × (rotate_number four 4 4 9 ≡ 3)
    × (body_amount security128 0xFFEFFFFF ≡ 1)
    × (mask_amount security128 0xFFF00000 ≡ 0)
unfolding Q rotate_number params_number body_amount mask_amount half step
examples = (refl, refl, refl, refl)
