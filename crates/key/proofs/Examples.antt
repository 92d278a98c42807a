-- The offset by its sum and by its rule, and what stands in place of a value where a call is refused: computed. The switching key has its own cases (SwitchingExamples).
-- Assumes nothing.
use mathlib.Core.Path.{◌≡◌, refl}
use Prim.Native.Nat.{ℕ}
use Rattle.ring.specs.Word.{Q}
use Rattle.ring.specs.Sums.{sum_to}
use Rattle.std.specs.Prelude.{Err}
use Rattle.params.specs.declared.Params.{Params}
use Rattle.params.specs.declared.refusal.Refusal.TheVariants.{Parameters, Index}
use Rattle.params.specs.Ranges.{params_number}
use Rattle.params.specs.Published.{numbers, security128, uint1}
use Rattle.key.specs.Offset.{offset, offset_out}
use Rattle.key.specs.OffsetRule.{offset_rule}
use Rattle.key.specs.Switching.{lookup_number, place_out}

-- by 01's sum and by its rule: document 01's P case, Uint1's, the ends of BGBIT with one digit, and L·BGBIT 32, where the rule's exponent is BGBIT - 1
abbrev Both : Params → ℕ → Type 0
Both p w = (offset p ≡ w) × (offset_rule p ≡ w)

pub offsets : Both security128 0x82080000
    × Both uint1 0x80200000
    × Both (numbers 1 1 1 1 1 1) 0x80000000
    × Both (numbers 1 1 24 1 1 1) 0x80000000
    × Both (numbers 1 1 8 4 1 1) 0x80808080
    × Both (numbers 1 1 16 2 1 1) 0x80008000
    × Both (numbers 1 1 1 32 1 1) 0xFFFFFFFF
unfolding offset offset_rule sum_to Q
offsets = ((refl, refl), (refl, refl), (refl, refl), (refl, refl), (refl, refl), (refl, refl), (refl, refl))

-- where refused there is the refusal and no value: n 0; a row of the digit 2 where BASE is 2; and one of the digit 0
pub beside : (offset_out (numbers 0 1 6 3 1 1) ≡ Err Parameters)
    × (place_out (numbers 1 1 1 1 1 1) 0 0 2 ≡ Err Index)
    × (place_out (numbers 1 1 1 1 1 1) 1 0 0 ≡ Err Index)
unfolding offset_out place_out params_number lookup_number
beside = (refl, refl, refl)
