-- Places and roundings worked out by hand from document 01 (section Drift, 'Remainder of a word: rounded steps (before any wrap) times 2h, less the word'; section trgsw, 'Rounding'), each computed from the
-- definitions: with the key's ones at some masks, with a mask and b near the turn's end, and with b alone.
-- Assumes nothing.
use mathlib.Core.Path.{◌≡◌, refl}
use mathlib.Core.List.{[], ◌∷◌}
use Rattle.ring.specs.Word.{Q, neg}
use Rattle.ring.specs.Sums.{sum_to}
use Rattle.ring.specs.Turn.{source}
use Rattle.params.specs.declared.Params.{Params}
use Rattle.params.specs.Published.{numbers}
use Rattle.rotation.specs.Amount.{half, step, mask_amount, body_amount}
use Rattle.blind_rotation.specs.Drift.{turn_to}
use Rattle.drift.specs.PrivateWords.{remainder_word, selected_word, rounding_word}
use Rattle.drift.specs.PrivateShort.{place_of}

-- n 2, N 4, BGBIT 6, L 3, BASEBIT 1, T 1: a turn has 8 steps of 2h = 0x20000000, and h is 0x10000000
abbrev pub small : Params
small = numbers 2 2 6 3 1 1

-- The key 1, 0 takes the first mask. 0x30000000 lies half-way and goes up to 2 steps, remainder 0x10000000; b, 0x45000000, goes down to 2 steps, remainder -0x05000000. 2 steps less 2: place 0. Rounding brings
-- in -0x05000000 - 0x10000000 = -0x15000000.
pub first_mask : (place_of small (1 ∷ 0 ∷ []) (0x30000000 ∷ 0x9ABCDEF0 ∷ 0x45000000 ∷ []) ≡ 0) × (rounding_word small (1 ∷ 0 ∷ []) (0x30000000 ∷ 0x9ABCDEF0 ∷ 0x45000000 ∷ []) ≡ 0xEB000000)
unfolding Q neg sum_to source half step mask_amount body_amount turn_to remainder_word selected_word rounding_word
first_mask = (refl, refl)

-- The key 1, 1 takes both. 0xF4000000 goes up to 8 steps, remainder 0x0C000000, and its amount wraps to 0; b, 0xF0000000, goes up to 8 steps, remainder 0x10000000, and its amount is 8 - 8 = 0. 8 steps less 2
-- less 8, modulo 8: place 6. Rounding brings in 0x10000000 - (0x10000000 + 0x0C000000) = -0x0C000000.
pub both_masks : (place_of small (1 ∷ 1 ∷ []) (0x30000000 ∷ 0xF4000000 ∷ 0xF0000000 ∷ []) ≡ 6) × (rounding_word small (1 ∷ 1 ∷ []) (0x30000000 ∷ 0xF4000000 ∷ 0xF0000000 ∷ []) ≡ 0xF4000000)
unfolding Q neg sum_to source half step mask_amount body_amount turn_to remainder_word selected_word rounding_word
both_masks = (refl, refl)

-- The key 0, 0 takes none: b, 0x65000000, goes down to 3 steps, remainder -0x05000000. One word less than half-way goes down too: 0x6FFFFFFF has remainder -0x0FFFFFFF.
pub no_mask : (place_of small (0 ∷ 0 ∷ []) (0x30000000 ∷ 0xF4000000 ∷ 0x65000000 ∷ []) ≡ 3) × (rounding_word small (0 ∷ 0 ∷ []) (0x30000000 ∷ 0xF4000000 ∷ 0x65000000 ∷ []) ≡ 0xFB000000)
    × (place_of small (0 ∷ 0 ∷ []) (0x30000000 ∷ 0xF4000000 ∷ 0x6FFFFFFF ∷ []) ≡ 3) × (rounding_word small (0 ∷ 0 ∷ []) (0x30000000 ∷ 0xF4000000 ∷ 0x6FFFFFFF ∷ []) ≡ 0xF0000001)
unfolding Q neg sum_to source half step mask_amount body_amount turn_to remainder_word selected_word rounding_word
no_mask = (refl, refl, refl, refl)
