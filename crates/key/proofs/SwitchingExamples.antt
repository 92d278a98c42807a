-- The switching key, computed: a whole key at the smallest parameters, the order in which rows draw, places, a former key and the one that is left of it without its idle rows; and the refusals
-- of generation, lookup and dropping, each number in its turn.
-- Assumes nothing.
use mathlib.Core.Path.{◌≡◌, refl}
use mathlib.Core.List.{[], ◌∷◌}
use Prim.Native.Nat.{◌+◌, ◌*◌}
use Rattle.std.specs.Prelude.{Err}
use Rattle.params.specs.declared.refusal.Refusal.TheVariants.{Parameters}
use Rattle.ring.specs.Word.{Q}
use Rattle.ring.specs.Sums.{sum_to, tab}
use Rattle.ring.specs.Phase.{inner}
use Rattle.ring.specs.Lists.{part, joined}
use Rattle.params.specs.declared.Params.{Params}
use Rattle.params.specs.Ranges.{params_number}
use Rattle.params.specs.Sizes.{switching_rows, switching_words}
use Rattle.params.specs.Published.{numbers, security128}
use Rattle.tlwe.specs.Key.{binary}
use Rattle.key.specs.Switching.{row_index, carried, lookup_number, place_out}
use Rattle.key.specs.Generation.{row_outer, row_field, row_digit, row_masks, generated_row, generated, generate_number}
use Rattle.key.specs.Former.{former_words, former_index, former_row, without_idle, drop_number}
use Rattle.key.specs.FormerKey.{former_drawn, former_masks, former_made, former_key}

-- n 1, N 2, BASEBIT 1, T 1: a key has two rows of two words, one for each word of the level-1 key
abbrev two : Params
two = numbers 1 1 1 1 1 1

-- n 1, N 2, BASEBIT 2, T 1: six rows
abbrev six : Params
six = numbers 1 1 1 1 2 1

-- ---- the key

pub key : generated two (1 ∷ []) (1 ∷ 0 ∷ []) (5 ∷ 7 ∷ []) (3 ∷ 0xFFFFFFFF ∷ []) ≡ 5 ∷ 0x80000008 ∷ 7 ∷ 6 ∷ []
unfolding generated part joined generated_row row_masks row_outer row_field row_digit carried inner sum_to Q
key = refl

-- the former key from the same: of its four rows the second and the fourth draw
pub former_key_lem : former_key two (1 ∷ []) (1 ∷ 0 ∷ []) (5 ∷ 7 ∷ []) (3 ∷ 0xFFFFFFFF ∷ []) ≡ 0 ∷ 0 ∷ 5 ∷ 0x80000008 ∷ 0 ∷ 0 ∷ 7 ∷ 6 ∷ []
unfolding former_key part joined former_made former_masks former_drawn carried inner sum_to tab Q
former_key_lem = refl

-- n 2, N 2, BASEBIT 2, T 2: twelve rows draw two masks and a noise word each, one row after another; under keys of zeros nothing is added to the noise
pub in_order : generated (numbers 2 1 1 1 2 2) (0 ∷ 0 ∷ []) (0 ∷ 0 ∷ []) (tab 24 (λ i. i)) (tab 12 (λ i. 100 + i)) ≡ joined 12 (λ r. (2 * r) ∷ (2 * r + 1) ∷ (100 + r) ∷ [])
unfolding generated part joined generated_row row_masks row_outer row_field row_digit carried inner sum_to tab Q
in_order = refl

-- ---- places and lengths

-- the first row, the one after it, the first of the next field and of the next word of the key, and the last; the 128-bit set has 27,648 rows and had 36,864
pub places : (row_index security128 0 0 1 ≡ 0)
    × (row_index security128 0 0 2 ≡ 1)
    × (row_index security128 0 1 1 ≡ 3)
    × (row_index security128 1 0 1 ≡ 27)
    × (row_index security128 1023 8 3 ≡ 27647)
    × (switching_rows security128 ≡ 27648)
    × (switching_words security128 ≡ 19381248)
    × (former_index security128 1023 8 3 ≡ 36863)
    × (former_words security128 ≡ 25841664)
unfolding row_index former_index
places = (refl, refl, refl, refl, refl, refl, refl, refl, refl)

-- n 1, N 2, BASEBIT 2, T 2: of a former key's sixteen rows of two words every fourth is idle, from the first on
pub dropped : without_idle (numbers 1 1 1 1 2 2) (tab 32 (λ i. i))
    ≡ 2 ∷ 3 ∷ 4 ∷ 5 ∷ 6 ∷ 7 ∷ 10 ∷ 11 ∷ 12 ∷ 13 ∷ 14 ∷ 15 ∷ 18 ∷ 19 ∷ 20 ∷ 21 ∷ 22 ∷ 23 ∷ 26 ∷ 27 ∷ 28 ∷ 29 ∷ 30 ∷ 31 ∷ []
unfolding without_idle former_row former_index part joined row_outer row_field row_digit tab
dropped = refl

-- ---- refusals

-- generation: as it is to be; masks, noise and key as long as with idle rows; a length before a key's word; each key's word; the parameters first
pub generations : (generate_number six (1 ∷ []) (1 ∷ 0 ∷ []) 6 6 12 ≡ 0)
    × (generate_number six (1 ∷ []) (1 ∷ 0 ∷ []) 8 6 12 ≡ 2)
    × (generate_number six (1 ∷ []) (1 ∷ 0 ∷ []) 6 8 12 ≡ 2)
    × (generate_number six (1 ∷ []) (1 ∷ 0 ∷ []) 6 6 16 ≡ 2)
    × (generate_number six (2 ∷ []) (1 ∷ 0 ∷ []) 6 6 16 ≡ 2)
    × (generate_number six (2 ∷ []) (1 ∷ 0 ∷ []) 6 6 12 ≡ 4)
    × (generate_number six (1 ∷ []) (1 ∷ 2 ∷ []) 6 6 12 ≡ 4)
    × (generate_number (numbers 1 1 1 1 7 1) (1 ∷ []) (1 ∷ 2 ∷ []) 6 6 12 ≡ 1)
unfolding generate_number params_number binary
generations = (refl, refl, refl, refl, refl, refl, refl, refl)

-- a lookup: a row; a key with idle rows, before an index; i, j and k at their bounds, k at 0; the parameters first, and that in place of a row
pub lookups : (lookup_number two 4 1 0 1 ≡ 0)
    × (lookup_number two 8 1 0 1 ≡ 2)
    × (lookup_number two 8 2 1 0 ≡ 2)
    × (lookup_number two 4 2 0 1 ≡ 3)
    × (lookup_number two 4 0 1 1 ≡ 3)
    × (lookup_number two 4 0 0 2 ≡ 3)
    × (lookup_number two 4 0 0 0 ≡ 3)
    × (lookup_number (numbers 0 1 1 1 1 1) 8 2 1 0 ≡ 1)
    × (place_out (numbers 0 1 1 1 1 1) 0 0 1 ≡ Err Parameters)
unfolding lookup_number place_out params_number
lookups = (refl, refl, refl, refl, refl, refl, refl, refl, refl)

-- a dropping: as it is to be; the lengths exchanged; each that of the other; one word more; the parameters first
pub drops : (drop_number six 16 12 ≡ 0)
    × (drop_number six 12 16 ≡ 2)
    × (drop_number six 12 12 ≡ 2)
    × (drop_number six 16 16 ≡ 2)
    × (drop_number six 16 13 ≡ 2)
    × (drop_number (numbers 1 1 1 1 7 1) 16 12 ≡ 1)
unfolding drop_number params_number
drops = (refl, refl, refl, refl, refl, refl)
