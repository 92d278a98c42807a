-- Computed cases: the margins' ends, by hand; a lookup and its drifts with key material that holds junk, as a model gives them that was written from documents 01 and 02 alone, in another language; and the
-- refusals one after another.
-- Assumes nothing.
use mathlib.Core.Path.{◌≡◌, refl}
use mathlib.Core.Bool.{true, false}
use mathlib.Core.List.{List, [], ◌∷◌}
use Prim.Native.Nat.{ℕ}
use lib.IntN.{pos, neg_ℤ}
use Rattle.ring.specs.Word.{Q, neg, comp, field_of}
use Rattle.ring.specs.Sums.{sum_to, tab}
use Rattle.ring.specs.Poly.{plus, minus, before, times, total}
use Rattle.ring.specs.Turn.{source, rotated, complemented}
use Rattle.ring.specs.Phase.{extract, after}
use Rattle.ring.specs.Centre.{H, centre}
use Rattle.ring.specs.Lists.{part}
use Rattle.params.specs.declared.Params.{Params}
use Rattle.params.specs.Published.{numbers}
use Rattle.params.specs.Ranges.{params_number}
use Rattle.tlwe.specs.Key.{binary}
use Rattle.tlwe.specs.Plain.{is_modulus}
use Rattle.key.specs.Bits.{bit_rows}
use Rattle.key.specs.Offset.{offset}
use Rattle.key.specs.Switching.{row_index, row_part}
use Rattle.rotation.specs.Amount.{half, step, mask_amount, body_amount}
use Rattle.decomposition.specs.Digit.{digit_of, digit_poly, digit_weight}
use Rattle.decomposition.specs.Pair.{pair_digit}
use Rattle.trgsw.specs.External.{row_a, row_b, external, cmux_of}
use Rattle.trgsw.specs.Errors.{low_poly}
use Rattle.blind_rotation.specs.Blind.{turned, blind_step, steps_to, start_of, blind_rotated}
use Rattle.switching.specs.Switched.{rounding, rounded, mask_field, used_row, mask_rows, switched}
use Rattle.switching.specs.Drift.{dropped}
use Rattle.ring.specs.Phase.{trivial}
use Rattle.samples.specs.Sample.{sample_from}
use Rattle.tables.specs.Table.{is_table, table_word, looked_up}
use Rattle.drift.specs.Polynomials.{centred, whole_sum, whole_times, whole_turn, whole_phase, whole_pair_phase}
use Rattle.drift.specs.Whole.{should_carry, bootstrapping_error, switching_error, remainder, rounding_drift, complements_drift, rows_drift, step_drift, rotation_drift, extracted_drift, switched_drift, rotated_drift}
use Rattle.drift.proofs.Examples.{junk}
use Rattle.table_drift.specs.Lookup.{message_drift, message_brought, lookup_drift, inside_margin, both_inside}
use Rattle.table_drift.specs.Refusals.{lookup_drift_number}

-- strictly inside 2^31/(2M), on both sides: an eighth of a turn for M 2, 2^24 for M 64
pub margin_ends : (inside_margin 2 (pos 0x1FFFFFFF) ≡ true) × (inside_margin 2 (pos 0x20000000) ≡ false) × (inside_margin 2 (neg_ℤ (pos 0x20000000)) ≡ false) × (inside_margin 4 (pos 0x10000000) ≡ false)
    × (inside_margin 64 (neg_ℤ (pos 0xFFFFFF)) ≡ true) × (inside_margin 64 (neg_ℤ (pos 0x1000000)) ≡ false)
unfolding inside_margin H
margin_ends = (refl, refl, refl, refl, refl, refl)

-- n 1, N 4, BGBIT 4, L 2, BASEBIT 2, T 2, and a table of two words
abbrev four : Params
four = numbers 1 2 4 2 2 2

abbrev words : List ℕ
words = 0x12345678 ∷ 0xCAFEBABE ∷ []

abbrev z : List ℕ
z = 1 ∷ 0 ∷ 1 ∷ 1 ∷ []

-- the phase is a quarter of a turn and a bit: nearest to message 1's word, so that message 1, and 3, which is 1 modulo 2, bring nothing in, and message 0 half a step too much
abbrev c : List ℕ
c = 0x2BADCAFE ∷ 0x60000000 ∷ []

pub brought_values : (message_brought four (1 ∷ []) c 1 2 ≡ pos 0) × (message_brought four (1 ∷ []) c 3 2 ≡ pos 0) × (message_brought four (1 ∷ []) c 6 2 ≡ pos 1073741824)
    × (message_drift four (1 ∷ []) c 1 2 ≡ neg_ℤ (pos 195939070)) × (message_brought four (1 ∷ []) (0x2BADCAFE ∷ 0x1BADCAFE ∷ []) 0 2 ≡ pos 0)
unfolding Q neg H centre half step centred whole_sum whole_phase remainder rounding_drift message_drift message_brought
brought_values = (refl, refl, refl, refl, refl)

-- the lookup itself, and its drift, with junk for both keys: f(1) and the drift make the phase 0x658BE7B2 = 0xCAFEBABE - 1702023948 modulo 2^32
pub lookup_words : looked_up four 2 words (junk 48 11) (junk 32 7) c ≡ 0x110B41E7 ∷ 0x76972999 ∷ []
unfolding Q neg comp sum_to tab plus minus before times total source rotated extract half step mask_amount body_amount offset field_of row_index row_part digit_of digit_poly digit_weight pair_digit part row_a row_b external cmux_of turned bit_rows blind_step steps_to start_of blind_rotated rounding rounded mask_field used_row mask_rows switched trivial sample_from table_word looked_up
lookup_words = refl

pub drift_values : (lookup_drift four (1 ∷ []) z (junk 48 11) (junk 32 7) 2 words c ≡ neg_ℤ (pos 1702023948)) × (lookup_drift four (1 ∷ []) z (junk 48 11) (junk 32 7) 2 words (0x2BADCAFE ∷ 0x1BADCAFE ∷ []) ≡ pos 327160420)
unfolding Q neg comp H centre sum_to tab plus minus before times total source rotated complemented extract after half step mask_amount body_amount offset field_of row_index row_part digit_of digit_poly digit_weight pair_digit part row_a row_b external cmux_of low_poly turned bit_rows blind_step steps_to start_of blind_rotated rounding rounded mask_field dropped trivial sample_from table_word centred whole_sum whole_times whole_turn whole_phase whole_pair_phase should_carry bootstrapping_error switching_error complements_drift rows_drift step_drift rotation_drift extracted_drift switched_drift rotated_drift lookup_drift
drift_values = (refl, refl)

-- both margins are asked: of the second ciphertext message 0 brings nothing in, and the result's drift, 327160420, is inside 2^29 and outside 2^28; as message 1 it brings in too much. Of the first, message 1 brings
-- nothing in and the result's drift is outside 2^29
pub told_values : (both_inside four (1 ∷ []) z (junk 48 11) (junk 32 7) 2 words 2 0 (0x2BADCAFE ∷ 0x1BADCAFE ∷ []) ≡ true) × (both_inside four (1 ∷ []) z (junk 48 11) (junk 32 7) 2 words 4 0 (0x2BADCAFE ∷ 0x1BADCAFE ∷ []) ≡ false)
    × (both_inside four (1 ∷ []) z (junk 48 11) (junk 32 7) 2 words 2 1 (0x2BADCAFE ∷ 0x1BADCAFE ∷ []) ≡ false) × (both_inside four (1 ∷ []) z (junk 48 11) (junk 32 7) 2 words 2 1 c ≡ false)
unfolding Q neg comp H centre sum_to tab plus minus before times total source rotated complemented extract after half step mask_amount body_amount offset field_of row_index row_part digit_of digit_poly digit_weight pair_digit part row_a row_b external cmux_of low_poly turned bit_rows blind_step steps_to start_of blind_rotated rounding rounded mask_field dropped trivial sample_from table_word centred whole_sum whole_times whole_turn whole_phase whole_pair_phase should_carry bootstrapping_error switching_error complements_drift rows_drift step_drift rotation_drift extracted_drift switched_drift rotated_drift lookup_drift remainder rounding_drift message_drift message_brought inside_margin both_inside
told_values = (refl, refl, refl, refl)

-- n 3, N 8, BGBIT 8, L 2, BASEBIT 2, T 3: a switching key of 288 words, a bootstrapping key of 192
abbrev eight : Params
eight = numbers 3 3 8 2 2 3

abbrev key3 : List ℕ
key3 = 1 ∷ 0 ∷ 1 ∷ []

abbrev z8 : List ℕ
z8 = 1 ∷ 0 ∷ 1 ∷ 1 ∷ 0 ∷ 0 ∷ 1 ∷ 0 ∷ []

-- none; 1; 2 for each of the eight lengths
pub length_numbers : (lookup_drift_number eight 2 2 4 288 192 key3 z8 4 4 2 ≡ 0) × (lookup_drift_number (numbers 0 3 8 2 2 3) 3 9 3 9 9 (2 ∷ []) [] 9 9 9 ≡ 1) × (lookup_drift_number eight 2 3 4 288 192 key3 z8 4 4 2 ≡ 2)
    × (lookup_drift_number eight 2 2 4 287 192 key3 z8 4 4 2 ≡ 2) × (lookup_drift_number eight 2 2 4 288 193 key3 z8 4 4 2 ≡ 2) × (lookup_drift_number eight 2 2 4 288 192 (1 ∷ key3) z8 4 4 2 ≡ 2)
    × (lookup_drift_number eight 2 2 4 288 192 key3 (0 ∷ z8) 4 4 2 ≡ 2) × (lookup_drift_number eight 2 2 4 288 192 key3 z8 5 4 2 ≡ 2) × (lookup_drift_number eight 2 2 4 288 192 key3 z8 4 3 2 ≡ 2)
    × (lookup_drift_number eight 2 2 4 288 192 key3 z8 4 4 1 ≡ 2) × (lookup_drift_number eight 2 2 4 288 192 key3 z8 4 4 3 ≡ 2)
unfolding lookup_drift_number params_number binary is_table is_modulus
length_numbers = (refl, refl, refl, refl, refl, refl, refl, refl, refl, refl, refl)

-- 4 for each key, after 2 and before 5; 5 for the table's modulus, for 2M that does not divide N, and for the results' modulus; 2 before 5
pub later_numbers : (lookup_drift_number eight 3 3 3 288 192 (1 ∷ 2 ∷ 1 ∷ []) z8 4 4 2 ≡ 4) × (lookup_drift_number eight 3 3 3 288 192 key3 (1 ∷ 0 ∷ 1 ∷ 1 ∷ 0 ∷ 0 ∷ 1 ∷ 3 ∷ []) 4 4 2 ≡ 4)
    × (lookup_drift_number eight 2 2 4 288 192 (1 ∷ 2 ∷ 1 ∷ []) z8 4 4 3 ≡ 2) × (lookup_drift_number eight 3 3 4 288 192 key3 z8 4 4 2 ≡ 5) × (lookup_drift_number eight 8 8 4 288 192 key3 z8 4 4 2 ≡ 5)
    × (lookup_drift_number eight 4 4 3 288 192 key3 z8 4 4 2 ≡ 5) × (lookup_drift_number eight 4 4 64 288 192 key3 z8 4 4 2 ≡ 0) × (lookup_drift_number eight 3 2 4 288 192 key3 z8 4 4 2 ≡ 2)
    × (lookup_drift_number eight 3 3 3 288 192 key3 z8 5 4 2 ≡ 2) × (lookup_drift_number eight 3 3 3 288 192 key3 z8 4 5 2 ≡ 2) × (lookup_drift_number eight 3 3 3 288 192 key3 z8 4 4 3 ≡ 2)
    × (lookup_drift_number eight 2 2 4 288 192 (1 ∷ 2 ∷ 1 ∷ []) (0 ∷ z8) 4 4 2 ≡ 2) × (lookup_drift_number eight 2 2 4 288 192 (1 ∷ 2 ∷ 1 ∷ []) z8 5 4 2 ≡ 2) × (lookup_drift_number eight 2 2 4 288 192 (1 ∷ 2 ∷ 1 ∷ []) z8 4 3 2 ≡ 2)
    × (lookup_drift_number eight 2 2 4 287 192 (1 ∷ 2 ∷ 1 ∷ []) z8 4 4 2 ≡ 2) × (lookup_drift_number eight 2 2 4 288 193 (1 ∷ 2 ∷ 1 ∷ []) z8 4 4 2 ≡ 2) × (lookup_drift_number eight 2 1 4 288 192 (1 ∷ 2 ∷ 1 ∷ []) z8 4 4 2 ≡ 2)
unfolding lookup_drift_number params_number binary is_table is_modulus
later_numbers = (refl, refl, refl, refl, refl, refl, refl, refl, refl, refl, refl, refl, refl, refl, refl, refl, refl)
