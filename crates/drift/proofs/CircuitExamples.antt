-- The drifts of circuits at worked examples, each computed from the definitions. Document 01's circuit, one nand: with honest keys and some noise demand 3's
-- condition is met and the output is right; with a brought-in drift of 2^29 to the word, or keys that are all zero, it is not met, and the output is wrong.
-- Then a circuit of five gates on junk. The numbers are those of a model that was written from document 01 alone, in another language.
-- Assumes nothing.
use mathlib.Core.Path.{◌≡◌, refl}
use mathlib.Core.Bool.{Bool, true, false, cond}
use mathlib.Core.List.{List, [], ◌∷◌, ◌++◌}
use Prim.Native.Nat.{ℕ, ◌+◌, ◌*◌, ◌-◌, ◌%◌}
use lib.Dec.{ltb}
use lib.IntN.{pos, neg_ℤ}
use Rattle.ring.specs.Word.{Q, neg, comp, field_of as digit_field}
use Rattle.ring.specs.Sums.{sum_to, tab}
use Rattle.ring.specs.Poly.{plus, minus, before, times, scale, total}
use Rattle.ring.specs.Turn.{source, rotated, complemented}
use Rattle.ring.specs.Phase.{extract, after, inner, phase_of, trivial}
use Rattle.ring.specs.Centre.{H, centre}
use Rattle.params.specs.declared.Params.{Params}
use Rattle.params.specs.Published.{numbers}
use Rattle.tlwe.specs.Linear.{negative}
use Rattle.tlwe.specs.Decrypt.{bit_of}
use Rattle.rotation.specs.Amount.{half, step, mask_amount, body_amount}
use Rattle.key.specs.Offset.{offset}
use Rattle.key.specs.Switching.{row_index, row_part, carried}
use Rattle.key.specs.Generation.{row_outer, row_field, row_digit, row_masks, generated_row, generated}
use Rattle.key.specs.Former.{former_index, former_row, without_idle}
use Rattle.decomposition.specs.Digit.{digit_of, digit_poly, digit_weight}
use Rattle.decomposition.specs.Pair.{pair_digit}
use Rattle.trgsw.specs.External.{row_a, row_b, external, cmux_of}
use Rattle.trgsw.specs.Errors.{low_poly}
use Rattle.blind_rotation.specs.Blind.{turned, blind_step, steps_to, start_of, blind_rotated}
use Rattle.switching.specs.Switched.{rounding, rounded, mask_field, used_row, mask_rows, switched}
use Rattle.switching.specs.Drift.{dropped}
use Rattle.gate_sums.specs.Sum.{summed, mux_sum, constant_of}
use Rattle.kinds.specs.Kinds.{kinds, kind_of}
use Rattle.circuit.specs.Form.{field_at as byte_field}
use Rattle.circuit.specs.Plain.{work_of}
use Rattle.ways.specs.Ways.{ways, way_of, rotations_of, rotation_sum, rotated_sums, made, ran}
use Rattle.ways.specs.Ciphers.{cipher_at}
use Rattle.encrypted_run.specs.Run.{gate_cipher, ciphers_to, ciphers_of}
use Rattle.encrypted_run.specs.Rotations.{gate_rotated, rotated_to, rotated_of}
use Rattle.drift.specs.Polynomials.{centred, whole_sum, whole_times, whole_turn, whole_phase, whole_pair_phase}
use Rattle.drift.specs.Whole.{inside, fresh_drift, should_carry, bootstrapping_error, switching_error, remainder, rounding_drift, brought_in, complements_drift, rows_drift, step_drift, rotation_drift, extracted_drift, switched_drift, rotated_drift, gate_drift, mux_drift}
use Rattle.drift.specs.Circuit.{way_drift, way_brought, gate_drift_on, gate_brought_on, fresh_to, drifts_to, brought_to, drifts_of, brought_of, output_drifts_to, all_of, all_inside}
use Rattle.drift.proofs.Examples.{junk}
use Rattle.ring.specs.Lists.{joined, part}
use Rattle.key.specs.Bits.{bit_rows}
use Rattle.samples.specs.Sample.{sample_from, rotated_sample}

-- ---- one nand

-- n 1, N 8, BGBIT 4, L 2, BASEBIT 2, T 5
abbrev pub eight : Params
eight = numbers 1 3 4 2 2 5

abbrev pub nand : List ℕ
nand = 69 ∷ 71 ∷ 76 ∷ 1 ∷ 0 ∷ 2 ∷ 0 ∷ 1 ∷ 0 ∷ 1 ∷ 0 ∷ 5 ∷ 0 ∷ 0 ∷ 0 ∷ 1 ∷ 0 ∷ 0 ∷ 0 ∷ 2 ∷ 0 ∷ []

-- both inputs are true
abbrev pub bits : List ℕ
bits = 1 ∷ 1 ∷ []

abbrev pub key : List ℕ
key = 1 ∷ []

abbrev pub z : List ℕ
z = 1 ∷ 0 ∷ 1 ∷ 1 ∷ 0 ∷ 0 ∷ 1 ∷ 0 ∷ []

-- the masks that row r of the bootstrapping key draws
abbrev pub masks : ℕ → List ℕ
masks r = tab 8 (λ i. (8 * r + i + 1) * (8 * r + i + 7) * 0x9E3779B9 % Q)

-- and its noise, 0 to 4
abbrev pub noise : ℕ → List ℕ
noise r = tab 8 (λ i. (8 * r + i) % 5)

-- g_i at place 0, in the a of row i below L and in the b of row L + i, for the key bit is 1
abbrev pub gadget : ℕ → Bool → List ℕ
gadget r in_a = scale 8 (cond in_a (cond (ltb r 2) (digit_weight eight r) 0) (cond (ltb r 2) 0 (digit_weight eight (r - 2)))) (1 ∷ [])

-- its rows, each an encryption of zero with that added (01, key)
abbrev pub bsk : List ℕ
bsk = joined 4 (λ r. plus 8 (masks r) (gadget r true) ++ plus 8 (plus 8 (noise r) (times 8 (masks r) z)) (gadget r false))

-- the switching key as it is generated, with noise from 0 to 6
abbrev pub ksk : List ℕ
ksk = generated eight key z (junk 120 11) (tab 120 (λ i. i % 7))

-- two ciphertexts of true with the drift 3 · 2^26 each
abbrev pub noisy : List ℕ
noisy = 0x12345678 ∷ 0x3E345678 ∷ 0x9ABCDEF0 ∷ 0xC6BCDEF0 ∷ []

-- and with the drift -2^28 each
abbrev pub noisier : List ℕ
noisier = 0x12345678 ∷ 0x22345678 ∷ 0x9ABCDEF0 ∷ 0xAABCDEF0 ∷ []

-- demand 3 is not empty: all is inside, and the output decrypts to nand of true and true
pub nand-inside : (all_inside eight key z ksk bsk nand noisy bits ≡ true)
    × (drifts_of eight key z ksk bsk nand noisy bits ≡ pos 0xC000000 ∷ pos 0xC000000 ∷ neg_ℤ (pos 14325906) ∷ [])
    × (brought_of eight key z ksk bsk nand noisy bits ≡ neg_ℤ (pos 0x10000000) ∷ [])
    × (bit_of (phase_of 1 key (cipher_at eight (ciphers_of eight ksk bsk nand noisy) 2)) ≡ false)
unfolding Q neg comp H centre sum_to tab scale plus minus before times total source rotated complemented extract after inner phase_of half step mask_amount body_amount offset carried row_outer row_field row_digit row_masks generated_row joined generated row_index row_part digit_field digit_of digit_poly digit_weight pair_digit part row_a row_b external cmux_of low_poly turned bit_rows blind_step steps_to start_of blind_rotated rounding rounded mask_field used_row mask_rows switched dropped trivial summed sample_from rotated_sample byte_field ways way_of rotations_of rotation_sum rotated_sums made ran cipher_at gate_cipher ciphers_to centred whole_sum whole_times whole_turn whole_phase whole_pair_phase inside fresh_drift should_carry bootstrapping_error switching_error remainder rounding_drift brought_in complements_drift rows_drift step_drift rotation_drift extracted_drift switched_drift rotated_drift gate_drift way_drift way_brought gate_drift_on gate_brought_on fresh_to drifts_to brought_to output_drifts_to all_of all_inside
nand-inside = (refl, refl, refl, refl)

-- 2^29 is not inside: the turn falls on the other side, and the output decrypts to true
pub nand_outside : (all_inside eight key z ksk bsk nand noisier bits ≡ false)
    × (brought_of eight key z ksk bsk nand noisier bits ≡ pos 0x20000000 ∷ [])
    × (bit_of (phase_of 1 key (cipher_at eight (ciphers_of eight ksk bsk nand noisier) 2)) ≡ true)
unfolding Q neg comp H centre sum_to tab scale plus minus before times total source rotated complemented extract after inner phase_of half step mask_amount body_amount offset carried row_outer row_field row_digit row_masks generated_row joined generated row_index row_part digit_field digit_of digit_poly digit_weight pair_digit part row_a row_b external cmux_of low_poly turned bit_rows blind_step steps_to start_of blind_rotated rounding rounded mask_field used_row mask_rows switched dropped trivial summed sample_from rotated_sample byte_field ways way_of rotations_of rotation_sum rotated_sums made ran cipher_at gate_cipher ciphers_to centred whole_sum whole_times whole_turn whole_phase whole_pair_phase inside fresh_drift should_carry bootstrapping_error switching_error remainder rounding_drift brought_in complements_drift rows_drift step_drift rotation_drift extracted_drift switched_drift rotated_drift gate_drift way_drift way_brought gate_drift_on gate_brought_on fresh_to drifts_to brought_to output_drifts_to all_of all_inside
nand_outside = (refl, refl, refl)

-- a bootstrapping key of no words, which reads as zeros: what is brought in is inside, but the output's drift is a quarter of a turn, and it decrypts to true
pub nand_astray : (all_inside eight key z ksk [] nand noisy bits ≡ false)
    × (brought_of eight key z ksk [] nand noisy bits ≡ neg_ℤ (pos 0x10000000) ∷ [])
    × (drifts_of eight key z ksk [] nand noisy bits ≡ pos 0xC000000 ∷ pos 0xC000000 ∷ pos 0x40000000 ∷ [])
    × (bit_of (phase_of 1 key (cipher_at eight (ciphers_of eight ksk [] nand noisy) 2)) ≡ true)
unfolding Q neg comp H centre sum_to tab scale plus minus before times total source rotated complemented extract after inner phase_of half step mask_amount body_amount offset carried row_outer row_field row_digit row_masks generated_row joined generated row_index row_part digit_field digit_of digit_poly digit_weight pair_digit part row_a row_b external cmux_of low_poly turned bit_rows blind_step steps_to start_of blind_rotated rounding rounded mask_field used_row mask_rows switched dropped trivial summed sample_from rotated_sample byte_field ways way_of rotations_of rotation_sum rotated_sums made ran cipher_at gate_cipher ciphers_to centred whole_sum whole_times whole_turn whole_phase whole_pair_phase inside fresh_drift should_carry bootstrapping_error switching_error remainder rounding_drift brought_in complements_drift rows_drift step_drift rotation_drift extracted_drift switched_drift rotated_drift gate_drift way_drift way_brought gate_drift_on gate_brought_on fresh_to drifts_to brought_to output_drifts_to all_of all_inside
nand_astray = (refl, refl, refl, refl)

-- ---- five gates on junk

-- xnor of the inputs, mux of both inputs and that, not of that, false, true; the output is the negation
abbrev pub five : List ℕ
five =
    69 ∷ 71 ∷ 76 ∷ 1 ∷ 0 ∷ 2 ∷ 0 ∷ 5 ∷ 0 ∷ 1 ∷ 0
    ∷ 8 ∷ 0 ∷ 0 ∷ 0 ∷ 1 ∷ 0 ∷ 0 ∷ 0
    ∷ 13 ∷ 0 ∷ 0 ∷ 0 ∷ 1 ∷ 0 ∷ 2 ∷ 0
    ∷ 2 ∷ 0 ∷ 3 ∷ 0 ∷ 0 ∷ 0 ∷ 0 ∷ 0
    ∷ 0 ∷ 0 ∷ 0 ∷ 0 ∷ 0 ∷ 0 ∷ 0 ∷ 0
    ∷ 1 ∷ 0 ∷ 0 ∷ 0 ∷ 0 ∷ 0 ∷ 0 ∷ 0
    ∷ 4 ∷ 0 ∷ []

abbrev pub two : Params
two = numbers 1 1 4 2 2 2

abbrev pub two_inputs : List ℕ
two_inputs = 0x2BADCAFE ∷ 0x9ABCDEF0 ∷ 0xBADCAFE5 ∷ 0x0DEFACED ∷ []

-- the rows of a key in the layout before 02, 2026-06, without the idle ones: the numbers below are those of that layout, which had these rows
abbrev pub five_ksk : List ℕ
five_ksk = without_idle two (junk 32 11)

-- `not` negates, false has 1 and true 0; xnor rotates once, mux twice, the others never: so many drifts are brought in, so many sums rotated, and so much is the work
pub five_gates : (drifts_of two key (1 ∷ 1 ∷ []) five_ksk (junk 16 7) five two_inputs (1 ∷ 0 ∷ [])
    ≡ pos 1326388210 ∷ pos 1930624264 ∷ neg_ℤ (pos 1829675921) ∷ pos 88461354 ∷ neg_ℤ (pos 88461354) ∷ pos 1 ∷ pos 0 ∷ [])
    × (brought_of two key (1 ∷ 1 ∷ []) five_ksk (junk 16 7) five two_inputs (1 ∷ 0 ∷ []) ≡ pos 0x20000000 ∷ neg_ℤ (pos 0x60000000) ∷ pos 0x20000000 ∷ [])
    × (rotated_of two five_ksk (junk 16 7) five two_inputs ≡ (0xA1672AC8 ∷ 0xF69C38CA ∷ []) ∷ (0xE68A7AE3 ∷ 0x88AC8BDD ∷ []) ∷ (0x20DECC73 ∷ 0x04C114F0 ∷ []) ∷ [])
    × (work_of five ≡ 3)
unfolding Q neg comp H centre sum_to tab scale plus minus before times total source rotated complemented extract after inner phase_of half step mask_amount body_amount offset carried row_outer row_field row_digit without_idle former_row former_index joined row_index row_part digit_field digit_of digit_poly digit_weight pair_digit part row_a row_b external cmux_of low_poly turned bit_rows blind_step steps_to start_of blind_rotated rounding rounded mask_field used_row mask_rows switched dropped trivial summed negative constant_of mux_sum sample_from rotated_sample byte_field ways way_of rotations_of rotation_sum rotated_sums made ran cipher_at gate_cipher ciphers_to centred whole_sum whole_times whole_turn whole_phase whole_pair_phase inside fresh_drift should_carry bootstrapping_error switching_error remainder rounding_drift brought_in complements_drift rows_drift step_drift rotation_drift extracted_drift switched_drift rotated_drift gate_drift mux_drift way_drift way_brought gate_drift_on gate_brought_on fresh_to drifts_to brought_to output_drifts_to all_of all_inside rotated_to gate_rotated work_of kind_of kinds
five_gates = (refl, refl, refl, refl)
