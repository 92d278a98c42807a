-- The drifts in whole numbers at worked examples, each computed from the definitions: the ends of inside and of a remainder, and what complementing adds,
-- worked out by hand; and, with key material that holds junk, what a model gives that was written from document 01 alone, in another language.
-- Assumes nothing.
use mathlib.Core.Path.{◌≡◌, refl}
use mathlib.Core.Bool.{true, false}
use mathlib.Core.List.{List, [], ◌∷◌}
use Prim.Native.Nat.{ℕ, ◌+◌, ◌*◌, ◌%◌}
use lib.IntN.{pos, neg_ℤ}
use Rattle.ring.specs.Word.{Q, neg, comp, field_of as digit_field}
use Rattle.ring.specs.Sums.{sum_to, tab}
use Rattle.ring.specs.Poly.{plus, minus, before, times, total}
use Rattle.ring.specs.Turn.{source, rotated, complemented}
use Rattle.ring.specs.Phase.{extract, after, trivial}
use Rattle.ring.specs.Centre.{H, centre}
use Rattle.params.specs.declared.Params.{Params}
use Rattle.params.specs.Published.{numbers}
use Rattle.rotation.specs.Amount.{half, step, mask_amount, body_amount}
use Rattle.key.specs.Offset.{offset}
use Rattle.key.specs.Switching.{row_index, row_part}
use Rattle.key.specs.Generation.{row_outer, row_field, row_digit}
use Rattle.key.specs.Former.{former_index, former_row, without_idle}
use Rattle.decomposition.specs.Digit.{digit_of, digit_poly, digit_weight}
use Rattle.decomposition.specs.Pair.{pair_digit}
use Rattle.trgsw.specs.External.{row_a, row_b, external, cmux_of}
use Rattle.trgsw.specs.Errors.{low_poly}
use Rattle.blind_rotation.specs.Blind.{turned, blind_step, steps_to, start_of, blind_rotated}
use Rattle.switching.specs.Switched.{rounding, rounded, mask_field}
use Rattle.switching.specs.Drift.{dropped}
use Rattle.gate_sums.specs.declared.Kind.TheVariants.{Xor}
use Rattle.gate_sums.specs.Sum.{mux_sum}
use Rattle.drift.specs.Polynomials.{centred, whole_sum, whole_times, whole_turn, whole_phase, whole_pair_phase}
use Rattle.drift.specs.Whole.{inside, fresh_drift, should_carry, bootstrapping_error, switching_error, remainder, rounding_drift, brought_in, complements_drift, rows_drift, step_drift, rotation_drift, extracted_drift, switched_drift, rotated_drift, gate_drift, mux_drift}
use Rattle.drift.specs.Circuit.{worse, worst_from, worst_of}
use Rattle.ring.specs.Lists.{part, joined}
use Rattle.key.specs.Bits.{bit_rows}
use Rattle.samples.specs.Sample.{sample_from, rotated_sample}
use Rattle.key.specs.Testvec.{test_pair}
use Rattle.drift_size.specs.Size.{inside_word}

-- ---- by hand

-- strictly inside 2^29, on both sides
pub inside_ends : (inside (pos 0x1FFFFFFF) ≡ true) × (inside (pos 0x20000000) ≡ false) × (inside (neg_ℤ (pos 0x20000000)) ≡ false) × (inside (neg_ℤ (pos 0x1FFFFFFF)) ≡ true)
unfolding inside
inside_ends = (refl, refl, refl, refl)

-- the worst: the larger in absolute value, the first at a tie, and 0 of none
pub worst_ends : (worst_of [] ≡ pos 0) × (worst_of (pos 5 ∷ neg_ℤ (pos 5) ∷ []) ≡ pos 5) × (worst_of (neg_ℤ (pos 5) ∷ pos 5 ∷ []) ≡ neg_ℤ (pos 5)) × (worst_of (pos 5 ∷ neg_ℤ (pos 6) ∷ pos 3 ∷ []) ≡ neg_ℤ (pos 6))
unfolding worst_from worse
worst_ends = (refl, refl, refl, refl)

-- and so of their words
pub inside_word_ends : (inside_word 0x1FFFFFFF ≡ true) × (inside_word 0x20000000 ≡ false) × (inside_word 0xE0000000 ≡ false) × (inside_word 0xE0000001 ≡ true)
unfolding inside_word Q H centre
inside_word_ends = (refl, refl, refl, refl)

-- the ends of the centred numbers: 2^31 is -2^31, and so is its negative
pub centred_ends : (centred (pos 0x7FFFFFFF) ≡ pos 0x7FFFFFFF) × (centred (pos 0x80000000) ≡ neg_ℤ (pos 0x80000000)) × (centred (neg_ℤ (pos 0x80000000)) ≡ neg_ℤ (pos 0x80000000)) × (centred (neg_ℤ (pos 0x80000001)) ≡ pos 0x7FFFFFFF)
unfolding centred Q neg H centre
centred_ends = (refl, refl, refl, refl)

-- n 1, N 8, BGBIT 4, L 2, BASEBIT 2, T 5: a step is 2^28. Half a step goes up, and a word near the turn's end goes up to 2^32, before any wrap
pub remainder_ends : (remainder (numbers 1 3 4 2 2 5) 0x07FFFFFF ≡ neg_ℤ (pos 0x07FFFFFF)) × (remainder (numbers 1 3 4 2 2 5) 0x08000000 ≡ pos 0x08000000) × (remainder (numbers 1 3 4 2 2 5) 0xF8000000 ≡ pos 0x08000000)
unfolding remainder half step
remainder_ends = (refl, refl, refl)

-- n 1, N 2, BGBIT 4, L 2, BASEBIT 2, T 2
abbrev small : Params
small = numbers 1 1 4 2 2 2

abbrev ones : List ℕ
ones = 1 ∷ 1 ∷ []

-- N 2: rotation by 1 complements the word that comes to place 0, so W(1) is 1, and W(1)·(1 + X) - W(1) is X
pub complements : (complements_drift small ones 1 0 ≡ pos 0) × (complements_drift small ones 1 1 ≡ pos 1)
unfolding complements_drift complemented source tab whole_times whole_sum
complements = (refl, refl)

-- ---- junk for key material

-- n words that nothing makes
abbrev pub junk : ℕ → ℕ → List ℕ
junk n c = tab n (λ i. (i + 1) * (i + c) * 0x9E3779B9 % Q)

abbrev key : List ℕ
key = 1 ∷ []

-- the rows of a key in the layout before 02, 2026-06, without the idle ones: the numbers below are those of that layout, which had these rows
abbrev ksk : List ℕ
ksk = without_idle small (junk 32 11)

abbrev src : List ℕ
src = 0x2BADCAFE ∷ 0x9ABCDEF0 ∷ []

abbrev other : List ℕ
other = 0xBADCAFE5 ∷ 0x0DEFACED ∷ []

-- fresh drifts, and what is brought in: a and twice b, b's remainder, less the mask's
pub fresh_values : (fresh_drift small key src true ≡ pos 1326388210) × (fresh_drift small key src false ≡ neg_ℤ (pos 1894837262)) × (brought_in small Xor key src (pos 1000) (neg_ℤ (pos 2000)) ≡ neg_ℤ (pos 789520298))
unfolding Q neg H centre half step centred whole_sum whole_phase fresh_drift remainder rounding_drift brought_in
fresh_values = (refl, refl, refl)

-- errors: of rows 0 and 2 of the bootstrapping key for the key bit 1, and of row (1, 1, 3) of the switching key
pub error_values : (bootstrapping_error small ones (junk 16 7) 1 0 0 ≡ pos 1338842628) × (bootstrapping_error small ones (junk 16 7) 1 0 1 ≡ neg_ℤ (pos 1850796727))
    × (bootstrapping_error small ones (junk 16 7) 1 2 0 ≡ neg_ℤ (pos 168768204)) × (bootstrapping_error small ones (junk 16 7) 1 2 1 ≡ pos 752971753)
    × (switching_error small key ones ksk 1 1 3 ≡ neg_ℤ (pos 305023551))
unfolding Q neg H centre tab part row_a row_b row_outer row_field row_digit joined without_idle former_row former_index row_index row_part digit_weight centred whole_sum whole_times whole_phase whole_pair_phase should_carry bootstrapping_error switching_error
error_values = (refl, refl, refl, refl, refl)

-- its first step has digits below 0, which count as signed
abbrev falling : List ℕ
falling = 0x2BADCAFE ∷ 0x1ABCDEF0 ∷ []

-- the rotation's drift after its one step, a turn by 1: with key bit 1, with 0, and with 1 where digits are negative
pub step_values : (rotation_drift small key ones (junk 16 7) (test_pair small) src 1 0 ≡ neg_ℤ (pos 675072817)) × (rotation_drift small key ones (junk 16 7) (test_pair small) src 1 1 ≡ pos 3011887013)
    × (rotation_drift small (0 ∷ []) ones (junk 16 7) (test_pair small) src 1 0 ≡ pos 398669007) × (rotation_drift small (0 ∷ []) ones (junk 16 7) (test_pair small) src 1 1 ≡ pos 3011887013)
    × (rotation_drift small key ones (junk 16 7) (test_pair small) falling 1 0 ≡ pos 1433139624) × (rotation_drift small key ones (junk 16 7) (test_pair small) falling 1 1 ≡ neg_ℤ (pos 1180264534))
unfolding Q neg comp H centre sum_to tab minus source rotated complemented half step mask_amount body_amount offset digit_field digit_of digit_poly digit_weight pair_digit part row_a row_b low_poly turned bit_rows steps_to start_of centred whole_sum whole_times whole_turn whole_pair_phase should_carry bootstrapping_error complements_drift rows_drift step_drift rotation_drift
step_values = (refl, refl, refl, refl, refl, refl)

-- switching, and the whole of a gate and of `mux`
pub gate_values : (switched_drift small key ones ksk (0x12345678 ∷ 0x9ABCDEF0 ∷ 0 ∷ []) ≡ neg_ℤ (pos 514162075))
    × (gate_drift small key ones ksk (junk 16 7) src ≡ pos 809288528)
    × (mux_drift small key ones ksk (junk 16 7) src other ≡ neg_ℤ (pos 1965194713))
unfolding Q neg comp H centre sum_to tab plus minus before times total source rotated complemented extract after half step mask_amount body_amount offset row_outer row_field row_digit joined without_idle former_row former_index row_index row_part digit_field digit_of digit_poly digit_weight pair_digit part row_a row_b external cmux_of low_poly turned bit_rows blind_step steps_to start_of blind_rotated rounding rounded mask_field dropped trivial mux_sum sample_from rotated_sample centred whole_sum whole_times whole_turn whole_phase whole_pair_phase should_carry bootstrapping_error switching_error complements_drift rows_drift step_drift rotation_drift extracted_drift switched_drift rotated_drift gate_drift mux_drift
gate_values = (refl, refl, refl)
