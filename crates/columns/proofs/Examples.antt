-- A column's refusals, computed: every kind, several faults at once, no pairs, and counts whose words pass 64 bits; and a column of two pairs.
-- Assumes nothing.
use mathlib.Core.Path.{◌≡◌, refl}
use mathlib.Core.List.{List, [], ◌∷◌, map}
use Prim.Native.Nat.{ℕ, ◌+◌, ◌*◌, ◌%◌}
use Rattle.params.specs.declared.Params.{Params}
use Rattle.params.specs.Refusal.{answer}
use Rattle.params.specs.Published.{numbers}
use Rattle.ring.specs.Lists.{part, joined}
use Rattle.ring.specs.Phase.{trivial, extract}
use Rattle.ring.specs.Poly.{plus, minus, before, times, scale, total}
use Rattle.ring.specs.Sums.{sum_to, tab}
use Rattle.ring.specs.Turn.{source, rotated}
use Rattle.ring.specs.Word.{Q, neg, comp, field_of}
use Rattle.params.specs.Ranges.{params_number}
use Rattle.tlwe.specs.Linear.{negative}
use Rattle.rotation.specs.Amount.{half, step, mask_amount, body_amount}
use Rattle.key.specs.Bits.{bit_rows}
use Rattle.key.specs.Offset.{offset}
use Rattle.key.specs.Switching.{row_index, row_part}
use Rattle.key.specs.Generation.{row_outer, row_field, row_digit}
use Rattle.key.specs.Former.{former_index, former_row, without_idle}
use Rattle.gate_sums.specs.Sum.{summed}
use Rattle.decomposition.specs.Digit.{digit_of, digit_poly}
use Rattle.decomposition.specs.Pair.{pair_digit}
use Rattle.switching.specs.Switched.{rounding, rounded, mask_field, used_row, mask_rows, switched}
use Rattle.trgsw.specs.External.{row_a, row_b, external, cmux_of}
use Rattle.blind_rotation.specs.Blind.{turned, blind_step, steps_to, start_of, blind_rotated}
use Rattle.samples.specs.Sample.{sample_from, rotated_sample}
use Rattle.ways.specs.Ciphers.{cipher_at}
use Rattle.ways.specs.Ways.{ways, way_of, rotations_of, rotation_sum, rotated_sums, made, ran}
use Rattle.columns.specs.Column.{pair_gate, pair_result, column_of}
use Rattle.columns.specs.Refusals.{column_number}

-- n 1, N 2, BGBIT 6, L 3, BASEBIT 1, T 1: a ciphertext has 2 words, the keys 4 and 24
abbrev two : Params
two = numbers 1 1 6 3 1 1

-- 2 pairs are 8 words and their results 4
pub numbers_of_two : map (λ kind. column_number two kind 2 8 4 24 4) (0 ∷ 1 ∷ 2 ∷ 3 ∷ 4 ∷ 5 ∷ 6 ∷ 7 ∷ 8 ∷ 9 ∷ 10 ∷ 11 ∷ 12 ∷ 13 ∷ 14 ∷ 259 ∷ 18446744073709551615 ∷ [])
    ≡ 9 ∷ 9 ∷ 9 ∷ 0 ∷ 0 ∷ 0 ∷ 0 ∷ 0 ∷ 0 ∷ 0 ∷ 0 ∷ 0 ∷ 0 ∷ 9 ∷ 9 ∷ 9 ∷ 9 ∷ []
unfolding column_number params_number
numbers_of_two = refl

-- each length alone, and with a wrong kind beside it; then a parameter at fault beside both
pub faults : (column_number two 3 2 7 4 24 4 ∷ column_number two 3 2 8 8 24 4 ∷ column_number two 3 2 8 4 25 4 ∷ column_number two 3 2 8 4 24 5 ∷ column_number two 13 2 8 4 24 5 ∷ column_number (numbers 0 1 6 3 1 1) 13 2 8 4 24 5 ∷ [])
    ≡ 2 ∷ 2 ∷ 2 ∷ 2 ∷ 2 ∷ 1 ∷ []
unfolding column_number params_number
faults = refl

-- n 2: 3 pairs are 18 words and their results 9, the keys have 6 and 48; what n + 3 words a pair, or 2n a result, would make of it is refused. Each answer has place 0
pub three : (answer (column_number (numbers 2 1 6 3 1 1) 7 3 18 6 48 9) ∷ answer (column_number (numbers 2 1 6 3 1 1) 7 3 15 6 48 9) ∷ answer (column_number (numbers 2 1 6 3 1 1) 7 3 18 6 48 12) ∷ answer (column_number (numbers 2 1 6 3 1 1) 13 3 18 6 48 9) ∷ [])
    ≡ record { number = 0; place = 0 } ∷ record { number = 2; place = 0 } ∷ record { number = 2; place = 0 } ∷ record { number = 9; place = 0 } ∷ []
unfolding column_number params_number
three = refl

-- no pairs, with a kind of a column and with another; and 2^62 pairs, whose 2^64 words would wrap to none, beside empty slices
pub ends : (column_number two 3 0 0 4 24 0 ∷ column_number two 2 0 0 4 24 0 ∷ column_number two 3 4611686018427387904 0 4 24 0 ∷ []) ≡ 0 ∷ 9 ∷ 2 ∷ []
unfolding column_number params_number
ends = refl

-- two pairs under keys that hold anything at all, kind 8 and kind 5: held against a model of its own (examples/slips/model.py: its xor, negated, and its nand)
abbrev pairs : List ℕ
pairs = 0x40000000 ∷ 0x12345678 ∷ 0x9ABCDEF0 ∷ 0x20000000 ∷ 0xC0000001 ∷ 0xE0000000 ∷ 0x7FFFFFFF ∷ 0x30000000 ∷ []

abbrev multiples : ℕ → ℕ → List ℕ
multiples n x = tab n (λ i. (i + 1) * x % 0x100000000)

-- the switching key: the rows of one in the layout before 02, 2026-06, without the idle ones
abbrev ksk : List ℕ
ksk = without_idle two (multiples 8 0x85EBCA6B)

pub two-pairs : (column_of two ksk (multiples 24 0x9E3779B1) 8 2 pairs ≡ 0 ∷ 0x03779B11 ∷ 0x3B35E82E ∷ 0x9E872E05 ∷ [])
    × (column_of two ksk (multiples 24 0x9E3779B1) 5 2 pairs ≡ 0 ∷ 0xC89FC08E ∷ 0 ∷ 0x9746CDE4 ∷ [])
unfolding part joined trivial extract plus minus before times scale total sum_to tab source rotated Q neg comp field_of negative half step mask_amount body_amount bit_rows offset row_outer row_field row_digit without_idle former_row former_index row_index row_part summed digit_of digit_poly pair_digit rounding rounded mask_field used_row mask_rows switched row_a row_b external cmux_of turned blind_step steps_to start_of blind_rotated sample_from rotated_sample cipher_at ways way_of rotations_of rotation_sum rotated_sums made ran pair_gate pair_result column_of
two-pairs = (refl, refl)
