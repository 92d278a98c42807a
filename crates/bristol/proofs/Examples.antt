-- Imports worked out by computing: texts with wires out of order, chains of EQW, EQ's constants and INV, their circuits' bytes and meanings; each refusal beside the room lent,
-- and the bytes that a call leaves as they were.
-- Assumes nothing.
use mathlib.Core.Path.{◌≡◌, refl}
use mathlib.Core.Bool.{xor}
use mathlib.Core.List.{List, [], ◌∷◌}
use Prim.Native.Nat.{ℕ}
use Prim.Native.String.{String}
use Rattle.ring.specs.Lists.{joined}
use Rattle.ring.specs.Sums.{sum_to, tab}
use Rattle.kinds.specs.Kinds.{kinds, kind_of, bit_meaning}
use Rattle.circuit.specs.Form.{field_at, first}
use Rattle.circuit.specs.Plain.{wires_to, output_bits}
use Rattle.tokens.specs.Tokens.{blank, blanks, front, start_of, word_of, end_of, past, with_digit, value_from, number_of, number_at, place_at, alike, name_of, name_at}
use Rattle.bristol_form.specs.Says.{sizes_to, input_sizes, inputs, output_values, output_sizes, outputs, body, operands_place, results_place, name_place, gate_at, among, is_set, set_count, made}
use Rattle.bristol_form.specs.Form.{size_answer, count_fields, value_fields, head_answer, results_for, count_good, operand_answer, result_answer, name_good, gate_answer, end_answer, form_answer, gate_limit, head_limit, limit_answer, text_answer}
use Rattle.bristol_form.specs.Meaning.{name_meaning, result_bit, after_results, wire_bit, meaning_of}
use Rattle.bristol_form.proofs.Examples.{bytes}
use Rattle.std.specs.Prelude.{Ok, Err}
use Rattle.params.specs.declared.refusal.Refusal.TheVariants.{Length, Text, Limit}
use Rattle.bristol.specs.Import.{ours_to, kind_for, needs, operand_for, gate_bytes, head_bytes, output_for, imported, imported_length, import_answer, import_said, import_out}

-- wires set out of order; the and passes two EQWs to the xor, and the not one to the first output
abbrev shuffled : String
shuffled = "7 9\n1 2\n1 3\n\n2 1 0 1 8 AND\n1 1 8 4 EQW\n1 1 4 3 EQW\n1 1 1 2 EQ\n2 1 3 2 7 XOR\n1 1 7 5 INV\n1 1 5 6 EQW\n"

-- an input passed on: a circuit of no gates
abbrev passed : String
passed = "2 3 1 1 1 1 1 1 0 1 EQW 1 1 1 2 EQW"

-- the constants, with no input; 1 is set by then, and EQ takes no notice
abbrev constants : String
constants = "2 2 0 2 1 1 1 1 1 1 EQ 1 1 0 0 EQ"

-- one of these texts is in the form and has MAND; one is not in the form
abbrev many : String
many = "1 6 1 4 1 2 4 2 0 1 2 3 4 5 MAND"

abbrev unset : String
unset = "1 3 1 2 1 1 2 1 0 2 2 AND"

abbrev shuffled_bytes : List ℕ
shuffled_bytes =
    69 ∷ 71 ∷ 76 ∷ 1 ∷ 0 ∷ 2 ∷ 0 ∷ 4 ∷ 0 ∷ 3 ∷ 0
    -- and of the inputs, wire 2
    ∷ 3 ∷ 0 ∷ 0 ∷ 0 ∷ 1 ∷ 0 ∷ 0 ∷ 0
    -- true, wire 3
    ∷ 1 ∷ 0 ∷ 0 ∷ 0 ∷ 0 ∷ 0 ∷ 0 ∷ 0
    -- xor of the two, wire 4
    ∷ 7 ∷ 0 ∷ 2 ∷ 0 ∷ 3 ∷ 0 ∷ 0 ∷ 0
    -- its not, wire 5
    ∷ 2 ∷ 0 ∷ 4 ∷ 0 ∷ 0 ∷ 0 ∷ 0 ∷ 0
    -- the outputs: the text's wires 6, 7 and 8
    ∷ 5 ∷ 0 ∷ 4 ∷ 0 ∷ 2 ∷ 0
    ∷ []

circuits : (imported (bytes shuffled) ≡ shuffled_bytes)
    × (imported (bytes passed) ≡ 69 ∷ 71 ∷ 76 ∷ 1 ∷ 0 ∷ 1 ∷ 0 ∷ 0 ∷ 0 ∷ 1 ∷ 0 ∷ 0 ∷ 0 ∷ [])
    × (imported (bytes constants) ≡ 69 ∷ 71 ∷ 76 ∷ 1 ∷ 0 ∷ 0 ∷ 0 ∷ 2 ∷ 0 ∷ 2 ∷ 0 ∷ 1 ∷ 0 ∷ 0 ∷ 0 ∷ 0 ∷ 0 ∷ 0 ∷ 0 ∷ 0 ∷ 0 ∷ 0 ∷ 0 ∷ 0 ∷ 0 ∷ 0 ∷ 0 ∷ 1 ∷ 0 ∷ 0 ∷ 0 ∷ [])
unfolding bytes joined sum_to tab blank blanks front start_of word_of end_of past with_digit value_from number_of number_at alike name_of name_at sizes_to input_sizes inputs output_values output_sizes outputs body operands_place results_place name_place gate_at made ours_to kind_for needs operand_for gate_bytes head_bytes output_for imported
circuits = (refl, refl, refl)

-- the plain run of those bytes, and the text's meaning
meanings : (output_bits shuffled_bytes (1 ∷ 1 ∷ []) ≡ 1 ∷ 0 ∷ 1 ∷ []) × (meaning_of (bytes shuffled) (1 ∷ 1 ∷ []) ≡ 1 ∷ 0 ∷ 1 ∷ [])
    × (output_bits shuffled_bytes (0 ∷ 1 ∷ []) ≡ 0 ∷ 1 ∷ 0 ∷ []) × (meaning_of (bytes shuffled) (0 ∷ 1 ∷ []) ≡ 0 ∷ 1 ∷ 0 ∷ [])
    × (meaning_of (bytes passed) (5 ∷ []) ≡ 1 ∷ []) × (meaning_of (bytes passed) (0 ∷ []) ≡ 0 ∷ [])
    × (meaning_of (bytes constants) [] ≡ 0 ∷ 1 ∷ [])
unfolding bytes sum_to tab blank blanks front start_of word_of end_of past with_digit value_from number_of number_at alike name_of name_at sizes_to input_sizes inputs output_values output_sizes outputs body operands_place results_place name_place gate_at name_meaning result_bit after_results wire_bit meaning_of field_at wires_to bit_meaning kind_of kinds xor
meanings = (refl, refl, refl, refl, refl, refl, refl)

-- done; 2 for a byte too few; 12 and 11 with their places, whatever the room
answers : (import_said (bytes shuffled) 49 ≡ Ok 49) × (import_said (bytes shuffled) 48 ≡ Err Length) × (import_said (bytes passed) 100 ≡ Ok 13)
    × (import_said (bytes many) 1000 ≡ Err (Limit 28)) × (import_said (bytes many) 0 ≡ Err (Limit 28))
    × (import_said (bytes unset) 1000 ≡ Err (Text 18)) × (import_said (bytes unset) 0 ≡ Err (Text 18))
unfolding bytes sum_to tab first blank blanks front start_of word_of end_of past with_digit value_from number_of number_at place_at alike name_of name_at sizes_to input_sizes inputs output_values output_sizes outputs body operands_place results_place name_place gate_at among is_set set_count made size_answer count_fields value_fields head_answer results_for count_good operand_answer result_answer name_good gate_answer end_answer form_answer gate_limit head_limit limit_answer text_answer imported_length import_answer import_said
answers = (refl, refl, refl, refl, refl, refl, refl)

-- the bytes behind the circuit are kept, and all of them where the call is refused
left : (import_out (bytes passed) (9 ∷ 9 ∷ 9 ∷ 9 ∷ 9 ∷ 9 ∷ 9 ∷ 9 ∷ 9 ∷ 9 ∷ 9 ∷ 9 ∷ 9 ∷ 8 ∷ 7 ∷ []) ≡ 69 ∷ 71 ∷ 76 ∷ 1 ∷ 0 ∷ 1 ∷ 0 ∷ 0 ∷ 0 ∷ 1 ∷ 0 ∷ 0 ∷ 0 ∷ 8 ∷ 7 ∷ [])
    × (import_out (bytes passed) (9 ∷ 8 ∷ 7 ∷ []) ≡ 9 ∷ 8 ∷ 7 ∷ [])
    × (import_out (bytes many) (9 ∷ 8 ∷ 7 ∷ []) ≡ 9 ∷ 8 ∷ 7 ∷ [])
    × (import_out (bytes unset) (9 ∷ 8 ∷ 7 ∷ []) ≡ 9 ∷ 8 ∷ 7 ∷ [])
unfolding bytes joined sum_to tab first blank blanks front start_of word_of end_of past with_digit value_from number_of number_at place_at alike name_of name_at sizes_to input_sizes inputs output_values output_sizes outputs body operands_place results_place name_place gate_at among is_set set_count made size_answer count_fields value_fields head_answer results_for count_good operand_answer result_answer name_good gate_answer end_answer form_answer gate_limit head_limit limit_answer text_answer ours_to kind_for needs operand_for gate_bytes head_bytes output_for imported imported_length import_answer import_out
left = (refl, refl, refl, refl)
