-- Texts worked out by computing: those in the form that pass a limit, and the meaning of every name.
-- Assumes nothing.
use mathlib.Core.Path.{◌≡◌, refl}
use mathlib.Core.Bool.{xor}
use mathlib.Core.List.{List, [], ◌∷◌}
use Prim.Native.Nat.{ℕ}
use Prim.Native.String.{String}
use Rattle.params.specs.Refusal.{answer}
use Rattle.ring.specs.Sums.{sum_to, tab}
use Rattle.circuit.specs.Form.{first}
use Rattle.circuit.specs.Private.{refusal}
use Rattle.tokens.specs.Tokens.{blank, blanks, front, start_of, word_of, end_of, past, with_digit, value_from, number_of, number_at, place_at, alike, name_of, name_at, and_name, eqw_name}
use Rattle.bristol_form.specs.Says.{sizes_to, input_sizes, inputs, output_values, output_sizes, outputs, body, operands_place, results_place, name_place, gate_name, gate_at, among, is_set, set_count, made}
use Rattle.bristol_form.specs.Form.{size_answer, count_fields, value_fields, head_answer, results_for, count_good, operand_answer, result_answer, name_good, gate_answer, end_answer, form_answer, gate_limit, head_limit, limit_answer, text_answer}
use Rattle.bristol_form.specs.Meaning.{name_meaning, result_bit, after_results, wire_bit, meaning_of}
use Rattle.bristol_form.proofs.Examples.{bytes, Bad}

-- the text is refused with 12 at a place
abbrev Large : String → ℕ → Type 0
Large text place = text_answer (bytes text) ≡ refusal 12 place

-- the outputs' bits, the inputs' being given
abbrev Means : String → List ℕ → List ℕ → Type 0
Means text ins outs = meaning_of (bytes text) ins ≡ outs

-- in the form, and past the limits
abbrev LimitsPassed : Type 0
LimitsPassed =
    -- 257 inputs
    (Large "0 257 1 257 1 1" 8)
    -- at the size with which they pass 256
    × (Large "0 258 3 200 57 1 1 1" 12)
    -- 65 outputs
    × (Large "0 65 1 65 1 65" 12)
    -- at the size with which they pass 64
    × (Large "0 65 1 65 3 64 1 0" 15)
    -- inputs before outputs
    × (Large "0 257 1 257 1 257" 8)
    -- no output value
    × (Large "0 1 1 1 0" 8)
    -- no output: at the last size
    × (Large "0 1 1 1 2 0 0" 12)
    -- MAND, which is in the form
    × (Large "1 6 1 4 1 2\n4 2 0 1 2 3 4 5 MAND\n" 28)
    -- MAND of two operands
    × (Large "1 3 1 2 1 1 2 1 0 1 2 MAND" 22)
    -- the first of two
    × (Large "2 4 1 2 1 1 2 1 0 1 2 MAND 2 1 0 1 3 MAND" 22)
    -- an output too many before it
    × (Large "1 66 1 65 1 65 2 1 0 1 65 MAND" 12)

-- 11 anywhere comes before any 12
abbrev FormBeforeLimits : Type 0
FormBeforeLimits =
    -- no outputs, and something after the gates
    (Bad "0 1 1 1 0 5" 10)
    -- MAND, then no name
    × (Bad "2 4 1 2 1 1 2 1 0 1 2 MAND 2 1 0 1 3 nand" 37)
    -- 257 inputs, and no output size
    × (Bad "0 257 1 257 1" 13)

-- what circuits mean
abbrev Meanings : Type 0
Meanings =
    -- XOR
    (Means "1 3 1 2 1 1 2 1 0 1 2 XOR" (0 ∷ 0 ∷ []) (0 ∷ []))
    × (Means "1 3 1 2 1 1 2 1 0 1 2 XOR" (1 ∷ 0 ∷ []) (1 ∷ []))
    × (Means "1 3 1 2 1 1 2 1 0 1 2 XOR" (0 ∷ 1 ∷ []) (1 ∷ []))
    × (Means "1 3 1 2 1 1 2 1 0 1 2 XOR" (1 ∷ 1 ∷ []) (0 ∷ []))
    -- AND
    × (Means "1 3 1 2 1 1 2 1 0 1 2 AND" (0 ∷ 0 ∷ []) (0 ∷ []))
    × (Means "1 3 1 2 1 1 2 1 0 1 2 AND" (1 ∷ 0 ∷ []) (0 ∷ []))
    × (Means "1 3 1 2 1 1 2 1 0 1 2 AND" (0 ∷ 1 ∷ []) (0 ∷ []))
    × (Means "1 3 1 2 1 1 2 1 0 1 2 AND" (1 ∷ 1 ∷ []) (1 ∷ []))
    -- INV
    × (Means "1 2 1 1 1 1 1 1 0 1 INV" (0 ∷ []) (1 ∷ []))
    × (Means "1 2 1 1 1 1 1 1 0 1 INV" (1 ∷ []) (0 ∷ []))
    -- EQW
    × (Means "1 2 1 1 1 1 1 1 0 1 EQW" (0 ∷ []) (0 ∷ []))
    × (Means "1 2 1 1 1 1 1 1 0 1 EQW" (1 ∷ []) (1 ∷ []))
    -- EQ: the constant, not the wire
    × (Means "1 3 1 2 1 1 1 1 0 2 EQ" (1 ∷ 1 ∷ []) (0 ∷ []))
    × (Means "1 3 1 2 1 1 1 1 1 2 EQ" (0 ∷ 0 ∷ []) (1 ∷ []))
    -- no gates: the last wires
    × (Means "0 3 1 3 2 1 1" (0 ∷ 1 ∷ 0 ∷ []) (1 ∷ 0 ∷ []))
    -- a half adder, its wires set in another order
    × (Means "2 4 1 2 1 2 2 1 0 1 3 AND 2 1 0 1 2 XOR" (1 ∷ 0 ∷ []) (1 ∷ 0 ∷ []))
    × (Means "2 4 1 2 1 2 2 1 0 1 3 AND 2 1 0 1 2 XOR" (1 ∷ 1 ∷ []) (0 ∷ 1 ∷ []))
    -- a full adder
    × (Means "5 8 3 1 1 1 2 1 1 2 1 0 1 3 XOR 2 1 0 1 4 AND 2 1 2 3 5 AND 2 1 3 2 6 XOR 2 1 4 5 7 XOR" (1 ∷ 1 ∷ 0 ∷ []) (0 ∷ 1 ∷ []))
    × (Means "5 8 3 1 1 1 2 1 1 2 1 0 1 3 XOR 2 1 0 1 4 AND 2 1 2 3 5 AND 2 1 3 2 6 XOR 2 1 4 5 7 XOR" (1 ∷ 1 ∷ 1 ∷ []) (1 ∷ 1 ∷ []))
    -- MAND: result y is of operand y and the one as far behind it as there are results
    × (Means "1 6 1 4 1 2 4 2 0 1 2 3 4 5 MAND" (1 ∷ 0 ∷ 1 ∷ 1 ∷ []) (1 ∷ 0 ∷ []))
    × (Means "1 6 1 4 1 2 4 2 0 1 2 3 4 5 MAND" (1 ∷ 1 ∷ 0 ∷ 1 ∷ []) (0 ∷ 1 ∷ []))
    × (Means "1 6 1 4 1 2 4 2 0 1 2 3 4 5 MAND" (0 ∷ 1 ∷ 1 ∷ 0 ∷ []) (0 ∷ 0 ∷ []))

-- all of them, each by computing
worked : LimitsPassed × FormBeforeLimits × Meanings
unfolding bytes blank blanks front start_of word_of end_of past with_digit value_from number_of number_at place_at alike name_of name_at sizes_to input_sizes inputs output_values output_sizes outputs body operands_place results_place name_place gate_at among is_set set_count made size_answer count_fields value_fields head_answer results_for count_good operand_answer result_answer name_good gate_answer end_answer form_answer gate_limit head_limit limit_answer text_answer name_meaning result_bit after_results wire_bit meaning_of xor sum_to tab first
worked = (
  (refl, refl, refl, refl, refl, refl, refl, refl, refl, refl, refl),
  (refl, refl, refl),
  (refl, refl, refl, refl, refl, refl, refl, refl, refl, refl, refl, refl, refl, refl, refl, refl, refl, refl, refl, refl, refl, refl),
)

-- the 1,025th gate that is not EQW, in any text; EQW itself is not counted
too_many : (text : List ℕ) (j : ℕ) → gate_name text (gate_at text j) ≡ and_name → made text j ≡ 1024 → gate_limit text j ≡ refusal 12 (place_at text (name_place text (gate_at text j)) 0)
unfolding gate_limit
too_many text j name many = rw (name, many)

not_counted : (text : List ℕ) (j : ℕ) → gate_name text (gate_at text j) ≡ eqw_name → gate_limit text j ≡ answer 0
unfolding gate_limit
not_counted text j name = rw name
