-- The answer that reading a text gives (02, request 2026-02; docs/DECISIONS.md, 'Circuits as text', has each place in words): 11 at the first byte of the first token that the
-- checks below find at fault, in the text's order; where there is none in the whole text, 12 at the first that shows MAND or a limit of 01 passed. A token that is due and not
-- there is no number and no name, and its place is the text's length.
use Rattle.std.specs.Prelude.{Bool, Result, cond, not, ◌&&◌, ◌||◌, List, [], ◌∷◌, ℕ, suc, ◌+◌, ◌-◌, ◌/◌, ◌%◌, leb, ltb, eqb, length}
use Rattle.params.specs.Refusal.{Answer}
use Rattle.params.specs.declared.refusal.Refusal.{Refusal}
use Rattle.params.specs.Refusal.{given}
use Rattle.circuit.specs.Form.{FieldCheck, asks, first_at, first, or_else}
use Rattle.tokens.specs.Tokens.{start_of, place_at, no_number, xor_name, and_name, inv_name, eq_name, eqw_name, mand_name}
use Rattle.bristol_form.specs.declared.Contents.{Contents}
use Rattle.bristol_form.specs.Says.{gates, wires, input_values, sizes_to, input_sizes, inputs, output_values, output_sizes, outputs, body, gate_at, operand_count, result_count, operands_place, results_place, name_place, operand, result, gate_name, set_by, is_set, set_count, made}

-- ---- 11

-- The sizes from place p on, up to that of index i, sum up to a bound at most; else this refusal. (What is no number counts 2^32, which passes every bound.)
unfoldable pub size_answer : List ℕ → ℕ → ℕ → ℕ → ℕ → Answer
size_answer text p number bound i = first_at (asks (leb (sizes_to text p (suc i)) bound) number (place_at text p i) ∷ [])

-- The numbers of gates, which each set a wire, of wires, and of input values.
unfoldable pub count_fields : List ℕ → List FieldCheck
count_fields text =
    asks (ltb (gates text) no_number) 11 (place_at text 0 0)
    ∷ asks (ltb (wires text) no_number && leb (gates text) (wires text)) 11 (place_at text 0 1)
    ∷ asks (ltb (input_values text) no_number) 11 (place_at text 0 2)
    ∷ []

-- Without gates every wire is an input: said by the last token of the input values. Then the number of output values.
unfoldable pub value_fields : List ℕ → List FieldCheck
value_fields text =
    asks (ltb 0 (gates text) || eqb (inputs text) (wires text)) 11 (place_at text 0 (2 + input_values text))
    ∷ asks (ltb (output_values text) no_number) 11 (place_at text (input_sizes text) (input_values text))
    ∷ []

-- The head in order. The inputs leave a wire for each gate; the outputs are wires.
unfoldable pub head_answer : List ℕ → Answer
head_answer text =
    or_else (first_at (count_fields text))
    (or_else (first (size_answer text (input_sizes text) 11 (wires text - gates text)) 0 (input_values text))
    (or_else (first_at (value_fields text))
    (first (size_answer text (output_sizes text) 11 (wires text)) 0 (output_values text))))

-- How many results go with k operands.
unfoldable pub results_for : ℕ → ℕ
results_for k = cond (eqb k 1) 1 (k / 2)

-- Whether k can be the number of gate j's operands: 1, or even and not 0, with some wire set; its results and one for each later gate are no more wires than
-- are not set yet, and the last gate sets all of them.
unfoldable pub count_good : List ℕ → ℕ → ℕ → Bool
count_good text j k =
    ltb k no_number
    && (eqb k 1 || ltb 0 k && eqb (k % 2) 0 && ltb 0 (set_count text j))
    && leb (set_count text j + results_for k + (gates text - suc j)) (wires text)
    && (ltb (suc j) (gates text) || eqb (set_count text j + results_for k) (wires text))

-- Operand x of gate j: a set wire, or EQ's constant.
unfoldable pub operand_answer : List ℕ → ℕ → ℕ → Answer
operand_answer text j x =
    first_at
    (asks (is_set text j (operand text (gate_at text j) x) || eqb (operand_count text (gate_at text j)) 1 && leb (operand text (gate_at text j) x) 1) 11
    (place_at text (operands_place text (gate_at text j)) x)
    ∷ [])

-- Result y of gate j: a wire that is not set yet, and not by the same gate either.
unfoldable pub result_answer : List ℕ → ℕ → ℕ → Answer
result_answer text j y =
    first_at
    (asks
    (ltb (result text (gate_at text j) y) (wires text)
    && not (is_set text j (result text (gate_at text j) y))
    && not (set_by text (gate_at text j) y (result text (gate_at text j) y)))
    11
    (place_at text (results_place text (gate_at text j)) y)
    ∷ [])

-- Whether a name goes with k operands, the first of which is this number, and a set wire or not.
unfoldable pub name_good : ℕ → ℕ → Bool → ℕ → Bool
name_good k constant set name =
    cond (eqb k 1)
    ((eqb name inv_name || eqb name eqw_name) && set || eqb name eq_name && leb constant 1)
    (eqb name mand_name || eqb k 2 && (eqb name xor_name || eqb name and_name))

-- Gate j, token by token.
unfoldable pub gate_answer : List ℕ → ℕ → Answer
gate_answer text j =
    or_else
    (first_at
    (asks (count_good text j (operand_count text (gate_at text j))) 11 (place_at text (gate_at text j) 0)
    ∷ asks (eqb (result_count text (gate_at text j)) (results_for (operand_count text (gate_at text j)))) 11 (place_at text (gate_at text j) 1)
    ∷ []))
    (or_else (first (operand_answer text j) 0 (operand_count text (gate_at text j)))
    (or_else (first (result_answer text j) 0 (result_count text (gate_at text j)))
    (first_at
    (asks (name_good (operand_count text (gate_at text j)) (operand text (gate_at text j) 0) (is_set text j (operand text (gate_at text j) 0)) (gate_name text (gate_at text j))) 11
    (place_at text (name_place text (gate_at text j)) 0)
    ∷ []))))

-- Nothing follows the gates.
unfoldable pub end_answer : List ℕ → Answer
end_answer text = first_at (asks (eqb (start_of text (gate_at text (gates text))) (length text)) 11 (start_of text (gate_at text (gates text))) ∷ [])

-- Whether the text is in the form.
unfoldable pub form_answer : List ℕ → Answer
form_answer text = or_else (head_answer text) (or_else (first (gate_answer text) 0 (gates text)) (end_answer text))

-- ---- 12: a text in the form

-- Gate j is not MAND, and if it is not EQW it is one of the first 1,024 such.
unfoldable pub gate_limit : List ℕ → ℕ → Answer
gate_limit text j =
    first_at
    (asks (not (eqb (gate_name text (gate_at text j)) mand_name) && (eqb (gate_name text (gate_at text j)) eqw_name || ltb (made text j) 1024)) 12
    (place_at text (name_place text (gate_at text j)) 0)
    ∷ [])

-- 256 inputs, 64 outputs and not none, which the last token of the output values shows.
unfoldable pub head_limit : List ℕ → Answer
head_limit text =
    or_else (first (size_answer text (input_sizes text) 12 256) 0 (input_values text))
    (or_else (first (size_answer text (output_sizes text) 12 64) 0 (output_values text))
    (first_at (asks (ltb 0 (outputs text)) 12 (place_at text (input_sizes text) (input_values text + output_values text)) ∷ [])))

-- Whether the circuit keeps the limits of 01 and has no MAND.
unfoldable pub limit_answer : List ℕ → Answer
limit_answer text = or_else (head_limit text) (first (gate_limit text) 0 (gates text))

-- The answer to a text: 11 anywhere before any 12.
unfoldable pub text_answer : List ℕ → Answer
text_answer text = or_else (form_answer text) (limit_answer text)

-- What a text says, where it is not refused: else its refusal.
unfoldable pub checked_of : List ℕ → Result Contents Refusal
checked_of text =
    given (text_answer text)
    (record { gates = gates text; wires = wires text; inputs = inputs text; outputs = outputs text; made = made text (gates text); body = body text })
