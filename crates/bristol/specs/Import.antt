-- The circuit of a text in the Bristol Fashion form, in our form (02, request 2026-02; 01, 'Circuits'): one gate for each of the text's but EQW, in the text's order.
use Rattle.std.specs.Prelude.{Result, cond, List, [], ◌∷◌, ◌++◌, ℕ, zero, suc, ◌+◌, ◌*◌, ◌-◌, ◌/◌, ◌%◌, leb, ltb, eqb, length, drop}
use Rattle.ring.specs.Lists.{joined}
use Rattle.params.specs.Refusal.{Answer}
use Rattle.params.specs.Refusal.{answer, check, if_done, given}
use Rattle.params.specs.declared.refusal.Refusal.{Refusal}
use Rattle.circuit.specs.Form.{or_else}
use Rattle.tokens.specs.Tokens.{xor_name, and_name, inv_name, eqw_name}
use Rattle.bristol_form.specs.Says.{gates, wires, inputs, outputs, gate_at, operand, result, gate_name, made}
use Rattle.bristol_form.specs.Form.{text_answer}

-- The wire of our circuit that the text's wire w stands for after j gates: an input keeps its number; a gate's result is the wire of our next gate, but EQW's result
-- stands for what its operand stands for.
unfoldable pub ours_to : List ℕ → ℕ → ℕ → ℕ
ours_to text zero w = w
ours_to text (suc j) w =
    cond (eqb w (result text (gate_at text j) 0))
    (cond (eqb (gate_name text (gate_at text j)) eqw_name) (ours_to text j (operand text (gate_at text j) 0)) (inputs text + made text j))
    (ours_to text j w)

-- The kind of a gate of this name: xor, and, not; EQ's is its constant, for kind 0 is false and kind 1 true.
unfoldable pub kind_for : ℕ → ℕ → ℕ
kind_for name constant = cond (eqb name xor_name) 7 (cond (eqb name and_name) 3 (cond (eqb name inv_name) 2 constant))

-- How many operands our gate of this name has.
unfoldable pub needs : ℕ → ℕ
needs name = cond (eqb name xor_name) 2 (cond (eqb name and_name) 2 (cond (eqb name inv_name) 1 0))

-- Operand x of our gate for the text's gate j: a needed one's wire, else 0.
unfoldable pub operand_for : List ℕ → ℕ → ℕ → ℕ
operand_for text j x = cond (ltb x (needs (gate_name text (gate_at text j)))) (ours_to text j (operand text (gate_at text j) x)) 0

-- A field of two bytes, the low one first.
abbrev pub field_bytes : ℕ → List ℕ
field_bytes v = v % 256 ∷ v / 256 ∷ []

-- The eight bytes of a gate of two operands at most.
abbrev pub eight_bytes : ℕ → ℕ → ℕ → List ℕ
eight_bytes kind a b = kind ∷ 0 ∷ a % 256 ∷ a / 256 ∷ b % 256 ∷ b / 256 ∷ 0 ∷ 0 ∷ []

-- The bytes for the text's gate j: EQW makes none.
unfoldable pub gate_bytes : List ℕ → ℕ → List ℕ
gate_bytes text j =
    cond (eqb (gate_name text (gate_at text j)) eqw_name) []
    (eight_bytes (kind_for (gate_name text (gate_at text j)) (operand text (gate_at text j) 0)) (operand_for text j 0) (operand_for text j 1))

-- The mark, the version, the numbers of inputs, gates and outputs.
unfoldable pub head_bytes : ℕ → ℕ → ℕ → List ℕ
head_bytes i g o = 69 ∷ 71 ∷ 76 ∷ 1 ∷ 0 ∷ i % 256 ∷ i / 256 ∷ g % 256 ∷ g / 256 ∷ o % 256 ∷ o / 256 ∷ []

-- The wire of output o: the outputs are the text's last wires.
unfoldable pub output_for : List ℕ → ℕ → ℕ
output_for text o = ours_to text (gates text) (wires text - outputs text + o)

-- The circuit of a text that is not refused.
unfoldable pub imported : List ℕ → List ℕ
imported text =
    head_bytes (inputs text) (made text (gates text)) (outputs text)
    ++ joined (gates text) (gate_bytes text)
    ++ joined (outputs text) (λ o. field_bytes (output_for text o))

-- Its length.
unfoldable pub imported_length : List ℕ → ℕ
imported_length text = 11 + 8 * made text (gates text) + 2 * outputs text

-- The answer to an import into so many bytes: the text's, then 2 where they are too few.
unfoldable pub import_answer : List ℕ → ℕ → Answer
import_answer text room = or_else (text_answer text) (answer (check (leb (imported_length text) room) 2 0))

-- What a call hands back: the length written, or the refusal.
unfoldable pub import_said : List ℕ → ℕ → Result ℕ Refusal
import_said text room = given (import_answer text room) (imported_length text)

-- What the lent slice holds afterwards: the circuit, then its old bytes; all of them where refused.
unfoldable pub import_out : List ℕ → List ℕ → List ℕ
import_out text out = if_done (import_answer text (length out)).number (imported text ++ drop (imported_length text) out) out
