-- The plain meaning of a circuit and its work (01, 'Circuits'; 02, 2026-03).
use Rattle.std.specs.Prelude.{Result, List, [], ◌∷◌, ◌++◌, ℕ, zero, suc, eqb, length}
use Rattle.ring.specs.Word.{at}
use Rattle.ring.specs.Sums.{sum_to, tab}
use Rattle.params.specs.Refusal.{Answer}
use Rattle.params.specs.declared.refusal.Refusal.{Refusal}
use Rattle.params.specs.Refusal.{if_done, check, answer, given}
use Rattle.kinds.specs.Kinds.{kind_of, bit_meaning}
use Rattle.circuit.specs.Form.{inputs, gates, outputs, kind_at, operand_at, output_at, answer_of, or_else}
use Rattle.ring.specs.Bit.{bit_number, truth}

-- Gate g's bit, the bits of the wires before it being ws.
abbrev pub gate_bit : List ℕ → List ℕ → ℕ → ℕ
gate_bit bs ws g = bit_meaning (kind_at bs g) (at ws (operand_at bs g 0)) (at ws (operand_at bs g 1)) (at ws (operand_at bs g 2))

-- The wires' bits after g gates, the first wires' being given: each gate adds its own.
unfoldable pub wires_to : List ℕ → List ℕ → ℕ → List ℕ
wires_to bs start zero = start
wires_to bs start (suc g) = wires_to bs start g ++ (gate_bit bs (wires_to bs start g) g ∷ [])

-- The inputs' bits.
abbrev pub input_bits : List ℕ → List ℕ → List ℕ
input_bits bs ins = tab (inputs bs) (λ i. bit_number (truth (at ins i)))

-- Every wire's bit, in wire order.
abbrev pub wires_of : List ℕ → List ℕ → List ℕ
wires_of bs ins = wires_to bs (input_bits bs ins) (gates bs)

-- The outputs' bits.
abbrev pub output_bits : List ℕ → List ℕ → List ℕ
output_bits bs ins = tab (outputs bs) (λ o. at (wires_of bs ins) (output_at bs o))

-- The answer of a plain run: the circuit's, and then 2 where the inputs or the outputs are not as many bytes as the circuit has.
unfoldable pub run_answer : List ℕ → ℕ → ℕ → Answer
run_answer bs ins outs = or_else (answer_of bs) (answer (check (eqb ins (inputs bs)) 2 (check (eqb outs (outputs bs)) 2 0)))

-- What the outputs' slice holds after a plain run.
unfoldable pub run_out : List ℕ → List ℕ → List ℕ → List ℕ
run_out bs ins out = if_done (run_answer bs (length ins) (length out)).number (output_bits bs ins) out

-- ---- work

-- The work of a circuit's gates: how many blind rotations its encrypted run performs (`work_rotates` of crates/encrypted_run/proofs/Work.antt).
unfoldable pub work_of : List ℕ → ℕ
work_of bs = sum_to (gates bs) (λ g. (kind_of (kind_at bs g)).work)

-- What asking for the work hands back: the circuit's refusal, or its work.
abbrev pub work_answer : List ℕ → Result ℕ Refusal
work_answer bs = given (answer_of bs) (work_of bs)
