-- The circuit form (01, 'Circuits'; docs/DECISIONS.md, Readings): the fields of a circuit's bytes, and the answer that reading them gives.
use Rattle.std.specs.Prelude.{Bool, cond, List, [], ◌∷◌, ℕ, zero, suc, ◌+◌, ◌*◌, leb, ltb, eqb, length}
use Rattle.ring.specs.Word.{at}
use Rattle.params.specs.Refusal.{Answer}
use Rattle.params.specs.Refusal.{answer, if_done}
use Rattle.circuit.specs.declared.Shape.{Shape}
use Rattle.kinds.specs.Kinds.{kind_of, last_kind}

-- The 16-bit field whose first byte stands at place i, low byte first; 0 past the end.
unfoldable pub field_at : List ℕ → ℕ → ℕ
field_at bs i = at bs i + 256 * at bs (i + 1)

-- The version.
abbrev pub version : List ℕ → ℕ
version bs = field_at bs 3

-- The number of inputs, which are the first wires.
abbrev pub inputs : List ℕ → ℕ
inputs bs = field_at bs 5

-- The number of gates.
abbrev pub gates : List ℕ → ℕ
gates bs = field_at bs 7

-- The number of outputs.
abbrev pub outputs : List ℕ → ℕ
outputs bs = field_at bs 9

-- The version and the counts in one.
unfoldable pub counts_of : List ℕ → Shape
counts_of bs = record { version = version bs; inputs = inputs bs; gates = gates bs; outputs = outputs bs }

-- The number of wires: the inputs, then one for each gate.
abbrev pub wires : List ℕ → ℕ
wires bs = inputs bs + gates bs

-- Where gate g's 8 bytes begin: its kind, a zero byte, three operands.
abbrev pub gate_place : ℕ → ℕ
gate_place g = 11 + 8 * g

-- The number of gate g's kind.
abbrev pub kind_at : List ℕ → ℕ → ℕ
kind_at bs g = at bs (gate_place g)

-- Operand x of gate g: a wire.
abbrev pub operand_at : List ℕ → ℕ → ℕ → ℕ
operand_at bs g x = field_at bs (gate_place g + 2 + 2 * x)

-- Where output o's two bytes begin: the outputs follow the gates.
abbrev pub output_place : List ℕ → ℕ → ℕ
output_place bs o = gate_place (gates bs) + 2 * o

-- The wire of output o.
abbrev pub output_at : List ℕ → ℕ → ℕ
output_at bs o = field_at bs (output_place bs o)

-- How many bytes the longest circuit has: 1,024 gates and 64 outputs.
abbrev pub longest : ℕ
longest = gate_place 1024 + 2 * 64

-- ---- the answer

-- The first answer where it refuses, else the second.
abbrev pub or_else : Answer → Answer → Answer
or_else a b = if_done a.number b a

-- One check of a field: the test, and the refusal's number and place where it fails.
pub data FieldCheck : Type 0 where
  asks : Bool → ℕ → ℕ → FieldCheck

-- The refusal of the first check that fails, done where none does.
abbrev pub first_at : List FieldCheck → Answer
first_at [] = answer 0
first_at (asks test n p ∷ checks) = cond test (first_at checks) (record { number = n; place = p })

-- The first refusal among f i, f (i + 1), .. of so many answers; done where none refuses.
unfoldable pub first : (ℕ → Answer) → ℕ → ℕ → Answer
first f i zero = answer 0
first f i (suc left) = or_else (f i) (first f (suc i) left)

-- What comes before the gates: under 11 bytes it is 8 at once; then the mark `EGL`, the version, the counts in order and the total length.
unfoldable pub head_fields : List ℕ → List FieldCheck
head_fields bs =
    asks (leb 11 (length bs)) 8 0
    ∷ asks (eqb (at bs 0) 69) 6 0
    ∷ asks (eqb (at bs 1) 71) 6 0
    ∷ asks (eqb (at bs 2) 76) 6 0
    ∷ asks (eqb (version bs) 1) 7 3
    ∷ asks (leb (inputs bs) 256) 8 5
    ∷ asks (leb (gates bs) 1024) 8 7
    ∷ asks (leb 1 (outputs bs)) 8 9
    ∷ asks (leb (outputs bs) 64) 8 9
    ∷ asks (eqb (length bs) (output_place bs (outputs bs))) 8 11
    ∷ []

-- Operand x of gate g: one that its kind needs is below its own wire, which is inputs + g; another is 0.
unfoldable pub operand_good : List ℕ → ℕ → ℕ → Bool
operand_good bs g x = cond (ltb x (kind_of (kind_at bs g)).operands) (ltb (operand_at bs g x) (inputs bs + g)) (eqb (operand_at bs g x) 0)

-- Gate g, field by field: its kind, the zero byte, the operands in order.
unfoldable pub gate_fields : List ℕ → ℕ → List FieldCheck
gate_fields bs g =
    asks (leb (kind_at bs g) last_kind) 9 (gate_place g)
    ∷ asks (eqb (at bs (gate_place g + 1)) 0) 9 (gate_place g + 1)
    ∷ asks (operand_good bs g 0) 9 (gate_place g + 2)
    ∷ asks (operand_good bs g 1) 9 (gate_place g + 4)
    ∷ asks (operand_good bs g 2) 9 (gate_place g + 6)
    ∷ []

-- Output o is one of the wires.
unfoldable pub output_answer : List ℕ → ℕ → Answer
output_answer bs o = first_at (asks (ltb (output_at bs o) (wires bs)) 10 (output_place bs o) ∷ [])

-- The answer to a circuit's bytes: the head, the gates in order, the outputs in order.
unfoldable pub answer_of : List ℕ → Answer
answer_of bs = or_else (first_at (head_fields bs)) (or_else (first (λ g. first_at (gate_fields bs g)) 0 (gates bs)) (first (output_answer bs) 0 (outputs bs)))
