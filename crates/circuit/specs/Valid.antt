-- What a valid circuit is (01, 'Circuits'), said without the order of the checks: `accepted` and `not_refused` of proofs/Accept.antt show that
-- it is what reading accepts.
use Rattle.std.specs.Prelude.{◌≡◌, List, ℕ, ◌+◌, ◌*◌, ◌≤◌, ◌<◌, length}
use Rattle.ring.specs.Word.{at}
use Rattle.kinds.specs.Kinds.{kind_of, last_kind}
use Rattle.circuit.specs.Form.{version, inputs, gates, outputs, wires, gate_place, kind_at, operand_at, output_at}

-- The mark, the version, the counts and the length.
pub record Head (bs : List ℕ) : Type 0 where
  pub long : 11 ≤ length bs
  pub e : at bs 0 ≡ 69
  pub g : at bs 1 ≡ 71
  pub l : at bs 2 ≡ 76
  pub version_one : version bs ≡ 1
  pub inputs_to : inputs bs ≤ 256
  pub gates_to : gates bs ≤ 1024
  pub outputs_from : 1 ≤ outputs bs
  pub outputs_to : outputs bs ≤ 64
  pub whole : length bs ≡ 11 + 8 * gates bs + 2 * outputs bs

-- A gate: a kind of the table, a zero byte, the needed operands below the gate's own wire and the others 0.
pub record GoodGate (bs : List ℕ) (g : ℕ) : Type 0 where
  pub kind_to : kind_at bs g ≤ last_kind
  pub zero_byte : at bs (gate_place g + 1) ≡ 0
  pub needed : (x : ℕ) → x < 3 → x < (kind_of (kind_at bs g)).operands → operand_at bs g x < inputs bs + g
  pub others : (x : ℕ) → x < 3 → (kind_of (kind_at bs g)).operands ≤ x → operand_at bs g x ≡ 0

-- The bytes of a circuit.
pub record Valid (bs : List ℕ) : Type 0 where
  pub head : Head bs
  pub every_gate : (g : ℕ) → g < gates bs → GoodGate bs g
  pub every_output : (o : ℕ) → o < outputs bs → output_at bs o < wires bs
