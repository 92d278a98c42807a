-- The text of a circuit in the Bristol Fashion form (02, request 2026-02), in ASCII: line ends are LF, fields are parted by one space, and an empty line
-- parts the head from the gates, as in the published circuits.
use Rattle.std.specs.Prelude.{cond, List, [], ◌∷◌, ◌++◌, ℕ, suc, ◌+◌, ◌-◌, ltb, get_or}
use Rattle.ring.specs.Sums.{sum_to}
use Rattle.ring.specs.Lists.{joined}
use Rattle.circuit.specs.Form.{inputs, gates, outputs, kind_at, operand_at, output_at}
use Rattle.tokens.specs.Tokens.{inv_name, eqw_name}
use Rattle.report.specs.Decimal.{decimal}
use Rattle.bristol_export.specs.Steps.{source_of, count, step_at}

-- ---- a line

-- A number, and what stands behind it.
unfoldable pub ended : ℕ → List ℕ → List ℕ
ended n end = decimal n ++ end

-- `2 1 `: two things are read and one wire is set.
abbrev pub reads_two : List ℕ
reads_two = 50 ∷ 32 ∷ 49 ∷ 32 ∷ []

-- `1 1 `: one thing is read and one wire is set.
abbrev pub reads_one : List ℕ
reads_one = 49 ∷ 32 ∷ 49 ∷ 32 ∷ []

-- One space.
abbrev pub space : List ℕ
space = 32 ∷ []

-- What ends a line: a space, the name, LF. By the names' numbers: ` XOR`, ` AND`, ` INV`, ` EQ`, ` EQW`.
unfoldable pub name_end : ℕ → List ℕ
name_end name =
    get_or
    (
    []
    ∷ (32 ∷ 88 ∷ 79 ∷ 82 ∷ 10 ∷ [])
    ∷ (32 ∷ 65 ∷ 78 ∷ 68 ∷ 10 ∷ [])
    ∷ (32 ∷ 73 ∷ 78 ∷ 86 ∷ 10 ∷ [])
    ∷ (32 ∷ 69 ∷ 81 ∷ 10 ∷ [])
    ∷ (32 ∷ 69 ∷ 81 ∷ 87 ∷ 10 ∷ [])
    ∷ []
    )
    name
    []

-- A line that reads two wires.
unfoldable pub two_text : ℕ → ℕ → ℕ → List ℕ → List ℕ
two_text x y n end = reads_two ++ ended x space ++ ended y space ++ ended n end

-- A line that reads one.
unfoldable pub one_text : ℕ → ℕ → List ℕ → List ℕ
one_text x n end = reads_one ++ ended x space ++ ended n end

-- The line of a text gate of this name that reads x and, if it is XOR or AND, y, and sets n.
unfoldable pub line_text : ℕ → ℕ → ℕ → ℕ → List ℕ
line_text name x y n = cond (ltb name inv_name) (two_text x y n (name_end name)) (one_text x n (name_end name))

-- ---- wires: the inputs first, then one for each line of text

-- How many lines the first g gates have.
unfoldable pub lines_to : List ℕ → ℕ → ℕ
lines_to bs g = sum_to g (λ i. count (kind_at bs i))

-- The wire that gate g's first line sets.
abbrev pub first_wire : List ℕ → ℕ → ℕ
first_wire bs g = inputs bs + lines_to bs g

-- The wire that gate g's last line sets: the gate's bit.
unfoldable pub last_wire : List ℕ → ℕ → ℕ
last_wire bs g = first_wire bs (suc g) - 1

-- The text's wire of the circuit's wire v.
unfoldable pub text_wire : List ℕ → ℕ → ℕ
text_wire bs v = cond (ltb v (inputs bs)) v (last_wire bs (v - inputs bs))

-- ---- the whole

-- Line s of a gate of kind k with the operands a, b and c, whose first line sets n.
unfoldable pub step_text : ℕ → ℕ → ℕ → ℕ → ℕ → ℕ → List ℕ
step_text k a b c n s = line_text (step_at k s).name (source_of (step_at k s).first a b c n) (source_of (step_at k s).second a b c n) (n + s)

-- The lines of such a gate.
unfoldable pub steps_text : ℕ → ℕ → ℕ → ℕ → ℕ → List ℕ
steps_text k a b c n = joined (count k) (step_text k a b c n)

-- The lines of gate g.
unfoldable pub gate_text : List ℕ → ℕ → List ℕ
gate_text bs g = steps_text (kind_at bs g) (text_wire bs (operand_at bs g 0)) (text_wire bs (operand_at bs g 1)) (text_wire bs (operand_at bs g 2)) (first_wire bs g)

-- The line of output o.
unfoldable pub output_text : List ℕ → ℕ → List ℕ
output_text bs o = line_text eqw_name (text_wire bs (output_at bs o)) 0 (first_wire bs (gates bs) + o)

-- How many lines the gates and the outputs have: the text's gates.
unfoldable pub lines : List ℕ → ℕ
lines bs = lines_to bs (gates bs) + outputs bs

-- The counts: text gates and wires, then one input value and one output value with their sizes; an empty line.
unfoldable pub head_text : List ℕ → List ℕ
head_text bs =
    ended (lines bs) space
    ++ ended (inputs bs + lines bs) (10 ∷ 49 ∷ 32 ∷ [])
    ++ ended (inputs bs) (10 ∷ 49 ∷ 32 ∷ [])
    ++ ended (outputs bs) (10 ∷ 10 ∷ [])

-- The whole text: the head, the gates in order, the outputs in order.
unfoldable pub exported : List ℕ → List ℕ
exported bs = head_text bs ++ joined (gates bs) (gate_text bs) ++ joined (outputs bs) (output_text bs)

-- No text of a valid circuit is longer (`never_longer` of proofs/Lengths.antt): a head of 22 bytes, 3,072 lines of 23 and 64 of 18.
abbrev pub longest_text : ℕ
longest_text = 71830
