-- What a text in the Bristol Fashion form says, token by token (02, request 2026-02; docs/DECISIONS.md, 'Circuits as text'): total definitions, so that each number stands for any text.
use Rattle.std.specs.Prelude.{Bool, false, cond, ◌||◌, List, ℕ, zero, suc, ◌+◌, ltb, eqb}
use Rattle.ring.specs.Sums.{sum_to}
use Rattle.tokens.specs.Tokens.{past, number_at, name_at, eqw_name}

-- ---- the head: gates, wires, the number of input values and the size of each, the number of output values and the size of each

-- The number of gates.
abbrev pub gates : List ℕ → ℕ
gates text = number_at text 0 0

-- The number of wires.
abbrev pub wires : List ℕ → ℕ
wires text = number_at text 0 1

-- How many input values there are.
abbrev pub input_values : List ℕ → ℕ
input_values text = number_at text 0 2

-- The sum of the first i of the numbers that stand from place p on.
unfoldable pub sizes_to : List ℕ → ℕ → ℕ → ℕ
sizes_to text p i = sum_to i (number_at text p)

-- Where the sizes of the input values begin.
unfoldable pub input_sizes : List ℕ → ℕ
input_sizes text = past text 0 3

-- The number of input wires, which are the first wires.
unfoldable pub inputs : List ℕ → ℕ
inputs text = sizes_to text (input_sizes text) (input_values text)

-- How many output values there are: the token after the input values' sizes.
unfoldable pub output_values : List ℕ → ℕ
output_values text = number_at text (input_sizes text) (input_values text)

-- Where the sizes of the output values begin.
unfoldable pub output_sizes : List ℕ → ℕ
output_sizes text = past text (input_sizes text) (suc (input_values text))

-- The number of output wires, which are the last wires.
unfoldable pub outputs : List ℕ → ℕ
outputs text = sizes_to text (output_sizes text) (output_values text)

-- Where the gates begin.
unfoldable pub body : List ℕ → ℕ
body text = past text (output_sizes text) (output_values text)

-- ---- the gate that stands from place p on: the numbers of its operands and of its results, the operands, the results, the name

-- How many operands it has.
abbrev pub operand_count : List ℕ → ℕ → ℕ
operand_count text p = number_at text p 0

-- How many results it has.
abbrev pub result_count : List ℕ → ℕ → ℕ
result_count text p = number_at text p 1

-- Where its operands begin.
unfoldable pub operands_place : List ℕ → ℕ → ℕ
operands_place text p = past text p 2

-- Where its results begin.
unfoldable pub results_place : List ℕ → ℕ → ℕ
results_place text p = past text (operands_place text p) (operand_count text p)

-- Where its name is next.
unfoldable pub name_place : List ℕ → ℕ → ℕ
name_place text p = past text (results_place text p) (result_count text p)

-- Operand x: a wire, or EQ's constant.
abbrev pub operand : List ℕ → ℕ → ℕ → ℕ
operand text p x = number_at text (operands_place text p) x

-- Result y: a wire.
abbrev pub result : List ℕ → ℕ → ℕ → ℕ
result text p y = number_at text (results_place text p) y

-- Its name.
abbrev pub gate_name : List ℕ → ℕ → ℕ
gate_name text p = name_at text (name_place text p) 0

-- Where gate j begins.
unfoldable pub gate_at : List ℕ → ℕ → ℕ
gate_at text zero = body text
gate_at text (suc j) = past text (name_place text (gate_at text j)) 1

-- ---- which wires are set

-- Whether w is among the first i of the numbers that stand from place p on.
unfoldable pub among : List ℕ → ℕ → ℕ → ℕ → Bool
among text p zero w = false
among text p (suc i) w = among text p i w || eqb w (number_at text p i)

-- Whether wire w is among the first y results of the gate at p.
abbrev pub set_by : List ℕ → ℕ → ℕ → ℕ → Bool
set_by text p y w = among text (results_place text p) y w

-- Whether wire w is set before gate j: an input, or a result of an earlier gate.
unfoldable pub is_set : List ℕ → ℕ → ℕ → Bool
is_set text zero w = ltb w (inputs text)
is_set text (suc j) w = is_set text j w || set_by text (gate_at text j) (result_count text (gate_at text j)) w

-- How many wires are set before gate j, each being set once.
unfoldable pub set_count : List ℕ → ℕ → ℕ
set_count text zero = inputs text
set_count text (suc j) = set_count text j + result_count text (gate_at text j)

-- How many of the first j gates are not EQW.
unfoldable pub made : List ℕ → ℕ → ℕ
made text zero = 0
made text (suc j) = made text j + cond (eqb (gate_name text (gate_at text j)) eqw_name) 0 1
