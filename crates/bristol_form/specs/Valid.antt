-- What a text in the form is, said without the order of the checks and without their places: `accepted` and `not_refused` of proofs/Accept.antt show that it is
-- what reading accepts.
use Rattle.std.specs.Prelude.{◌≡◌, ◌⊎◌, true, false, List, ℕ, ◌+◌, ◌≤◌, ◌<◌, length}
use Rattle.tokens.specs.Tokens.{start_of, no_number, xor_name, and_name, inv_name, eq_name, eqw_name, mand_name}
use Rattle.bristol_form.specs.Says.{gates, wires, input_values, inputs, output_values, outputs, gate_at, operand_count, result_count, operand, result, gate_name, set_by, is_set, set_count, made}

-- XOR and AND have two operands, INV and EQW one, each a wire that is set before; EQ has a constant, 0 or 1; MAND has twice as many operands as results.
pub data Fits (text : List ℕ) (p : ℕ) : Type 0 where
  binary : (gate_name text p ≡ xor_name) ⊎ (gate_name text p ≡ and_name) → operand_count text p ≡ 2 → result_count text p ≡ 1 → Fits text p
  unary : (gate_name text p ≡ inv_name) ⊎ (gate_name text p ≡ eqw_name) → operand_count text p ≡ 1 → result_count text p ≡ 1 → Fits text p
  constant : gate_name text p ≡ eq_name → operand_count text p ≡ 1 → result_count text p ≡ 1 → operand text p 0 ≤ 1 → Fits text p
  many : gate_name text p ≡ mand_name → 1 ≤ result_count text p → operand_count text p ≡ result_count text p + result_count text p → Fits text p

-- Gate j: its name goes with its counts; its operands are set before it, but for a constant; its results are wires, each set here first.
pub record GoodGate (text : List ℕ) (j : ℕ) : Type 0 where
  pub counted : operand_count text (gate_at text j) < no_number
  pub fits : Fits text (gate_at text j)
  pub operands_set : (x : ℕ) → x < operand_count text (gate_at text j) → (is_set text j (operand text (gate_at text j) x) ≡ true) ⊎ (gate_name text (gate_at text j) ≡ eq_name)
  pub results_wires : (y : ℕ) → y < result_count text (gate_at text j) → result text (gate_at text j) y < wires text
  pub results_new : (y : ℕ) → y < result_count text (gate_at text j) → is_set text j (result text (gate_at text j) y) ≡ false
  pub results_apart : (y : ℕ) → y < result_count text (gate_at text j) → set_by text (gate_at text j) y (result text (gate_at text j) y) ≡ false

-- A text in the form: numbers in the head, inputs and results that make up all the wires, outputs among them, good gates, and nothing after them. Sizes, operands and
-- results are numbers too: what is none counts 2^32, and no sum or wire is as large.
pub record InForm (text : List ℕ) : Type 0 where
  pub gates_number : gates text < no_number
  pub wires_number : wires text < no_number
  pub input_values_number : input_values text < no_number
  pub output_values_number : output_values text < no_number
  pub outputs_to : outputs text ≤ wires text
  pub every_gate : (j : ℕ) → j < gates text → GoodGate text j
  pub all_set : set_count text (gates text) ≡ wires text
  pub whole : start_of text (gate_at text (gates text)) ≡ length text

-- A text whose circuit keeps the limits of 01 and has no MAND.
pub record InLimits (text : List ℕ) : Type 0 where
  pub inputs_to : inputs text ≤ 256
  pub outputs_from : 1 ≤ outputs text
  pub outputs_most : outputs text ≤ 64
  pub gates_most : made text (gates text) ≤ 1024
  pub no_mand : (j : ℕ) → j < gates text → gate_name text (gate_at text j) ≡ mand_name → ⊥
