use mathlib.Core.Path.{◌≡◌}
use Prim.Native.Nat.{◌-◌}
use Rattle.circuit.specs.Form.{first}
use Rattle.tokens.specs.Tokens.{past}
use Rattle.bristol_form.specs.Form.{operand_answer}
use Rattle.bristol_form.proofs.rows.operands.Given as goal

abbrev pub invariant-loop : goal.invariant-loop
invariant-loop l = (l.p ≡ past l.text l.at l.counter) × (first (operand_answer l.text l.j) 0 l.count ≡ first (operand_answer l.text l.j) l.counter (l.count - l.counter))
