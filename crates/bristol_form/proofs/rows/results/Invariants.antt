use mathlib.Core.Path.{◌≡◌}
use Prim.Native.Nat.{◌-◌}
use Rattle.circuit.specs.Form.{first}
use Rattle.tokens.specs.Tokens.{past}
use Rattle.bristol_form.specs.Form.{result_answer}
use Rattle.bristol_form.specs.Private.{Holds}
use Rattle.bristol_form.proofs.rows.results.Given as goal

abbrev pub invariant-loop-y : goal.invariant-loop-y
invariant-loop-y l = (l.p ≡ past l.text l.at l.y) × (first (result_answer l.text l.j) 0 l.count ≡ first (result_answer l.text l.j) l.y (l.count - l.y)) × Holds l.text l.bits l.j l.y
