use mathlib.Core.Path.{◌≡◌}
use Prim.Native.Nat.{◌-◌}
use Rattle.circuit.specs.Form.{first, gates}
use Rattle.circuit.specs.Private.{gate_answer}
use Rattle.circuit.proofs.form.all_gates.Given as goal

abbrev pub invariant-loop-g : goal.invariant-loop-g
invariant-loop-g l = first (gate_answer l.bytes) 0 (gates l.bytes) ≡ first (gate_answer l.bytes) l.g (gates l.bytes - l.g)
