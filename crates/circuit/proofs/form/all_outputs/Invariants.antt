use mathlib.Core.Path.{◌≡◌}
use Prim.Native.Nat.{◌-◌}
use Rattle.circuit.specs.Form.{first, output_answer, outputs}
use Rattle.circuit.proofs.form.all_outputs.Given as goal

abbrev pub invariant-loop-o : goal.invariant-loop-o
invariant-loop-o l = first (output_answer l.bytes) 0 (outputs l.bytes) ≡ first (output_answer l.bytes) l.o (outputs l.bytes - l.o)
