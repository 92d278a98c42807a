use mathlib.Core.Path.{◌≡◌}
use mathlib.Core.List.{◌++◌}
use lib.ListN.{take, drop}
use Rattle.ring.specs.Word.{at}
use Rattle.ring.specs.Sums.{tab}
use Rattle.circuit.specs.Form.{output_at, wires}
use Rattle.circuit.proofs.plain.put_outputs.Given as goal

abbrev pub invariant-loop-o : goal.invariant-loop-o
invariant-loop-o l = l.out ≡ tab l.o (λ i. at (take (wires l.bytes) l.bits) (output_at l.bytes i)) ++ drop l.o l.initial.out
