use mathlib.Core.Path.{◌≡◌}
use Rattle.ring.specs.Word.{at}
use Rattle.ring.specs.Sums.{tab}
use Rattle.circuit.specs.Form.{output_at}
use Rattle.drift.specs.PrivateCircuit.{all_words}
use Rattle.drift_run.proofs.gates_of.outputs_inside.Given as goal

abbrev pub invariant-loop-o : goal.invariant-loop-o
invariant-loop-o l = l.inside ≡ all_words (tab l.o (λ k. at l.drifts (output_at l.bytes k)))
