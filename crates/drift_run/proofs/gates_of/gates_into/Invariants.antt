use mathlib.Core.Path.{◌≡◌}
use mathlib.Core.List.{◌++◌}
use Prim.Native.Nat.{◌+◌}
use lib.ListN.{length, take, drop}
use Rattle.circuit.specs.Form.{inputs}
use Rattle.drift.specs.PrivateCircuit.{all_words}
use Rattle.drift.specs.PrivateShort.{short_to, short_brought_to}
use Rattle.drift_run.proofs.gates_of.gates_into.Given as goal

abbrev pub invariant-loop-g : goal.invariant-loop-g
invariant-loop-g l =
    (length l.drifts ≡ length l.initial.drifts) × (l.inside ≡ all_words (short_brought_to l.p l.key l.bytes l.wires (take (inputs l.bytes) l.initial.drifts) l.g))
    × (l.drifts ≡ short_to l.p l.key l.bytes l.wires (take (inputs l.bytes) l.initial.drifts) l.g ++ drop (inputs l.bytes + l.g) l.initial.drifts)
