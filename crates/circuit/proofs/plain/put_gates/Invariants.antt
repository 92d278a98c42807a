use mathlib.Core.Path.{◌≡◌}
use mathlib.Core.List.{◌++◌}
use Prim.Native.Nat.{◌+◌}
use lib.ListN.{take, drop}
use Rattle.circuit.specs.Plain.{wires_to}
use Rattle.circuit.proofs.plain.put_gates.Given as goal

abbrev pub invariant-loop-g : goal.invariant-loop-g
invariant-loop-g l = l.bits ≡ wires_to l.bytes (take l.first l.initial.bits) l.g ++ drop (l.first + l.g) l.initial.bits
