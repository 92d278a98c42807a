use mathlib.Core.Path.{◌≡◌}
use mathlib.Core.List.{◌++◌}
use Prim.Native.Nat.{◌+◌, ◌*◌}
use lib.ListN.{length, take, drop}
use Rattle.circuit.specs.Form.{inputs}
use Rattle.encrypted_run.specs.Run.{ciphers_to}
use Rattle.encrypted_run.proofs.steps.all_into.Given as goal

abbrev pub invariant-loop-g : goal.invariant-loop-g
invariant-loop-g l =
    (length l.wires ≡ length l.initial.wires)
    × (l.wires ≡ ciphers_to l.p l.ksk l.bsk l.bytes (take (inputs l.bytes * (l.p.n + 1)) l.initial.wires) l.g ++ drop ((inputs l.bytes + l.g) * (l.p.n + 1)) l.initial.wires)
