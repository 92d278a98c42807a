use Prim.Native.Nat.{◌+◌}
use lib.ListN.{take}
use Rattle.bristol_export.proofs.Laid.{Put}
use Rattle.bristol_export.proofs.text.put.Given as goal

abbrev pub invariant-loop-i : goal.invariant-loop-i
invariant-loop-i l = Put l.initial.out l.at (take l.i l.src) l.out (l.at + l.i)
