use mathlib.Core.Path.{◌≡◌}
use mathlib.Core.List.{◌++◌}
use Prim.Native.Nat.{◌/◌, ◌%◌, ◌^◌}
use lib.ListN.{drop}
use Rattle.ring.specs.Sums.{tab}
use Rattle.report.proofs.lines.row_inputs.Given as goal

abbrev pub invariant-loop-i : goal.invariant-loop-i
invariant-loop-i l = l.ins ≡ tab l.i (λ j. l.r / 2 ^ j % 2) ++ drop l.i l.initial.ins
