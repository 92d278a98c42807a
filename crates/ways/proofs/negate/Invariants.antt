use mathlib.Core.Path.{◌≡◌}
use mathlib.Core.List.{◌++◌}
use Prim.Native.Nat.{◌%◌}
use lib.ListN.{length, drop}
use Rattle.ring.specs.Word.{Q, at, neg}
use Rattle.ring.specs.Sums.{tab}
use Rattle.ways.proofs.negate.Given as goal

abbrev pub invariant-loop-i : goal.invariant-loop-i
invariant-loop-i l = (length l.out ≡ length l.initial.out) × (l.out ≡ tab l.i (λ j. neg (at l.initial.out j) % Q) ++ drop l.i l.initial.out)
