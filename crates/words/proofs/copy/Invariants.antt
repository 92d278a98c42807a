use Rattle.std.proofs.Common.{◌≡◌, ◌++◌, drop}
use Rattle.ring.specs.Sums.{tab}
use Rattle.ring.specs.Word.{at}
use Rattle.words.proofs.copy.Given as goal

abbrev pub invariant-loop-i : goal.invariant-loop-i
invariant-loop-i l = l.out ≡ tab l.i (at l.a) ++ drop l.i l.initial.out
