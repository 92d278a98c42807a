use Rattle.std.proofs.Common.{◌≡◌, ◌++◌, ◌+◌, ◌-◌, cond, leb, length, drop}
use Rattle.ring.specs.Word.{at, comp}
use Rattle.ring.specs.Sums.{tab}
use Rattle.trlwe.proofs.extract_into.Given as goal

abbrev pub invariant-loop-i : goal.invariant-loop-i
invariant-loop-i l = l.out ≡ tab l.i (λ j. cond (leb j l.k) (at l.a (l.k - j)) (comp (at l.a (length l.a + l.k - j)))) ++ drop l.i l.initial.out
