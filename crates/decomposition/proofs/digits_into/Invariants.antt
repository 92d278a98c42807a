use Rattle.std.proofs.Common.{◌≡◌, ◌++◌, drop}
use Rattle.ring.specs.Word.{at}
use Rattle.ring.specs.Sums.{tab}
use Rattle.decomposition.specs.Digit.{digit_of}
use Rattle.decomposition.proofs.digits_into.Given as goal

abbrev pub invariant-loop-k : goal.invariant-loop-k
invariant-loop-k l = l.out ≡ tab l.k (λ k. digit_of l.p (at l.a k) l.i) ++ drop l.k l.initial.out
