use Rattle.std.proofs.Common.{◌≡◌, ◌++◌, ◌*◌, length, drop}
use Rattle.ring.specs.Lists.{joined}
use Rattle.params.specs.Sizes.{size}
use Rattle.decomposition.specs.Pair.{pair_digit}
use Rattle.decomposition.proofs.decompose_into.Given as goal

abbrev pub invariant-loop-r : goal.invariant-loop-r
invariant-loop-r l =
    (length (joined l.r (pair_digit l.p (record { a = l.a; b = l.b }))) ≡ l.r * size l.p)
    × (l.out ≡ joined l.r (pair_digit l.p (record { a = l.a; b = l.b })) ++ drop (l.r * size l.p) l.initial.out)
