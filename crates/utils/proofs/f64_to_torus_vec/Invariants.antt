use Rattle.std.proofs.Common.{◌≡◌, ◌++◌, drop}
use Rattle.ring.specs.Sums.{tab}
use Rattle.utils.specs.Torus.{word, double_at}
use Rattle.utils.proofs.f64_to_torus_vec.Given as goal

abbrev pub invariant-loop-i : goal.invariant-loop-i
invariant-loop-i l = l.out ≡ tab l.i (λ j. word (double_at l.d j)) ++ drop l.i l.initial.out
