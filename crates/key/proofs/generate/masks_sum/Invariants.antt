use Rattle.std.proofs.Common.{◌≡◌, ◌*◌, ◌%◌}
use Rattle.ring.specs.Word.{Q, at}
use Rattle.ring.specs.Sums.{sum_to}
use Rattle.key.proofs.generate.masks_sum.Given as goal

abbrev pub invariant-loop-i : goal.invariant-loop-i
invariant-loop-i l = l.sum ≡ sum_to l.i (λ j. at l.masks j * at l.key j) % Q
