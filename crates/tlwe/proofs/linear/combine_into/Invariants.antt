use Rattle.std.proofs.Common.{ℕ, ◌≡◌, ◌<◌, ◌+◌, ◌*◌, ◌%◌}
use Rattle.ring.specs.Word.{Q, at}
use Rattle.tlwe.proofs.linear.combine_into.Given as goal

abbrev pub invariant-loop-i : goal.invariant-loop-i
invariant-loop-i l = (k : ℕ) → k < l.i → at l.out k ≡ (l.x * at l.a k + l.y * at l.b k) % Q
