use Rattle.std.proofs.Common.{◌≡◌, ◌++◌, ◌+◌, ◌*◌, length, drop}
use Rattle.key.specs.Generation.{generated_row}
use Rattle.ring.specs.Lists.{joined}
use Rattle.key.proofs.generate.generate.Given as goal

abbrev pub invariant-loop-r : goal.invariant-loop-r
invariant-loop-r l =
    (length (joined l.r (generated_row l.p l.key_lv0 l.key_lv1 l.masks l.noise)) ≡ l.r * (l.p.n + 1))
    × (l.out ≡ joined l.r (generated_row l.p l.key_lv0 l.key_lv1 l.masks l.noise) ++ drop (l.r * (l.p.n + 1)) l.initial.out)
