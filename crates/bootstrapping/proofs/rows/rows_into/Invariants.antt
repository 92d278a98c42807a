use Rattle.std.proofs.Common.{◌≡◌, ◌++◌, ◌+◌, ◌*◌, length, drop}
use Rattle.bootstrapping.specs.Rows.{torus_row}
use Rattle.ring.specs.Lists.{joined}
use Rattle.bootstrapping.proofs.rows.rows_into.Given as goal

abbrev pub invariant-loop-r : goal.invariant-loop-r
invariant-loop-r l =
    (length (joined l.r (torus_row l.p l.m l.key l.masks l.noise)) ≡ l.r * (length l.key + length l.key))
    × (l.out ≡ joined l.r (torus_row l.p l.m l.key l.masks l.noise) ++ drop (l.r * (length l.key + length l.key)) l.initial.out)
