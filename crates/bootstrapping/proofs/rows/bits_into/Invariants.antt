use Rattle.std.proofs.Common.{◌≡◌, ◌++◌, ◌*◌, length, drop}
use Rattle.bootstrapping.specs.Rows.{key_bit}
use Rattle.ring.specs.Lists.{joined}
use Rattle.bootstrapping.proofs.rows.bits_into.Given as goal

abbrev pub invariant-loop-i : goal.invariant-loop-i
invariant-loop-i l =
    (length (joined l.i (key_bit l.p l.key_lv0 l.key_lv1 l.masks l.noise)) ≡ l.i * l.width)
    × (l.out ≡ joined l.i (key_bit l.p l.key_lv0 l.key_lv1 l.masks l.noise) ++ drop (l.i * l.width) l.initial.out)
