use Rattle.std.proofs.Common.{◌≡◌, ◌%◌, leb, take}
use Rattle.ring.specs.Word.{Q}
use Rattle.ring.specs.Phase.{inner}
use Rattle.tlwe.specs.Key.{binary}
use Rattle.tlwe.proofs.keys.inner.Given as goal

abbrev pub invariant-loop-i : goal.invariant-loop-i
invariant-loop-i l = (l.sum ≡ inner l.i l.key l.a % Q) × (leb l.seen 1 ≡ binary (take l.i l.key))
