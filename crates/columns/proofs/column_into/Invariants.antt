use mathlib.Core.Path.{◌≡◌}
use mathlib.Core.List.{◌++◌}
use Prim.Native.Nat.{◌*◌}
use lib.ListN.{length, drop}
use Rattle.ring.specs.Lists.{joined}
use Rattle.columns.specs.Column.{pair_result}
use Rattle.columns.proofs.column_into.Given as goal

abbrev pub invariant-loop-i : goal.invariant-loop-i
invariant-loop-i l =
    (length (joined l.i (λ r. pair_result l.p l.ksk l.bsk l.kind l.pairs r)) ≡ l.i * l.words)
    × (l.out ≡ joined l.i (λ r. pair_result l.p l.ksk l.bsk l.kind l.pairs r) ++ drop (l.i * l.words) l.initial.out)
