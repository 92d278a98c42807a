use Rattle.std.proofs.Common.{◌≡◌, ◌+◌, length}
use Rattle.params.specs.Sizes.{size}
use Rattle.ring.specs.Word.{at}
use Rattle.ring.specs.Poly.{minus, total}
use Rattle.ring.specs.Phase.{trivial}
use Rattle.switching.specs.Switched.{mask_rows}
use Rattle.switching.proofs.switch_into.Given as goal

abbrev pub invariant-loop-i : goal.invariant-loop-i
invariant-loop-i l = (length l.out ≡ l.p.n + 1) × (l.out ≡ minus (l.p.n + 1) (trivial l.p.n (at l.src (size l.p))) (total (l.p.n + 1) l.i (mask_rows l.p l.ksk l.src)))
