use Rattle.std.proofs.Common.{◌≡◌, ◌*◌, ◌%◌}
use Rattle.ring.specs.Word.{Q, at}
use Rattle.ring.specs.Sums.{sum_to}
use Rattle.rotation.specs.Amount.{mask_amount}
use Rattle.turns.proofs.masks_turn.Given as goal

abbrev pub invariant-loop-i : goal.invariant-loop-i
invariant-loop-i l = l.turned ≡ sum_to l.i (λ j. at l.key j * mask_amount l.fn.p (at l.src j)) % Q
