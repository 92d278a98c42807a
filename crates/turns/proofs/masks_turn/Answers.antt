-- `turns::masks_turn` meets its contract: a loop that sums.
-- Assumes nothing.
use mathlib.Core.Path.{ap, ◌∙◌}
use Prim.Native.Nat.{ℕ, ◌*◌, ◌%◌}
use native.Mathlib.Nat.{mod-mod}
use Rattle.ring.specs.Word.{Q, at}
use Rattle.ring.proofs.SumLaws.{sum_none, sum_step}
use Rattle.params.specs.Ranges.{InRange}
use Rattle.rotation.proofs.Amounts.{mask_value}
use Rattle.turns.proofs.masks_turn.Goals as goal

pub loop-i-init : goal.loop-i-init
loop-i-init c = sum_none _

pub loop-i-preserved : goal.loop-i-preserved
loop-i-preserved c =
    let l = c.loop-i in
    let g = c.args in
    let r : InRange g.p = rw c.p.view_is at c.p.invariant.0 in
    sum_step _ l.i _ l.invariant
    (ap (λ (t : ℕ). t % Q) c.mul.ensures ∙ mod-mod _ Q ∙ ap (λ (t : ℕ). at g.key.now l.i * t % Q) (mask_value g.p r (at g.src.now l.i) _ c.p.view_is c.mask_amount.ensures c.unwrap_or-amount.ensures))
    c.add-turned.ensures
