-- `rotation::body_amount_in` meets its contract: the steps are at most 2N.
-- Assumes nothing.
use Rattle.std.proofs.Common.{◌<◌, ◌∙◌}
use borrow.Author.Rules.{rules}
use Rattle.ring.specs.Word.{Q}
use Rattle.rotation.proofs.Amounts.{half_power, step_power, turn_power, body_steps_to}
use Rattle.rotation.proofs.body_amount_in.Goals as goal

pub overflow_sub-k : goal.overflow_sub-k
unfolding Q
overflow_sub-k c =
    let p = c.p.inside.params in
    let r = c.p.invariant.0 in
    let b : c.args.b.0 < Q = search rules in
    rw (c.body_sum.ensures, c.power-half.ensures ∙ half_power p r, c.power-step.ensures ∙ step_power p r, c.power-turn.ensures ∙ turn_power p r) (body_steps_to p r c.args.b.0 b)
