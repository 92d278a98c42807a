-- `blind_rotation::all_steps` meets its contract: each turn is one more step.
-- Assumes nothing.
use Rattle.std.proofs.Common.{refl, ◌∙◌}
use Rattle.blind_rotation.specs.Blind.{steps_to}
use Rattle.blind_rotation.proofs.Steps.{pair, steps_more}
use Rattle.blind_rotation.proofs.all_steps.Goals as goal

pub loop-i-init : goal.loop-i-init
unfolding steps_to
loop-i-init c = record { scratch = c.requires.scratch; accumulator = c.requires.accumulator; made = refl }

pub loop-i-preserved : goal.loop-i-preserved
loop-i-preserved c =
    let g = c.args in
    let l = c.loop-i in
    let v = l.invariant in
    let t = c.step_at.auto in
    record {
      scratch = record { first = t.ta ∙ v.scratch.first; second = t.tb ∙ v.scratch.second };
      accumulator = record { first = t.a ∙ v.accumulator.first; second = t.b ∙ v.accumulator.second };
      made = steps_more g.p g.key.now g.src.now (pair g.a.now g.b.now) l.i v.made c.step_at.ensures;
    }
