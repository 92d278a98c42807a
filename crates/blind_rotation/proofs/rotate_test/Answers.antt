-- `blind_rotation::rotate_test` meets its contract: the vector is the gates', worked out.
-- Assumes nothing.
use Rattle.std.proofs.Common.{ap, ◌∙◌}
use Rattle.params.specs.Ranges.{InRange}
use Rattle.blind_rotation.specs.Blind.{blind_rotated}
use Rattle.blind_rotation.proofs.Steps.{test_put}
use Rattle.blind_rotation.proofs.rotate_test.Goals as goal

pub returns : goal.returns
returns c =
    let g = c.args in
    let i : InRange g.p = rw (← c.p.view_is) c.p.invariant.0 in
    let e = test_put g.p i g.ta.now g.tb.now c.requires.scratch (rw c.p.view_is at c.gen_testvec.ensures.first) (rw c.p.view_is at c.gen_testvec.ensures.second) in
    c.rotate_from.ensures ∙ ap (blind_rotated g.p g.key.now g.src.now) e
