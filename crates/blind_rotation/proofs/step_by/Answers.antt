-- `blind_rotation::step_by` meets its contract: the callees refuse nothing; the turned pair less the pair, times the rows, is added to the pair.
-- Assumes nothing.
use Rattle.std.proofs.Common.{◌∙◌}
use Rattle.params.specs.Ranges.{InRange}
use Rattle.params.proofs.Ranges.{not_refused}
use Rattle.rotation.proofs.Rotate.{rotate_written}
use Rattle.blind_rotation.proofs.Steps.{pair, turned_less, step_made}
use Rattle.blind_rotation.proofs.step_by.Goals as goal

pub returns : goal.returns
returns c =
    let g = c.args in
    let r = c.requires in
    let i : InRange g.p = rw (← c.p.view_is) c.p.invariant.0 in
    let z = not_refused g.p i in
    let ra = rotate_written g.p g.a.now g.ta.now g.k.0 z r.accumulator.first r.scratch.first r.amount (rw c.p.view_is at c.poly_mul_with_x_k.ensures.written) in
    let rb = rotate_written g.p g.b.now g.tb.now g.k.0 z r.accumulator.second r.scratch.second r.amount (rw c.p.view_is at c.poly_mul_with_x_k-2.ensures.written) in
    let w = turned_less g.p g.k.0 g.a.now g.b.now ra rb (c.poly_mul_with_x_k.auto.out ∙ r.scratch.first) (c.poly_mul_with_x_k-2.auto.out ∙ r.scratch.second) c.subtract.ensures c.subtract-2.ensures in
    step_made g.p i g.rows.now g.k.0 (pair g.a.now g.b.now) _ r.bit r.accumulator.first r.accumulator.second w (rw c.p.view_is at c.external_product_add.ensures.first) (rw c.p.view_is at c.external_product_add.ensures.second)
