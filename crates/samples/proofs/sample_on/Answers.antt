-- `samples::sample_on` meets its contract: the sum, its rotation and the extraction, one after the other.
-- Assumes nothing.
use Rattle.std.proofs.Common.{◌∙◌}
use Rattle.params.specs.Ranges.{InRange}
use Rattle.params.proofs.Ranges.{not_refused}
use Rattle.gate_sums.proofs.Uses.{sum_written}
use Rattle.samples.proofs.Chain.{sample_made}
use Rattle.samples.proofs.sample_on.Goals as goal

pub returns : goal.returns
returns c =
    let g = c.args in
    let r = c.requires in
    let i : InRange g.p = rw (← c.p.view_is) c.p.invariant.0 in
    let z = not_refused g.p i in
    sample_made g.p z g.bsk.now r.rows g.kind g.a.now g.b.now g.ra.now g.rb.now g.out.now r.scratch.1 r.scratch.2 r.into
    ((rw c.p.view_is at c.sum.ensures.written) ∙ sum_written g.p z g.kind g.a.now g.b.now g.sum.now r.first r.second r.scratch.0)
    (rw c.p.view_is at c.blind_rotate.ensures.first) (rw c.p.view_is at c.blind_rotate.ensures.second) (rw c.p.view_is at c.sample_extract_index.ensures.written)
