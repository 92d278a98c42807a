-- `table_drift::drifts::phase` meets its contract: a binary key of the right length is not refused.
-- Assumes nothing.
use Rattle.std.proofs.Common.{ap}
use lib.ListN.{length}
use Rattle.params.proofs.Ranges.{not_refused}
use Rattle.utils.specs.declared.Torus.{Torus}
use Rattle.tlwe.specs.declared.Level.TheVariants.{Zero}
use Rattle.tlwe.proofs.Refusals.{keyed_done}
use Rattle.turns.proofs.Given.{is_given, value_is}
use Rattle.table_drift.proofs.drifts.phase.Goals as goal

pub unwrap-requires : goal.unwrap-requires
unwrap-requires c =
    let g = c.args in
    let h = c.requires in
    let z = not_refused g.p (rw c.p.view_is at c.p.invariant.0) in
    is_given _ _ (rw c.p.view_is at c.phase_of.ensures) (keyed_done g.p Zero (length g.c.now) g.key.now z h.1 h.0 h.2)

pub returns : goal.returns
returns c =
    let g = c.args in
    let h = c.requires in
    let z = not_refused g.p (rw c.p.view_is at c.p.invariant.0) in
    ap (λ (t : Torus). t.0) (value_is _ _ (rw c.p.view_is at c.phase_of.ensures) (keyed_done g.p Zero (length g.c.now) g.key.now z h.1 h.0 h.2) c.unwrap.ensures)
