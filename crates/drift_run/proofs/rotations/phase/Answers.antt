-- `drift_run::rotations::phase` meets its contract: a binary key of the right length is not refused.
-- Assumes nothing.
use Rattle.std.proofs.Common.{ap}
use lib.ListN.{length}
use Rattle.params.proofs.Ranges.{not_refused}
use Rattle.utils.specs.declared.Torus.{Torus}
use Rattle.tlwe.specs.declared.Level.TheVariants.{Zero}
use Rattle.tlwe.proofs.Refusals.{keyed_done}
use Rattle.turns.proofs.Given.{is_given, value_is}
use Rattle.drift_run.proofs.rotations.phase.Goals as goal

pub unwrap-requires : goal.unwrap-requires
unwrap-requires c =
    let g = c.args in
    let z = not_refused g.p (rw c.p.view_is at c.p.invariant.0) in
    let k = keyed_done g.p Zero (length g.c.now) g.key.now z c.requires.1 c.requires.0.long c.requires.0.bits in
    is_given _ _ (rw c.p.view_is at c.phase_of.ensures) k

pub returns : goal.returns
returns c =
    let g = c.args in
    let z = not_refused g.p (rw c.p.view_is at c.p.invariant.0) in
    let k = keyed_done g.p Zero (length g.c.now) g.key.now z c.requires.1 c.requires.0.long c.requires.0.bits in
    ap (λ (t : Torus). t.0) (value_is _ _ (rw c.p.view_is at c.phase_of.ensures) k c.unwrap.ensures)
