-- `egl_c::table_c::egl_lookup_drift` meets its contract: both are told inside only where the call did its work.
-- Assumes nothing.
use Rattle.std.proofs.Common.{◌∙◌}
use Rattle.packing.proofs.Crossing.{told_true}
use Rattle.table_drift.specs.Refusals.{told_inside}
use Rattle.egl_c.proofs.table_c.egl_lookup_drift.Goals as goal

pub returns-clause-right : goal.returns-clause-right
unfolding told_inside
returns-clause-right c = λ e. (rw c.numbers.ensures at c.lookup_drift.ensures.right) ((rw c.numbers.ensures at c.lookup_drift.ensures.said) ∙ told_true _ _ e)
