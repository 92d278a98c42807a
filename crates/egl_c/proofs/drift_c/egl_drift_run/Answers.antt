-- `egl_c::drift_c::egl_drift_run` meets its contract: all is told inside only where the call did its work.
-- Assumes nothing.
use Rattle.std.proofs.Common.{◌∙◌}
use Rattle.packing.proofs.Crossing.{told_true}
use Rattle.drift_run.specs.Run.{inside_after}
use Rattle.egl_c.proofs.drift_c.egl_drift_run.Goals as goal

pub returns-clause-right : goal.returns-clause-right
unfolding inside_after
returns-clause-right c = λ e. (rw c.numbers.ensures at c.drift_run.ensures.right) ((rw c.numbers.ensures at c.drift_run.ensures.said) ∙ told_true _ _ e)
