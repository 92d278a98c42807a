-- `switching::start` meets its contract: zeros, and b stored in the last place.
-- Assumes nothing.
use Rattle.std.proofs.Common.{ap, ◌∙◌, List, ℕ, slice_set}
use Rattle.ring.specs.Sums.{tab}
use Rattle.ring.proofs.Samples.{trivial_stored}
use Rattle.switching.proofs.start.Goals as goal

pub returns : goal.returns
returns c = rw c.p.view_is (ap (λ (l : List ℕ). slice_set l c.args.p.n c.args.b) (c.fill.ensures ∙ ap (λ (m : ℕ). tab m (λ i. 0)) c.requires) ∙ trivial_stored c.args.p.n c.args.b)
