-- `params::checks::check` meets its contract: it goes by the test.
-- Assumes nothing.
use mathlib.Core.Path.{◌∙◌, sym}
use Rattle.params.proofs.Ranges.{in_range, number_fits, number_unfit}
use Rattle.params.proofs.checks.check.Goals as goal

pub returns-then-not-fits : goal.returns-then-not-fits
returns-then-not-fits c = rw (number_unfit c.args.p (sym c.fits.ensures ∙ c.if-not-fits.true))

pub sizes_in-requires : goal.sizes_in-requires
sizes_in-requires c = in_range _ (number_fits _ (sym c.fits.ensures ∙ c.if-not-fits.false))

pub invariant_of-result : goal.invariant_of-result
invariant_of-result c = (in_range _ (number_fits _ (sym c.fits.ensures ∙ c.if-not-fits.false)), c.sizes_in.ensures)

pub returns : goal.returns
returns c = rw (number_fits c.args.p (sym c.fits.ensures ∙ c.if-not-fits.false))
