-- `tables::fits` meets its contract: a modulus that is taken is small, so twice it is a number of 64 bits and not 0.
-- Assumes nothing.
use mathlib.Core.Path.{sym, ◌∙◌}
use native.Mathlib.Omega.{arith}
use Rattle.tlwe.proofs.Messages.{modulus_bounds}
use Rattle.tables.proofs.Entries.{not_modulus, taken_modulus, modulus_ok, modulus_err}
use Rattle.tables.proofs.fits.Goals as goal

pub overflow_mul-result : goal.overflow_mul-result
overflow_mul-result c = let b = modulus_bounds _ (modulus_ok _ c.modulus_number.ensures (sym c.is_ok.ensures.value ∙ c.if-is_ok.true)) in omega arith

pub nonzero_rem-result : goal.nonzero_rem-result
nonzero_rem-result c = let b = modulus_bounds _ (modulus_ok _ c.modulus_number.ensures (sym c.is_ok.ensures.value ∙ c.if-is_ok.true)) in omega arith

pub returns-then-is_ok : goal.returns-then-is_ok
returns-then-is_ok c = taken_modulus _ _ (modulus_ok _ c.modulus_number.ensures (sym c.is_ok.ensures.value ∙ c.if-is_ok.true))

pub returns-else-is_ok : goal.returns-else-is_ok
returns-else-is_ok c = c.if-is_ok.false ∙ not_modulus _ _ (modulus_err _ c.modulus_number.ensures (sym c.is_ok.ensures.value ∙ c.if-is_ok.false))
