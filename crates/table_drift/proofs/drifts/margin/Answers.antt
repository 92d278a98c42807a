-- `table_drift::drifts::margin` meets its contract: a modulus that is taken is small, and no margin is more than an eighth of a turn.
-- Assumes nothing.
use mathlib.Core.Path.{refl}
use native.Mathlib.Omega.{arith}
use Rattle.ring.specs.Centre.{H}
use Rattle.tlwe.proofs.Messages.{modulus_bounds}
use Rattle.table_drift.proofs.drifts.margin.Goals as goal

pub overflow_mul-result : goal.overflow_mul-result
overflow_mul-result c = let b = modulus_bounds c.args.modulus c.requires in omega arith

pub nonzero_div-result : goal.nonzero_div-result
nonzero_div-result c = let b = modulus_bounds c.args.modulus c.requires in omega arith

pub returns : goal.returns
unfolding H
returns c = refl
