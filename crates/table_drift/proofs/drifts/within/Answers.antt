-- `table_drift::drifts::within` meets its contract: the absolute value is held against the margin.
-- Assumes nothing.
use mathlib.Core.Path.{ap₂}
use Prim.Native.Nat.{ℕ}
use lib.Dec.{ltb}
use Rattle.table_drift.specs.Private.{within_word}
use Rattle.table_drift.proofs.drifts.within.Goals as goal

pub returns : goal.returns
unfolding within_word
returns c = ap₂ (λ (x y : ℕ). ltb x y) c.absolute.ensures c.margin.ensures
