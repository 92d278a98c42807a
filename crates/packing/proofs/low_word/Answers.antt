-- `packing::low_word` meets its contract: Q is 2^32.
-- Assumes nothing.
use mathlib.Core.Path.{refl}
use Rattle.ring.specs.Word.{Q}
use Rattle.packing.proofs.low_word.Goals as goal

pub returns : goal.returns
unfolding Q
returns c = refl
