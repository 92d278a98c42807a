-- `ring::mul` meets its contract: a product of two words fits 64 bits.
-- Assumes nothing.
use Rattle.std.proofs.Common.{refl}
use Rattle.ring.specs.Word.{Q}
use Rattle.ring.proofs.mul.Goals as goal

pub returns : goal.returns
unfolding Q
returns c = refl
