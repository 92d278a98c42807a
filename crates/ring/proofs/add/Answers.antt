-- `ring::add` meets its contract: it is what std ensures, Q being 2^32.
-- Assumes nothing.
use Rattle.std.proofs.Common.{arith}
use Rattle.ring.specs.Word.{Q}
use Rattle.ring.proofs.add.Goals as goal

pub returns : goal.returns
unfolding Q
returns c = omega arith
