-- `ring::negated` meets its contract: the difference from 0.
-- Assumes nothing.
use Rattle.std.proofs.Common.{arith}
use Rattle.ring.specs.Word.{Q, neg}
use Rattle.ring.proofs.negated.Goals as goal

pub returns : goal.returns
unfolding Q neg
returns c = omega arith
