-- `ring::sub` meets its contract: std says what the difference adds up to.
-- Assumes nothing.
use Rattle.std.proofs.Common.{arith}
use Rattle.ring.specs.Word.{Q, neg}
use Rattle.ring.proofs.sub.Goals as goal

pub returns : goal.returns
unfolding Q neg
returns c = omega arith
