-- `ring::complement` meets its contract: a word is its own remainder.
-- Assumes nothing.
use Rattle.std.proofs.Common.{arith}
use Rattle.ring.specs.Word.{Q, comp}
use Rattle.ring.proofs.complement.Goals as goal

pub returns : goal.returns
unfolding Q comp
returns c = omega arith
