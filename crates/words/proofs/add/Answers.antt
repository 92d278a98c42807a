-- `words::add` meets its contract: what `combine` leaves is the sum.
-- Assumes nothing.
use Rattle.ring.specs.Word.{Q}
use Rattle.words.proofs.Loops.{added}
use Rattle.words.proofs.add.Goals as goal

pub returns : goal.returns
unfolding Q
returns c = added _ _ c.combine.ensures.len (λ k. (c.type_inv.out k).fits) c.combine.ensures.rest c.combine.ensures.both
