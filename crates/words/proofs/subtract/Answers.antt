-- `words::subtract` meets its contract: what `combine` leaves is the difference.
-- Assumes nothing.
use Rattle.ring.specs.Word.{Q}
use Rattle.words.proofs.Loops.{subtracted}
use Rattle.words.proofs.subtract.Goals as goal

pub returns : goal.returns
unfolding Q
returns c = subtracted _ _ c.combine.ensures.len (λ k. (c.type_inv.out k).fits) c.combine.ensures.rest c.combine.ensures.both
