-- Two outcomes that a contract of this crate allows coincide.
-- Assumes nothing.
use Rattle.ring.proofs.Outcomes.{Determined, said}
use Rattle.drift_size.proofs.absolute as absolute
use Rattle.drift_size.specs.contracts.absolute as absolute_c
use Rattle.drift_size.proofs.is_inside as is_inside
use Rattle.drift_size.specs.contracts.is_inside as is_inside_c
use Rattle.drift_size.proofs.worse as worse
use Rattle.drift_size.specs.contracts.worse as worse_c

pub absolute_determined : Determined absolute_c.ended absolute.Reads.Learnt
absolute_determined κs a x y v w = said

pub is_inside_determined : Determined is_inside_c.ended is_inside.Reads.Learnt
is_inside_determined κs a x y v w = said

pub worse_determined : Determined worse_c.ended worse.Reads.Learnt
worse_determined κs a x y v w = said
