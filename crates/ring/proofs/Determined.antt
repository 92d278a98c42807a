-- Two outcomes that a contract of this crate allows coincide: of the contract itself, as `rattle` reads it from the code, for every public routine (01, 'What the contracts owe').
-- Assumes nothing.
use Rattle.ring.proofs.Outcomes.{Determined, said}
use Rattle.ring.proofs.add as add
use Rattle.ring.specs.contracts.add as add_c
use Rattle.ring.proofs.sub as sub
use Rattle.ring.specs.contracts.sub as sub_c
use Rattle.ring.proofs.negated as negated
use Rattle.ring.specs.contracts.negated as negated_c
use Rattle.ring.proofs.complement as complement
use Rattle.ring.specs.contracts.complement as complement_c
use Rattle.ring.proofs.mul as mul
use Rattle.ring.specs.contracts.mul as mul_c
use Rattle.ring.proofs.power as power
use Rattle.ring.specs.contracts.power as power_c

pub add_determined : Determined add_c.ended add.Reads.Learnt
add_determined κs a x y v w = said

pub sub_determined : Determined sub_c.ended sub.Reads.Learnt
sub_determined κs a x y v w = said

pub negated_determined : Determined negated_c.ended negated.Reads.Learnt
negated_determined κs a x y v w = said

pub complement_determined : Determined complement_c.ended complement.Reads.Learnt
complement_determined κs a x y v w = said

pub mul_determined : Determined mul_c.ended mul.Reads.Learnt
mul_determined κs a x y v w = said

pub power_determined : Determined power_c.ended power.Reads.Learnt
power_determined κs a x y v w = said
