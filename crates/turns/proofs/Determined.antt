-- Two outcomes that a contract of this crate allows coincide: of the contract itself, as `rattle` reads it from the code, for every public routine (01, 'What the contracts owe').
-- Assumes nothing.
use Rattle.ring.proofs.Outcomes.{Determined, said}
use Rattle.turns.proofs.front as front
use Rattle.turns.specs.contracts.front as front_c

pub front_determined : Determined front_c.ended front.Reads.Learnt
front_determined κs a x y v w = said
