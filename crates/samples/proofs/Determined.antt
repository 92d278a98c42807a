-- Two outcomes that a contract of this crate allows coincide: of the contract itself, as `rattle` reads it from the code, for every public routine (01, 'What the contracts owe').
-- Assumes nothing.
use Rattle.ring.proofs.Outcomes.{Determined, said_written}
use Rattle.samples.proofs.sample as sample
use Rattle.samples.specs.contracts.sample as sample_c

pub sample_determined : Determined sample_c.ended sample.Reads.Learnt
sample_determined κs a x y v w = said_written 5
