-- Two outcomes that a contract of this crate allows coincide: of the contract itself, as `rattle` reads it from the code, for every public routine (01, 'What the contracts owe').
-- Assumes nothing.
use Rattle.ring.proofs.Outcomes.{Determined, said_written}
use Rattle.report.proofs.describe as describe
use Rattle.report.specs.contracts.describe as describe_c
use Rattle.report.proofs.refused as refused
use Rattle.report.specs.contracts.refused as refused_c

pub describe_determined : Determined describe_c.ended describe.Reads.Learnt
describe_determined κs a x y v w = said_written 1

pub refused_determined : Determined refused_c.ended refused.Reads.Learnt
refused_determined κs a x y v w = said_written 2
