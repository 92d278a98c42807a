-- Two outcomes that a contract of this crate allows coincide: of the contract itself, as `rattle` reads it from the code, for every public routine (01, 'What the contracts owe').
-- Assumes nothing.
use Rattle.ring.proofs.Outcomes.{Determined, said_written}
use Rattle.bristol.proofs.whole.import as import
use Rattle.bristol.specs.contracts.whole.import as import_c

pub import_determined : Determined import_c.ended import.Reads.Learnt
import_determined κs a x y v w = said_written 1
