-- Two outcomes that a contract of this crate allows coincide: of the contract itself, as `rattle` reads it from the code, for every public routine (01, 'What the contracts owe').
-- Assumes nothing.
use Rattle.ring.proofs.Outcomes.{Determined, said_written}
use Rattle.bristol_export.proofs.export as export
use Rattle.bristol_export.specs.contracts.export as export_c

pub export_determined : Determined export_c.ended export.Reads.Learnt
export_determined κs a x y v w = said_written 1
