-- Two outcomes that a contract of this crate allows coincide: of the contract itself, as `rattle` reads it from the code, for every public routine (01, 'What the contracts owe').
-- Assumes nothing.
use Rattle.ring.proofs.Outcomes.{Determined, said_written}
use Rattle.columns.proofs.gate_column as gate_column
use Rattle.columns.specs.contracts.gate_column as gate_column_c

pub gate_column_determined : Determined gate_column_c.ended gate_column.Reads.Learnt
gate_column_determined κs a x y v w = said_written 6
