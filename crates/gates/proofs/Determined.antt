-- Two outcomes that a contract of this crate allows coincide: of the contract itself, as `rattle` reads it from the code, for every public routine (01, 'What the contracts owe').
-- Assumes nothing.
use Rattle.ring.proofs.Outcomes.{Determined, said_written}
use Rattle.gates.proofs.gate as gate
use Rattle.gates.specs.contracts.gate as gate_c

pub gate_determined : Determined gate_c.ended gate.Reads.Learnt
gate_determined κs a x y v w = said_written 6
