-- Two outcomes that a contract of this crate allows coincide: of the contract itself, as `rattle` reads it from the code, for every public routine (01, 'What the contracts owe').
-- Assumes nothing.
use Rattle.ring.proofs.Outcomes.{coincide, Determined, said, said_written, said_written_twice}
use Rattle.encrypted_run.proofs.around as around
use Rattle.encrypted_run.specs.contracts.around as around_c
use Rattle.encrypted_run.proofs.lengths_of as lengths_of_call
use Rattle.encrypted_run.specs.contracts.lengths_of as lengths_of_c
use Rattle.encrypted_run.proofs.run_gate as run_gate
use Rattle.encrypted_run.specs.contracts.run_gate as run_gate_c
use Rattle.encrypted_run.proofs.run_encrypted as run_encrypted
use Rattle.encrypted_run.specs.contracts.run_encrypted as run_encrypted_c

pub around_determined : Determined around_c.ended around.Reads.Learnt
around_determined κs a x y v w p q =
    let number = coincide p.0 q.0 in
    let place = coincide p.1 q.1 in
    (λ i. (number i, place i), λ i. v)

pub lengths_of_determined : Determined lengths_of_c.ended lengths_of_call.Reads.Learnt
lengths_of_determined κs a x y v w = said

pub run_gate_determined : Determined run_gate_c.ended run_gate.Reads.Learnt
run_gate_determined κs a x y v w = said_written 5

pub run_encrypted_determined : Determined run_encrypted_c.ended run_encrypted.Reads.Learnt
run_encrypted_determined κs a x y v w = said_written_twice 5
