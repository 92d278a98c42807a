-- Two outcomes that a contract of this crate allows coincide: of the contract itself, as `rattle` reads it from the code, for every public routine (01, 'What the contracts owe').
-- Assumes nothing.
use Rattle.ring.proofs.Outcomes.{Determined, said_written_twice}
use Rattle.blind_rotation.proofs.blind_rotate_step as blind_rotate_step
use Rattle.blind_rotation.specs.contracts.blind_rotate_step as blind_rotate_step_c
use Rattle.blind_rotation.proofs.blind_rotate as blind_rotate
use Rattle.blind_rotation.specs.contracts.blind_rotate as blind_rotate_c
use Rattle.blind_rotation.proofs.vector.blind_rotate_with_testvec as blind_rotate_with_testvec
use Rattle.blind_rotation.specs.contracts.vector.blind_rotate_with_testvec as blind_rotate_with_testvec_c

pub blind_rotate_step_determined : Determined blind_rotate_step_c.ended blind_rotate_step.Reads.Learnt
blind_rotate_step_determined κs a x y v w = said_written_twice 4

pub blind_rotate_determined : Determined blind_rotate_c.ended blind_rotate.Reads.Learnt
blind_rotate_determined κs a x y v w = said_written_twice 3

pub blind_rotate_with_testvec_determined : Determined blind_rotate_with_testvec_c.ended blind_rotate_with_testvec.Reads.Learnt
blind_rotate_with_testvec_determined κs a x y v w = said_written_twice 5
