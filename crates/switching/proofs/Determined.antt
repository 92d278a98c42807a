-- Two outcomes that a contract of this crate allows coincide: of the contract itself, as `rattle` reads it from the code, for every public routine (01, 'What the contracts owe').
-- Assumes nothing.
use Rattle.ring.proofs.Outcomes.{Determined, said_written}
use Rattle.switching.proofs.identity_key_switching as identity_key_switching
use Rattle.switching.specs.contracts.identity_key_switching as identity_key_switching_c

pub identity_key_switching_determined : Determined identity_key_switching_c.ended identity_key_switching.Reads.Learnt
identity_key_switching_determined κs a x y v w = said_written 3
