-- Two outcomes that a contract of this crate allows coincide: of the contract itself, as `rattle` reads it from the code, for every public routine (01, 'What the contracts owe').
-- Assumes nothing.
use Rattle.ring.proofs.Outcomes.{Determined, said_written}
use Rattle.bootstrapping.proofs.encrypt_torus as encrypt_torus
use Rattle.bootstrapping.specs.contracts.encrypt_torus as encrypt_torus_c
use Rattle.bootstrapping.proofs.gen_bootstrapping_key as gen_bootstrapping_key
use Rattle.bootstrapping.specs.contracts.gen_bootstrapping_key as gen_bootstrapping_key_c

pub encrypt_torus_determined : Determined encrypt_torus_c.ended encrypt_torus.Reads.Learnt
encrypt_torus_determined κs a x y v w = said_written 5

pub gen_bootstrapping_key_determined : Determined gen_bootstrapping_key_c.ended gen_bootstrapping_key.Reads.Learnt
gen_bootstrapping_key_determined κs a x y v w = said_written 5
