-- Two outcomes that a contract of this crate allows coincide: of the contract itself, as `rattle` reads it from the code, for every public routine (01, 'What the contracts owe').
-- Assumes nothing.
use Rattle.ring.proofs.Outcomes.{Determined, said_written, said_written_twice}
use Rattle.trlwe.proofs.sample_extract_index as sample_extract_index
use Rattle.trlwe.specs.contracts.sample_extract_index as sample_extract_index_c
use Rattle.trlwe.proofs.encrypt_f64 as encrypt_f64
use Rattle.trlwe.specs.contracts.encrypt_f64 as encrypt_f64_c
use Rattle.trlwe.proofs.encrypt_bool as encrypt_bool
use Rattle.trlwe.specs.contracts.encrypt_bool as encrypt_bool_c
use Rattle.trlwe.proofs.decrypt_bool as decrypt_bool
use Rattle.trlwe.specs.contracts.decrypt_bool as decrypt_bool_c

pub sample_extract_index_determined : Determined sample_extract_index_c.ended sample_extract_index.Reads.Learnt
sample_extract_index_determined κs a x y v w = said_written 4

pub encrypt_f64_determined : Determined encrypt_f64_c.ended encrypt_f64.Reads.Learnt
encrypt_f64_determined κs a x y v w = said_written_twice 5

pub encrypt_bool_determined : Determined encrypt_bool_c.ended encrypt_bool.Reads.Learnt
encrypt_bool_determined κs a x y v w = said_written_twice 5

pub decrypt_bool_determined : Determined decrypt_bool_c.ended decrypt_bool.Reads.Learnt
decrypt_bool_determined κs a x y v w = said_written 4
