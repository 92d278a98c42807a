-- Two outcomes that a contract of this crate allows coincide: of the contract itself, as `rattle` reads it from the code, for every public routine (01, 'What the contracts owe').
-- Assumes nothing.
use Rattle.ring.proofs.Outcomes.{Determined, said, said_written, said_written_twice}
use Rattle.tables.proofs.fits as fits
use Rattle.tables.specs.contracts.fits as fits_c
use Rattle.tables.proofs.table_testvec as table_testvec
use Rattle.tables.specs.contracts.table_testvec as table_testvec_c
use Rattle.tables.proofs.lookup as lookup
use Rattle.tables.specs.contracts.lookup as lookup_c

pub fits_determined : Determined fits_c.ended fits.Reads.Learnt
fits_determined κs a x y v w = said

pub table_testvec_determined : Determined table_testvec_c.ended table_testvec.Reads.Learnt
table_testvec_determined κs a x y v w = said_written_twice 3

pub lookup_determined : Determined lookup_c.ended lookup.Reads.Learnt
lookup_determined κs a x y v w = said_written 6
