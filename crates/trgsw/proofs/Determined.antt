-- Two outcomes that a contract of this crate allows coincide: of the contract itself, as `rattle` reads it from the code, for every public routine (01, 'What the contracts owe').
-- Assumes nothing.
use Rattle.ring.proofs.Outcomes.{Determined, said_written_twice}
use Rattle.trgsw.proofs.external_product as external_product
use Rattle.trgsw.specs.contracts.external_product as external_product_c
use Rattle.trgsw.proofs.external_product_add as external_product_add
use Rattle.trgsw.specs.contracts.external_product_add as external_product_add_c
use Rattle.trgsw.proofs.cmux as cmux
use Rattle.trgsw.specs.contracts.cmux as cmux_c

pub external_product_determined : Determined external_product_c.ended external_product.Reads.Learnt
external_product_determined κs a x y v w = said_written_twice 4

pub external_product_add_determined : Determined external_product_add_c.ended external_product_add.Reads.Learnt
external_product_add_determined κs a x y v w = said_written_twice 4

pub cmux_determined : Determined cmux_c.ended cmux.Reads.Learnt
cmux_determined κs a x y v w = said_written_twice 6
