-- Two outcomes that a contract of this crate allows coincide: of the contract itself, as `rattle` reads it from the code, for every public routine (01, 'What the contracts owe').
-- Assumes nothing.
use Rattle.ring.proofs.Outcomes.{Determined, said}
use Rattle.packing.proofs.numbers as numbers
use Rattle.packing.specs.contracts.numbers as numbers_c
use Rattle.packing.proofs.capped as capped
use Rattle.packing.specs.contracts.capped as capped_c
use Rattle.packing.proofs.bit_number as bit_number_call
use Rattle.packing.specs.contracts.bit_number as bit_number_c
use Rattle.packing.proofs.low_word as low_word
use Rattle.packing.specs.contracts.low_word as low_word_c
use Rattle.packing.proofs.pack as pack
use Rattle.packing.specs.contracts.pack as pack_c
use Rattle.packing.proofs.pack_value as pack_value
use Rattle.packing.specs.contracts.pack_value as pack_value_c

pub numbers_determined : Determined numbers_c.ended numbers.Reads.Learnt
numbers_determined κs a x y v w = said

pub capped_determined : Determined capped_c.ended capped.Reads.Learnt
capped_determined κs a x y v w = said

pub bit_number_determined : Determined bit_number_c.ended bit_number_call.Reads.Learnt
bit_number_determined κs a x y v w = said

pub low_word_determined : Determined low_word_c.ended low_word.Reads.Learnt
low_word_determined κs a x y v w = said

pub pack_determined : Determined pack_c.ended pack.Reads.Learnt
pack_determined κs a x y v w = said

pub pack_value_determined : Determined pack_value_c.ended pack_value.Reads.Learnt
pack_value_determined κs a x y v w = said
