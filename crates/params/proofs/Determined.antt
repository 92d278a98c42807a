-- Two outcomes that a contract of this crate allows coincide: of the contract itself, as `rattle` reads it from the code, for every public routine (01, 'What the contracts owe').
-- Assumes nothing.
use Rattle.ring.proofs.Outcomes.{Determined, said}
use Rattle.params.proofs.checks.check as check
use Rattle.params.specs.contracts.checks.check as check_c
use Rattle.params.proofs.refusal.Refusal.number as refusal_number
use Rattle.params.specs.contracts.refusal.Refusal.number as refusal_number_c
use Rattle.params.proofs.refusal.Refusal.place as refusal_place
use Rattle.params.specs.contracts.refusal.Refusal.place as refusal_place_c
use Rattle.params.proofs.refusal.Refusal.unless as refusal_unless
use Rattle.params.specs.contracts.refusal.Refusal.unless as refusal_unless_c
use Rattle.params.proofs.published.security_80_bit as security_80_bit
use Rattle.params.specs.contracts.published.security_80_bit as security_80_bit_c
use Rattle.params.proofs.published.security_110_bit as security_110_bit
use Rattle.params.specs.contracts.published.security_110_bit as security_110_bit_c
use Rattle.params.proofs.published.security_128_bit as security_128_bit
use Rattle.params.specs.contracts.published.security_128_bit as security_128_bit_c
use Rattle.params.proofs.published.uint1 as uint1
use Rattle.params.specs.contracts.published.uint1 as uint1_c
use Rattle.params.proofs.published.uint2 as uint2
use Rattle.params.specs.contracts.published.uint2 as uint2_c
use Rattle.params.proofs.published.uint3 as uint3
use Rattle.params.specs.contracts.published.uint3 as uint3_c
use Rattle.params.proofs.published.uint4 as uint4
use Rattle.params.specs.contracts.published.uint4 as uint4_c
use Rattle.params.proofs.published.uint5 as uint5
use Rattle.params.specs.contracts.published.uint5 as uint5_c
use Rattle.params.proofs.published.uint6 as uint6
use Rattle.params.specs.contracts.published.uint6 as uint6_c
use Rattle.params.proofs.published.uint7 as uint7
use Rattle.params.specs.contracts.published.uint7 as uint7_c
use Rattle.params.proofs.published.uint8 as uint8
use Rattle.params.specs.contracts.published.uint8 as uint8_c

pub check_determined : Determined check_c.ended check.Reads.Learnt
check_determined κs a x y v w = said

pub refusal_number_determined : Determined refusal_number_c.ended refusal_number.Reads.Learnt
refusal_number_determined κs a x y v w = said

pub refusal_place_determined : Determined refusal_place_c.ended refusal_place.Reads.Learnt
refusal_place_determined κs a x y v w = said

pub refusal_unless_determined : Determined refusal_unless_c.ended refusal_unless.Reads.Learnt
refusal_unless_determined κs a x y v w = said

pub security_80_bit_determined : Determined security_80_bit_c.ended security_80_bit.Reads.Learnt
security_80_bit_determined κs a x y v w = said

pub security_110_bit_determined : Determined security_110_bit_c.ended security_110_bit.Reads.Learnt
security_110_bit_determined κs a x y v w = said

pub security_128_bit_determined : Determined security_128_bit_c.ended security_128_bit.Reads.Learnt
security_128_bit_determined κs a x y v w = said

pub uint1_determined : Determined uint1_c.ended uint1.Reads.Learnt
uint1_determined κs a x y v w = said

pub uint2_determined : Determined uint2_c.ended uint2.Reads.Learnt
uint2_determined κs a x y v w = said

pub uint3_determined : Determined uint3_c.ended uint3.Reads.Learnt
uint3_determined κs a x y v w = said

pub uint4_determined : Determined uint4_c.ended uint4.Reads.Learnt
uint4_determined κs a x y v w = said

pub uint5_determined : Determined uint5_c.ended uint5.Reads.Learnt
uint5_determined κs a x y v w = said

pub uint6_determined : Determined uint6_c.ended uint6.Reads.Learnt
uint6_determined κs a x y v w = said

pub uint7_determined : Determined uint7_c.ended uint7.Reads.Learnt
uint7_determined κs a x y v w = said

pub uint8_determined : Determined uint8_c.ended uint8.Reads.Learnt
uint8_determined κs a x y v w = said
