-- Two outcomes that a contract of this crate allows coincide: of the contract itself, as `rattle` reads it from the code, for every public routine (01, 'What the contracts owe').
-- Assumes nothing.
use Rattle.ring.proofs.Outcomes.{Determined, said, said_written}
use Rattle.tlwe.proofs.decryption.decrypt_bit as decrypt_bit
use Rattle.tlwe.specs.contracts.decryption.decrypt_bit as decrypt_bit_c
use Rattle.tlwe.proofs.decryption.decrypt_message as decrypt_message
use Rattle.tlwe.specs.contracts.decryption.decrypt_message as decrypt_message_c
use Rattle.tlwe.proofs.encryption.encrypt as encrypt
use Rattle.tlwe.specs.contracts.encryption.encrypt as encrypt_c
use Rattle.tlwe.proofs.keys.is_binary as is_binary
use Rattle.tlwe.specs.contracts.keys.is_binary as is_binary_c
use Rattle.tlwe.proofs.keys.key_number as key_number_call
use Rattle.tlwe.specs.contracts.keys.key_number as key_number_c
use Rattle.tlwe.proofs.keys.phase_of as phase_of_call
use Rattle.tlwe.specs.contracts.keys.phase_of as phase_of_c
use Rattle.tlwe.proofs.linear.combine as combine
use Rattle.tlwe.specs.contracts.linear.combine as combine_c
use Rattle.tlwe.proofs.linear.add as add
use Rattle.tlwe.specs.contracts.linear.add as add_c
use Rattle.tlwe.proofs.linear.sub as sub
use Rattle.tlwe.specs.contracts.linear.sub as sub_c
use Rattle.tlwe.proofs.linear.neg as neg
use Rattle.tlwe.specs.contracts.linear.neg as neg_c
use Rattle.tlwe.proofs.linear.add_mul as add_mul
use Rattle.tlwe.specs.contracts.linear.add_mul as add_mul_c
use Rattle.tlwe.proofs.linear.sub_mul as sub_mul
use Rattle.tlwe.specs.contracts.linear.sub_mul as sub_mul_c
use Rattle.tlwe.proofs.plaintexts.modulus_number as modulus_number_call
use Rattle.tlwe.specs.contracts.plaintexts.modulus_number as modulus_number_c

pub decrypt_bit_determined : Determined decrypt_bit_c.ended decrypt_bit.Reads.Learnt
decrypt_bit_determined κs a x y v w = said

pub decrypt_message_determined : Determined decrypt_message_c.ended decrypt_message.Reads.Learnt
decrypt_message_determined κs a x y v w = said

pub encrypt_determined : Determined encrypt_c.ended encrypt.Reads.Learnt
encrypt_determined κs a x y v w = said_written 6

pub is_binary_determined : Determined is_binary_c.ended is_binary.Reads.Learnt
is_binary_determined κs a x y v w = said

pub key_number_determined : Determined key_number_c.ended key_number_call.Reads.Learnt
key_number_determined κs a x y v w = said

pub phase_of_determined : Determined phase_of_c.ended phase_of_call.Reads.Learnt
phase_of_determined κs a x y v w = said

pub combine_determined : Determined combine_c.ended combine.Reads.Learnt
combine_determined κs a x y v w = said_written 6

pub add_determined : Determined add_c.ended add.Reads.Learnt
add_determined κs a x y v w = said_written 4

pub sub_determined : Determined sub_c.ended sub.Reads.Learnt
sub_determined κs a x y v w = said_written 4

pub neg_determined : Determined neg_c.ended neg.Reads.Learnt
neg_determined κs a x y v w = said_written 3

pub add_mul_determined : Determined add_mul_c.ended add_mul.Reads.Learnt
add_mul_determined κs a x y v w = said_written 5

pub sub_mul_determined : Determined sub_mul_c.ended sub_mul.Reads.Learnt
sub_mul_determined κs a x y v w = said_written 5

pub modulus_number_determined : Determined modulus_number_c.ended modulus_number_call.Reads.Learnt
modulus_number_determined κs a x y v w = said
