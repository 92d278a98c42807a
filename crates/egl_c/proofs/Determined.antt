-- Two outcomes that a contract of this crate allows coincide: of the contract itself, as `rattle` reads it from the code, for every export (01, 'What the contracts owe'): here those on single ciphertexts, pairs and keys; DeterminedRuns.antt has the rotation, the gates and the circuits.
-- Assumes nothing.
use mathlib.Core.Path.{refl}
use mathlib.Core.Bool.{false}
use lib.Ieee.{binary64}
use Rattle.ring.specs.Word.{Q, Q_pos}
use Rattle.utils.proofs.Unique.{value_unique}
use Rattle.ring.proofs.Outcomes.{Determined, DeterminedAs, said, said_written, said_written_twice}
use Rattle.egl_c.proofs.key_c.egl_key_decomposition_offset as egl_key_decomposition_offset
use Rattle.egl_c.specs.contracts.key_c.egl_key_decomposition_offset as egl_key_decomposition_offset_c
use Rattle.egl_c.proofs.key_c.egl_key_gen_testvec as egl_key_gen_testvec
use Rattle.egl_c.specs.contracts.key_c.egl_key_gen_testvec as egl_key_gen_testvec_c
use Rattle.egl_c.proofs.key_c.egl_key_gen_key_switching_key as egl_key_gen_key_switching_key
use Rattle.egl_c.specs.contracts.key_c.egl_key_gen_key_switching_key as egl_key_gen_key_switching_key_c
use Rattle.egl_c.proofs.key_c.egl_key_drop_idle_rows as egl_key_drop_idle_rows
use Rattle.egl_c.specs.contracts.key_c.egl_key_drop_idle_rows as egl_key_drop_idle_rows_c
use Rattle.egl_c.proofs.key_c.egl_key_switching_row_answer as egl_key_switching_row_answer
use Rattle.egl_c.specs.contracts.key_c.egl_key_switching_row_answer as egl_key_switching_row_answer_c
use Rattle.egl_c.proofs.key_c.egl_key_row_index as egl_key_row_index
use Rattle.egl_c.specs.contracts.key_c.egl_key_row_index as egl_key_row_index_c
use Rattle.egl_c.proofs.params_c.egl_params_check as egl_params_check
use Rattle.egl_c.specs.contracts.params_c.egl_params_check as egl_params_check_c
use Rattle.egl_c.proofs.product_c.egl_product_poly_mul as egl_product_poly_mul
use Rattle.egl_c.specs.contracts.product_c.egl_product_poly_mul as egl_product_poly_mul_c
use Rattle.egl_c.proofs.product_c.egl_product_poly_mul_add as egl_product_poly_mul_add
use Rattle.egl_c.specs.contracts.product_c.egl_product_poly_mul_add as egl_product_poly_mul_add_c
use Rattle.egl_c.proofs.trgsw_c.egl_trgsw_poly_mul_with_x_k as egl_trgsw_poly_mul_with_x_k
use Rattle.egl_c.specs.contracts.trgsw_c.egl_trgsw_poly_mul_with_x_k as egl_trgsw_poly_mul_with_x_k_c
use Rattle.egl_c.proofs.trgsw_c.egl_trgsw_mask_amount as egl_trgsw_mask_amount
use Rattle.egl_c.specs.contracts.trgsw_c.egl_trgsw_mask_amount as egl_trgsw_mask_amount_c
use Rattle.egl_c.proofs.trgsw_c.egl_trgsw_body_amount as egl_trgsw_body_amount
use Rattle.egl_c.specs.contracts.trgsw_c.egl_trgsw_body_amount as egl_trgsw_body_amount_c
use Rattle.egl_c.proofs.trgsw_c.egl_trgsw_identity_key_switching as egl_trgsw_identity_key_switching
use Rattle.egl_c.specs.contracts.trgsw_c.egl_trgsw_identity_key_switching as egl_trgsw_identity_key_switching_c
use Rattle.egl_c.proofs.tlwe_c.egl_tlwe_add_lv0 as egl_tlwe_add_lv0
use Rattle.egl_c.specs.contracts.tlwe_c.egl_tlwe_add_lv0 as egl_tlwe_add_lv0_c
use Rattle.egl_c.proofs.tlwe_c.egl_tlwe_add_lv1 as egl_tlwe_add_lv1
use Rattle.egl_c.specs.contracts.tlwe_c.egl_tlwe_add_lv1 as egl_tlwe_add_lv1_c
use Rattle.egl_c.proofs.tlwe_c.egl_tlwe_sub_lv0 as egl_tlwe_sub_lv0
use Rattle.egl_c.specs.contracts.tlwe_c.egl_tlwe_sub_lv0 as egl_tlwe_sub_lv0_c
use Rattle.egl_c.proofs.tlwe_c.egl_tlwe_sub_lv1 as egl_tlwe_sub_lv1
use Rattle.egl_c.specs.contracts.tlwe_c.egl_tlwe_sub_lv1 as egl_tlwe_sub_lv1_c
use Rattle.egl_c.proofs.tlwe_c.egl_tlwe_neg_lv0 as egl_tlwe_neg_lv0
use Rattle.egl_c.specs.contracts.tlwe_c.egl_tlwe_neg_lv0 as egl_tlwe_neg_lv0_c
use Rattle.egl_c.proofs.tlwe_c.egl_tlwe_neg_lv1 as egl_tlwe_neg_lv1
use Rattle.egl_c.specs.contracts.tlwe_c.egl_tlwe_neg_lv1 as egl_tlwe_neg_lv1_c
use Rattle.egl_c.proofs.tlwe_c.egl_tlwe_add_mul_lv0 as egl_tlwe_add_mul_lv0
use Rattle.egl_c.specs.contracts.tlwe_c.egl_tlwe_add_mul_lv0 as egl_tlwe_add_mul_lv0_c
use Rattle.egl_c.proofs.tlwe_c.egl_tlwe_add_mul_lv1 as egl_tlwe_add_mul_lv1
use Rattle.egl_c.specs.contracts.tlwe_c.egl_tlwe_add_mul_lv1 as egl_tlwe_add_mul_lv1_c
use Rattle.egl_c.proofs.tlwe_c.egl_tlwe_sub_mul_lv0 as egl_tlwe_sub_mul_lv0
use Rattle.egl_c.specs.contracts.tlwe_c.egl_tlwe_sub_mul_lv0 as egl_tlwe_sub_mul_lv0_c
use Rattle.egl_c.proofs.tlwe_c.egl_tlwe_sub_mul_lv1 as egl_tlwe_sub_mul_lv1
use Rattle.egl_c.specs.contracts.tlwe_c.egl_tlwe_sub_mul_lv1 as egl_tlwe_sub_mul_lv1_c
use Rattle.egl_c.proofs.tlwe_encryption_c.egl_tlwe_encrypt_bit_lv0 as egl_tlwe_encrypt_bit_lv0
use Rattle.egl_c.specs.contracts.tlwe_encryption_c.egl_tlwe_encrypt_bit_lv0 as egl_tlwe_encrypt_bit_lv0_c
use Rattle.egl_c.proofs.tlwe_encryption_c.egl_tlwe_encrypt_bit_lv1 as egl_tlwe_encrypt_bit_lv1
use Rattle.egl_c.specs.contracts.tlwe_encryption_c.egl_tlwe_encrypt_bit_lv1 as egl_tlwe_encrypt_bit_lv1_c
use Rattle.egl_c.proofs.tlwe_encryption_c.egl_tlwe_encrypt_turn_lv0 as egl_tlwe_encrypt_turn_lv0
use Rattle.egl_c.specs.contracts.tlwe_encryption_c.egl_tlwe_encrypt_turn_lv0 as egl_tlwe_encrypt_turn_lv0_c
use Rattle.egl_c.proofs.tlwe_encryption_c.egl_tlwe_encrypt_turn_lv1 as egl_tlwe_encrypt_turn_lv1
use Rattle.egl_c.specs.contracts.tlwe_encryption_c.egl_tlwe_encrypt_turn_lv1 as egl_tlwe_encrypt_turn_lv1_c
use Rattle.egl_c.proofs.tlwe_encryption_c.egl_tlwe_encrypt_message_lv0 as egl_tlwe_encrypt_message_lv0
use Rattle.egl_c.specs.contracts.tlwe_encryption_c.egl_tlwe_encrypt_message_lv0 as egl_tlwe_encrypt_message_lv0_c
use Rattle.egl_c.proofs.tlwe_encryption_c.egl_tlwe_encrypt_message_lv1 as egl_tlwe_encrypt_message_lv1
use Rattle.egl_c.specs.contracts.tlwe_encryption_c.egl_tlwe_encrypt_message_lv1 as egl_tlwe_encrypt_message_lv1_c
use Rattle.egl_c.proofs.tlwe_decryption_c.egl_tlwe_decrypt_bit_lv0 as egl_tlwe_decrypt_bit_lv0
use Rattle.egl_c.specs.contracts.tlwe_decryption_c.egl_tlwe_decrypt_bit_lv0 as egl_tlwe_decrypt_bit_lv0_c
use Rattle.egl_c.proofs.tlwe_decryption_c.egl_tlwe_decrypt_message_lv0 as egl_tlwe_decrypt_message_lv0
use Rattle.egl_c.specs.contracts.tlwe_decryption_c.egl_tlwe_decrypt_message_lv0 as egl_tlwe_decrypt_message_lv0_c
use Rattle.egl_c.proofs.tlwe_decryption_c.egl_tlwe_decrypt_bit_lv1 as egl_tlwe_decrypt_bit_lv1
use Rattle.egl_c.specs.contracts.tlwe_decryption_c.egl_tlwe_decrypt_bit_lv1 as egl_tlwe_decrypt_bit_lv1_c
use Rattle.egl_c.proofs.tlwe_decryption_c.egl_tlwe_decrypt_message_lv1 as egl_tlwe_decrypt_message_lv1
use Rattle.egl_c.specs.contracts.tlwe_decryption_c.egl_tlwe_decrypt_message_lv1 as egl_tlwe_decrypt_message_lv1_c
use Rattle.egl_c.proofs.trlwe_c.egl_trlwe_encrypt_f64 as egl_trlwe_encrypt_f64
use Rattle.egl_c.specs.contracts.trlwe_c.egl_trlwe_encrypt_f64 as egl_trlwe_encrypt_f64_c
use Rattle.egl_c.proofs.trlwe_c.egl_trlwe_encrypt_bool as egl_trlwe_encrypt_bool
use Rattle.egl_c.specs.contracts.trlwe_c.egl_trlwe_encrypt_bool as egl_trlwe_encrypt_bool_c
use Rattle.egl_c.proofs.trlwe_c.egl_trlwe_decrypt_bool as egl_trlwe_decrypt_bool
use Rattle.egl_c.specs.contracts.trlwe_c.egl_trlwe_decrypt_bool as egl_trlwe_decrypt_bool_c
use Rattle.egl_c.proofs.trlwe_c.egl_trlwe_sample_extract_index as egl_trlwe_sample_extract_index
use Rattle.egl_c.specs.contracts.trlwe_c.egl_trlwe_sample_extract_index as egl_trlwe_sample_extract_index_c
use Rattle.egl_c.proofs.utils_c.egl_utils_f64_to_torus as egl_utils_f64_to_torus
use Rattle.egl_c.specs.contracts.utils_c.egl_utils_f64_to_torus as egl_utils_f64_to_torus_c
use Rattle.egl_c.proofs.utils_c.egl_utils_torus_to_f64 as egl_utils_torus_to_f64
use Rattle.egl_c.specs.contracts.utils_c.egl_utils_torus_to_f64 as egl_utils_torus_to_f64_c
use Rattle.egl_c.proofs.utils_c.egl_utils_f64_to_torus_vec as egl_utils_f64_to_torus_vec
use Rattle.egl_c.specs.contracts.utils_c.egl_utils_f64_to_torus_vec as egl_utils_f64_to_torus_vec_c
use Rattle.egl_c.proofs.version_c.egl_version as egl_version
use Rattle.egl_c.specs.contracts.version_c.egl_version as egl_version_c

pub egl_key_decomposition_offset_determined : Determined egl_key_decomposition_offset_c.ended egl_key_decomposition_offset.Reads.Learnt
egl_key_decomposition_offset_determined κs a x y v w = said

pub egl_key_gen_testvec_determined : Determined egl_key_gen_testvec_c.ended egl_key_gen_testvec.Reads.Learnt
egl_key_gen_testvec_determined κs a x y v w = said_written_twice 6

pub egl_key_gen_key_switching_key_determined : Determined egl_key_gen_key_switching_key_c.ended egl_key_gen_key_switching_key.Reads.Learnt
egl_key_gen_key_switching_key_determined κs a x y v w = said_written 10

pub egl_key_drop_idle_rows_determined : Determined egl_key_drop_idle_rows_c.ended egl_key_drop_idle_rows.Reads.Learnt
egl_key_drop_idle_rows_determined κs a x y v w = said_written 7

pub egl_key_switching_row_answer_determined : Determined egl_key_switching_row_answer_c.ended egl_key_switching_row_answer.Reads.Learnt
egl_key_switching_row_answer_determined κs a x y v w = said

pub egl_key_row_index_determined : Determined egl_key_row_index_c.ended egl_key_row_index.Reads.Learnt
egl_key_row_index_determined κs a x y v w = said

pub egl_params_check_determined : Determined egl_params_check_c.ended egl_params_check.Reads.Learnt
egl_params_check_determined κs a x y v w = said

pub egl_product_poly_mul_determined : Determined egl_product_poly_mul_c.ended egl_product_poly_mul.Reads.Learnt
egl_product_poly_mul_determined κs a x y v w = said_written 8

pub egl_product_poly_mul_add_determined : Determined egl_product_poly_mul_add_c.ended egl_product_poly_mul_add.Reads.Learnt
egl_product_poly_mul_add_determined κs a x y v w = said_written 8

pub egl_trgsw_poly_mul_with_x_k_determined : Determined egl_trgsw_poly_mul_with_x_k_c.ended egl_trgsw_poly_mul_with_x_k.Reads.Learnt
egl_trgsw_poly_mul_with_x_k_determined κs a x y v w = said_written 8

pub egl_trgsw_mask_amount_determined : Determined egl_trgsw_mask_amount_c.ended egl_trgsw_mask_amount.Reads.Learnt
egl_trgsw_mask_amount_determined κs a x y v w = said

pub egl_trgsw_body_amount_determined : Determined egl_trgsw_body_amount_c.ended egl_trgsw_body_amount.Reads.Learnt
egl_trgsw_body_amount_determined κs a x y v w = said

pub egl_trgsw_identity_key_switching_determined : Determined egl_trgsw_identity_key_switching_c.ended egl_trgsw_identity_key_switching.Reads.Learnt
egl_trgsw_identity_key_switching_determined κs a x y v w = said_written 8

pub egl_tlwe_add_lv0_determined : Determined egl_tlwe_add_lv0_c.ended egl_tlwe_add_lv0.Reads.Learnt
egl_tlwe_add_lv0_determined κs a x y v w = said_written 8

pub egl_tlwe_add_lv1_determined : Determined egl_tlwe_add_lv1_c.ended egl_tlwe_add_lv1.Reads.Learnt
egl_tlwe_add_lv1_determined κs a x y v w = said_written 8

pub egl_tlwe_sub_lv0_determined : Determined egl_tlwe_sub_lv0_c.ended egl_tlwe_sub_lv0.Reads.Learnt
egl_tlwe_sub_lv0_determined κs a x y v w = said_written 8

pub egl_tlwe_sub_lv1_determined : Determined egl_tlwe_sub_lv1_c.ended egl_tlwe_sub_lv1.Reads.Learnt
egl_tlwe_sub_lv1_determined κs a x y v w = said_written 8

pub egl_tlwe_neg_lv0_determined : Determined egl_tlwe_neg_lv0_c.ended egl_tlwe_neg_lv0.Reads.Learnt
egl_tlwe_neg_lv0_determined κs a x y v w = said_written 7

pub egl_tlwe_neg_lv1_determined : Determined egl_tlwe_neg_lv1_c.ended egl_tlwe_neg_lv1.Reads.Learnt
egl_tlwe_neg_lv1_determined κs a x y v w = said_written 7

pub egl_tlwe_add_mul_lv0_determined : Determined egl_tlwe_add_mul_lv0_c.ended egl_tlwe_add_mul_lv0.Reads.Learnt
egl_tlwe_add_mul_lv0_determined κs a x y v w = said_written 9

pub egl_tlwe_add_mul_lv1_determined : Determined egl_tlwe_add_mul_lv1_c.ended egl_tlwe_add_mul_lv1.Reads.Learnt
egl_tlwe_add_mul_lv1_determined κs a x y v w = said_written 9

pub egl_tlwe_sub_mul_lv0_determined : Determined egl_tlwe_sub_mul_lv0_c.ended egl_tlwe_sub_mul_lv0.Reads.Learnt
egl_tlwe_sub_mul_lv0_determined κs a x y v w = said_written 9

pub egl_tlwe_sub_mul_lv1_determined : Determined egl_tlwe_sub_mul_lv1_c.ended egl_tlwe_sub_mul_lv1.Reads.Learnt
egl_tlwe_sub_mul_lv1_determined κs a x y v w = said_written 9

pub egl_tlwe_encrypt_bit_lv0_determined : Determined egl_tlwe_encrypt_bit_lv0_c.ended egl_tlwe_encrypt_bit_lv0.Reads.Learnt
egl_tlwe_encrypt_bit_lv0_determined κs a x y v w = said_written 10

pub egl_tlwe_encrypt_bit_lv1_determined : Determined egl_tlwe_encrypt_bit_lv1_c.ended egl_tlwe_encrypt_bit_lv1.Reads.Learnt
egl_tlwe_encrypt_bit_lv1_determined κs a x y v w = said_written 10

pub egl_tlwe_encrypt_turn_lv0_determined : Determined egl_tlwe_encrypt_turn_lv0_c.ended egl_tlwe_encrypt_turn_lv0.Reads.Learnt
egl_tlwe_encrypt_turn_lv0_determined κs a x y v w = said_written 10

pub egl_tlwe_encrypt_turn_lv1_determined : Determined egl_tlwe_encrypt_turn_lv1_c.ended egl_tlwe_encrypt_turn_lv1.Reads.Learnt
egl_tlwe_encrypt_turn_lv1_determined κs a x y v w = said_written 10

pub egl_tlwe_encrypt_message_lv0_determined : Determined egl_tlwe_encrypt_message_lv0_c.ended egl_tlwe_encrypt_message_lv0.Reads.Learnt
egl_tlwe_encrypt_message_lv0_determined κs a x y v w = said_written 11

pub egl_tlwe_encrypt_message_lv1_determined : Determined egl_tlwe_encrypt_message_lv1_c.ended egl_tlwe_encrypt_message_lv1.Reads.Learnt
egl_tlwe_encrypt_message_lv1_determined κs a x y v w = said_written 11

pub egl_tlwe_decrypt_bit_lv0_determined : Determined egl_tlwe_decrypt_bit_lv0_c.ended egl_tlwe_decrypt_bit_lv0.Reads.Learnt
egl_tlwe_decrypt_bit_lv0_determined κs a x y v w = said

pub egl_tlwe_decrypt_message_lv0_determined : Determined egl_tlwe_decrypt_message_lv0_c.ended egl_tlwe_decrypt_message_lv0.Reads.Learnt
egl_tlwe_decrypt_message_lv0_determined κs a x y v w = said

pub egl_tlwe_decrypt_bit_lv1_determined : Determined egl_tlwe_decrypt_bit_lv1_c.ended egl_tlwe_decrypt_bit_lv1.Reads.Learnt
egl_tlwe_decrypt_bit_lv1_determined κs a x y v w = said

pub egl_tlwe_decrypt_message_lv1_determined : Determined egl_tlwe_decrypt_message_lv1_c.ended egl_tlwe_decrypt_message_lv1.Reads.Learnt
egl_tlwe_decrypt_message_lv1_determined κs a x y v w = said

pub egl_trlwe_encrypt_f64_determined : Determined egl_trlwe_encrypt_f64_c.ended egl_trlwe_encrypt_f64.Reads.Learnt
egl_trlwe_encrypt_f64_determined κs a x y v w = said_written_twice 10

pub egl_trlwe_encrypt_bool_determined : Determined egl_trlwe_encrypt_bool_c.ended egl_trlwe_encrypt_bool.Reads.Learnt
egl_trlwe_encrypt_bool_determined κs a x y v w = said_written_twice 10

pub egl_trlwe_decrypt_bool_determined : Determined egl_trlwe_decrypt_bool_c.ended egl_trlwe_decrypt_bool.Reads.Learnt
egl_trlwe_decrypt_bool_determined κs a x y v w = said_written 9

pub egl_trlwe_sample_extract_index_determined : Determined egl_trlwe_sample_extract_index_c.ended egl_trlwe_sample_extract_index.Reads.Learnt
egl_trlwe_sample_extract_index_determined κs a x y v w = said_written 9

pub egl_utils_f64_to_torus_determined : Determined egl_utils_f64_to_torus_c.ended egl_utils_f64_to_torus.Reads.Learnt
egl_utils_f64_to_torus_determined κs a x y v w = said

-- both results are doubles, so the format holds them
pub egl_utils_torus_to_f64_determined : DeterminedAs egl_utils_torus_to_f64_c.ended egl_utils_torus_to_f64.Reads.Learnt (λ κs. (egl_utils_torus_to_f64.Kinds.r).is.Ok κs) (λ κs x. x)
egl_utils_torus_to_f64_determined κs a x y v w ox oy p q = (value_unique binary64 x y false a.0 Q Q_pos (rw ox tt) (rw oy tt) p q, refl)

pub egl_utils_f64_to_torus_vec_determined : Determined egl_utils_f64_to_torus_vec_c.ended egl_utils_f64_to_torus_vec.Reads.Learnt
egl_utils_f64_to_torus_vec_determined κs a x y v w = said_written 1

pub egl_version_determined : Determined egl_version_c.ended egl_version.Reads.Learnt
egl_version_determined κs a x y v w = said
