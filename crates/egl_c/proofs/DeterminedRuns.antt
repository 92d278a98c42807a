-- Two outcomes that a contract of this crate allows coincide: of the contract itself, as `rattle` reads it from the code, for every export (01, 'What the contracts owe'): here the products with key rows, the blind rotation, the gates, the circuits, the drift and its reports.
-- Assumes nothing.
use Rattle.ring.proofs.Outcomes.{Determined, said, said_written, said_written_twice, coincide, same_rest}
use Rattle.egl_c.proofs.trgsw_c.egl_trgsw_blind_rotate_step as egl_trgsw_blind_rotate_step
use Rattle.egl_c.specs.contracts.trgsw_c.egl_trgsw_blind_rotate_step as egl_trgsw_blind_rotate_step_c
use Rattle.egl_c.proofs.trgsw_c.egl_trgsw_blind_rotate as egl_trgsw_blind_rotate
use Rattle.egl_c.specs.contracts.trgsw_c.egl_trgsw_blind_rotate as egl_trgsw_blind_rotate_c
use Rattle.egl_c.proofs.table_c.egl_trgsw_blind_rotate_with_testvec as egl_trgsw_blind_rotate_with_testvec
use Rattle.egl_c.specs.contracts.table_c.egl_trgsw_blind_rotate_with_testvec as egl_trgsw_blind_rotate_with_testvec_c
use Rattle.egl_c.proofs.table_c.egl_table_testvec as egl_table_testvec
use Rattle.egl_c.specs.contracts.table_c.egl_table_testvec as egl_table_testvec_c
use Rattle.egl_c.proofs.table_c.egl_lookup as egl_lookup
use Rattle.egl_c.specs.contracts.table_c.egl_lookup as egl_lookup_c
use Rattle.egl_c.proofs.table_c.egl_lookup_drift as egl_lookup_drift
use Rattle.egl_c.specs.contracts.table_c.egl_lookup_drift as egl_lookup_drift_c
use Rattle.egl_c.proofs.trgsw_c.egl_trgsw_encrypt_torus as egl_trgsw_encrypt_torus
use Rattle.egl_c.specs.contracts.trgsw_c.egl_trgsw_encrypt_torus as egl_trgsw_encrypt_torus_c
use Rattle.egl_c.proofs.trgsw_c.egl_trgsw_gen_bootstrapping_key as egl_trgsw_gen_bootstrapping_key
use Rattle.egl_c.specs.contracts.trgsw_c.egl_trgsw_gen_bootstrapping_key as egl_trgsw_gen_bootstrapping_key_c
use Rattle.egl_c.proofs.bristol_c.egl_bristol_import as egl_bristol_import
use Rattle.egl_c.specs.contracts.bristol_c.egl_bristol_import as egl_bristol_import_c
use Rattle.egl_c.proofs.bristol_c.egl_bristol_export as egl_bristol_export
use Rattle.egl_c.specs.contracts.bristol_c.egl_bristol_export as egl_bristol_export_c
use Rattle.egl_c.proofs.circuit_c.egl_circuit_check as egl_circuit_check
use Rattle.egl_c.specs.contracts.circuit_c.egl_circuit_check as egl_circuit_check_c
use Rattle.egl_c.proofs.circuit_c.egl_circuit_counts as egl_circuit_counts
use Rattle.egl_c.specs.contracts.circuit_c.egl_circuit_counts as egl_circuit_counts_c
use Rattle.egl_c.proofs.circuit_c.egl_circuit_work as egl_circuit_work
use Rattle.egl_c.specs.contracts.circuit_c.egl_circuit_work as egl_circuit_work_c
use Rattle.egl_c.proofs.circuit_c.egl_circuit_run_plain as egl_circuit_run_plain
use Rattle.egl_c.specs.contracts.circuit_c.egl_circuit_run_plain as egl_circuit_run_plain_c
use Rattle.egl_c.proofs.circuit_c.egl_circuit_run_encrypted as egl_circuit_run_encrypted
use Rattle.egl_c.specs.contracts.circuit_c.egl_circuit_run_encrypted as egl_circuit_run_encrypted_c
use Rattle.egl_c.proofs.circuit_c.egl_circuit_run_gate as egl_circuit_run_gate
use Rattle.egl_c.specs.contracts.circuit_c.egl_circuit_run_gate as egl_circuit_run_gate_c
use Rattle.egl_c.proofs.column_c.egl_gate_column as egl_gate_column
use Rattle.egl_c.specs.contracts.column_c.egl_gate_column as egl_gate_column_c
use Rattle.egl_c.proofs.gates_c.egl_gates_nand as egl_gates_nand
use Rattle.egl_c.specs.contracts.gates_c.egl_gates_nand as egl_gates_nand_c
use Rattle.egl_c.proofs.gates_c.egl_gates_or as egl_gates_or
use Rattle.egl_c.specs.contracts.gates_c.egl_gates_or as egl_gates_or_c
use Rattle.egl_c.proofs.gates_c.egl_gates_and as egl_gates_and
use Rattle.egl_c.specs.contracts.gates_c.egl_gates_and as egl_gates_and_c
use Rattle.egl_c.proofs.gates_c.egl_gates_nor as egl_gates_nor
use Rattle.egl_c.specs.contracts.gates_c.egl_gates_nor as egl_gates_nor_c
use Rattle.egl_c.proofs.gates_c.egl_gates_and_ny as egl_gates_and_ny
use Rattle.egl_c.specs.contracts.gates_c.egl_gates_and_ny as egl_gates_and_ny_c
use Rattle.egl_c.proofs.gates_c.egl_gates_and_yn as egl_gates_and_yn
use Rattle.egl_c.specs.contracts.gates_c.egl_gates_and_yn as egl_gates_and_yn_c
use Rattle.egl_c.proofs.gates_c.egl_gates_or_ny as egl_gates_or_ny
use Rattle.egl_c.specs.contracts.gates_c.egl_gates_or_ny as egl_gates_or_ny_c
use Rattle.egl_c.proofs.gates_c.egl_gates_or_yn as egl_gates_or_yn
use Rattle.egl_c.specs.contracts.gates_c.egl_gates_or_yn as egl_gates_or_yn_c
use Rattle.egl_c.proofs.gates_c.egl_gates_xor as egl_gates_xor
use Rattle.egl_c.specs.contracts.gates_c.egl_gates_xor as egl_gates_xor_c
use Rattle.egl_c.proofs.gates_c.egl_gates_xnor as egl_gates_xnor
use Rattle.egl_c.specs.contracts.gates_c.egl_gates_xnor as egl_gates_xnor_c
use Rattle.egl_c.proofs.gates_c.egl_gates_mux as egl_gates_mux
use Rattle.egl_c.specs.contracts.gates_c.egl_gates_mux as egl_gates_mux_c
use Rattle.egl_c.proofs.gates_c.egl_gates_mux_naive as egl_gates_mux_naive
use Rattle.egl_c.specs.contracts.gates_c.egl_gates_mux_naive as egl_gates_mux_naive_c
use Rattle.egl_c.proofs.trgsw_c.egl_trgsw_decomposition as egl_trgsw_decomposition
use Rattle.egl_c.specs.contracts.trgsw_c.egl_trgsw_decomposition as egl_trgsw_decomposition_c
use Rattle.egl_c.proofs.trgsw_c.egl_trgsw_external_product as egl_trgsw_external_product
use Rattle.egl_c.specs.contracts.trgsw_c.egl_trgsw_external_product as egl_trgsw_external_product_c
use Rattle.egl_c.proofs.trgsw_c.egl_trgsw_cmux as egl_trgsw_cmux
use Rattle.egl_c.specs.contracts.trgsw_c.egl_trgsw_cmux as egl_trgsw_cmux_c
use Rattle.egl_c.proofs.wires_c.egl_gates_not as egl_gates_not
use Rattle.egl_c.specs.contracts.wires_c.egl_gates_not as egl_gates_not_c
use Rattle.egl_c.proofs.wires_c.egl_gates_copy as egl_gates_copy
use Rattle.egl_c.specs.contracts.wires_c.egl_gates_copy as egl_gates_copy_c
use Rattle.egl_c.proofs.wires_c.egl_gates_constant as egl_gates_constant
use Rattle.egl_c.specs.contracts.wires_c.egl_gates_constant as egl_gates_constant_c
use Rattle.egl_c.proofs.drift_c.egl_drift_inside as egl_drift_inside
use Rattle.egl_c.specs.contracts.drift_c.egl_drift_inside as egl_drift_inside_c
use Rattle.egl_c.proofs.drift_c.egl_fresh_drift as egl_fresh_drift
use Rattle.egl_c.specs.contracts.drift_c.egl_fresh_drift as egl_fresh_drift_c
use Rattle.egl_c.proofs.drift_c.egl_drift_gate as egl_drift_gate
use Rattle.egl_c.specs.contracts.drift_c.egl_drift_gate as egl_drift_gate_c
use Rattle.egl_c.proofs.drift_c.egl_drift_run as egl_drift_run
use Rattle.egl_c.specs.contracts.drift_c.egl_drift_run as egl_drift_run_c
use Rattle.egl_c.proofs.drift_report_c.egl_drift_report_empty as egl_drift_report_empty
use Rattle.egl_c.specs.contracts.drift_report_c.egl_drift_report_empty as egl_drift_report_empty_c
use Rattle.egl_c.proofs.drift_report_c.egl_drift_report_of as egl_drift_report_of
use Rattle.egl_c.specs.contracts.drift_report_c.egl_drift_report_of as egl_drift_report_of_c
use Rattle.egl_c.proofs.drift_report_c.egl_drift_report_merge as egl_drift_report_merge
use Rattle.egl_c.specs.contracts.drift_report_c.egl_drift_report_merge as egl_drift_report_merge_c

pub egl_trgsw_blind_rotate_step_determined : Determined egl_trgsw_blind_rotate_step_c.ended egl_trgsw_blind_rotate_step.Reads.Learnt
egl_trgsw_blind_rotate_step_determined κs a x y v w = said_written_twice 9

pub egl_trgsw_blind_rotate_determined : Determined egl_trgsw_blind_rotate_c.ended egl_trgsw_blind_rotate.Reads.Learnt
egl_trgsw_blind_rotate_determined κs a x y v w = said_written_twice 8

pub egl_trgsw_encrypt_torus_determined : Determined egl_trgsw_encrypt_torus_c.ended egl_trgsw_encrypt_torus.Reads.Learnt
egl_trgsw_encrypt_torus_determined κs a x y v w = said_written 10

pub egl_trgsw_gen_bootstrapping_key_determined : Determined egl_trgsw_gen_bootstrapping_key_c.ended egl_trgsw_gen_bootstrapping_key.Reads.Learnt
egl_trgsw_gen_bootstrapping_key_determined κs a x y v w = said_written 10

pub egl_bristol_import_determined : Determined egl_bristol_import_c.ended egl_bristol_import.Reads.Learnt
egl_bristol_import_determined κs a x y v w = said_written 1

pub egl_bristol_export_determined : Determined egl_bristol_export_c.ended egl_bristol_export.Reads.Learnt
egl_bristol_export_determined κs a x y v w = said_written 1

pub egl_circuit_check_determined : Determined egl_circuit_check_c.ended egl_circuit_check.Reads.Learnt
egl_circuit_check_determined κs a x y v w = said

pub egl_circuit_counts_determined : Determined egl_circuit_counts_c.ended egl_circuit_counts.Reads.Learnt
egl_circuit_counts_determined κs a x y v w = said_written 1

pub egl_circuit_work_determined : Determined egl_circuit_work_c.ended egl_circuit_work.Reads.Learnt
egl_circuit_work_determined κs a x y v w = said

pub egl_circuit_run_plain_determined : Determined egl_circuit_run_plain_c.ended egl_circuit_run_plain.Reads.Learnt
egl_circuit_run_plain_determined κs a x y v w = said_written 2

pub egl_circuit_run_encrypted_determined : Determined egl_circuit_run_encrypted_c.ended egl_circuit_run_encrypted.Reads.Learnt
egl_circuit_run_encrypted_determined κs a x y v w = said_written_twice 10

pub egl_circuit_run_gate_determined : Determined egl_circuit_run_gate_c.ended egl_circuit_run_gate.Reads.Learnt
egl_circuit_run_gate_determined κs a x y v w = said_written 10

pub egl_gate_column_determined : Determined egl_gate_column_c.ended egl_gate_column.Reads.Learnt
egl_gate_column_determined κs a x y v w = said_written 11

pub egl_gates_nand_determined : Determined egl_gates_nand_c.ended egl_gates_nand.Reads.Learnt
egl_gates_nand_determined κs a x y v w = said_written 10

pub egl_gates_or_determined : Determined egl_gates_or_c.ended egl_gates_or.Reads.Learnt
egl_gates_or_determined κs a x y v w = said_written 10

pub egl_gates_and_determined : Determined egl_gates_and_c.ended egl_gates_and.Reads.Learnt
egl_gates_and_determined κs a x y v w = said_written 10

pub egl_gates_nor_determined : Determined egl_gates_nor_c.ended egl_gates_nor.Reads.Learnt
egl_gates_nor_determined κs a x y v w = said_written 10

pub egl_gates_and_ny_determined : Determined egl_gates_and_ny_c.ended egl_gates_and_ny.Reads.Learnt
egl_gates_and_ny_determined κs a x y v w = said_written 10

pub egl_gates_and_yn_determined : Determined egl_gates_and_yn_c.ended egl_gates_and_yn.Reads.Learnt
egl_gates_and_yn_determined κs a x y v w = said_written 10

pub egl_gates_or_ny_determined : Determined egl_gates_or_ny_c.ended egl_gates_or_ny.Reads.Learnt
egl_gates_or_ny_determined κs a x y v w = said_written 10

pub egl_gates_or_yn_determined : Determined egl_gates_or_yn_c.ended egl_gates_or_yn.Reads.Learnt
egl_gates_or_yn_determined κs a x y v w = said_written 10

pub egl_gates_xor_determined : Determined egl_gates_xor_c.ended egl_gates_xor.Reads.Learnt
egl_gates_xor_determined κs a x y v w = said_written 10

pub egl_gates_xnor_determined : Determined egl_gates_xnor_c.ended egl_gates_xnor.Reads.Learnt
egl_gates_xnor_determined κs a x y v w = said_written 10

pub egl_gates_mux_determined : Determined egl_gates_mux_c.ended egl_gates_mux.Reads.Learnt
egl_gates_mux_determined κs a x y v w = said_written 11

pub egl_gates_mux_naive_determined : Determined egl_gates_mux_naive_c.ended egl_gates_mux_naive.Reads.Learnt
egl_gates_mux_naive_determined κs a x y v w = said_written 11

pub egl_trgsw_decomposition_determined : Determined egl_trgsw_decomposition_c.ended egl_trgsw_decomposition.Reads.Learnt
egl_trgsw_decomposition_determined κs a x y v w = said_written 8

pub egl_trgsw_external_product_determined : Determined egl_trgsw_external_product_c.ended egl_trgsw_external_product.Reads.Learnt
egl_trgsw_external_product_determined κs a x y v w = said_written_twice 9

pub egl_trgsw_cmux_determined : Determined egl_trgsw_cmux_c.ended egl_trgsw_cmux.Reads.Learnt
egl_trgsw_cmux_determined κs a x y v w = said_written_twice 11

pub egl_gates_not_determined : Determined egl_gates_not_c.ended egl_gates_not.Reads.Learnt
egl_gates_not_determined κs a x y v w = said_written 7

pub egl_gates_copy_determined : Determined egl_gates_copy_c.ended egl_gates_copy.Reads.Learnt
egl_gates_copy_determined κs a x y v w = said_written 7

pub egl_gates_constant_determined : Determined egl_gates_constant_c.ended egl_gates_constant.Reads.Learnt
egl_gates_constant_determined κs a x y v w = said_written 7

pub egl_drift_inside_determined : Determined egl_drift_inside_c.ended egl_drift_inside.Reads.Learnt
egl_drift_inside_determined κs a x y v w = said

pub egl_fresh_drift_determined : Determined egl_fresh_drift_c.ended egl_fresh_drift.Reads.Learnt
egl_fresh_drift_determined κs a x y v w = said

pub egl_drift_gate_determined : Determined egl_drift_gate_c.ended egl_drift_gate.Reads.Learnt
egl_drift_gate_determined κs a x y v w = said_written_twice 12

pub egl_drift_run_determined : Determined egl_drift_run_c.ended egl_drift_run.Reads.Learnt
egl_drift_run_determined κs a x y v w p q =
    let held = coincide p.1.0 q.1.0 in
    let written = coincide p.1.1.0 q.1.1.0 in
    let drifted = coincide p.1.1.1.0 q.1.1.1.0 in
    (coincide p.0 q.0, same_rest 13 (λ i. (held i, (written i, (drifted i, tt)))))

pub egl_drift_report_empty_determined : Determined egl_drift_report_empty_c.ended egl_drift_report_empty.Reads.Learnt
egl_drift_report_empty_determined κs a x y v w = said_written 0

pub egl_drift_report_of_determined : Determined egl_drift_report_of_c.ended egl_drift_report_of.Reads.Learnt
egl_drift_report_of_determined κs a x y v w = said_written 1

pub egl_drift_report_merge_determined : Determined egl_drift_report_merge_c.ended egl_drift_report_merge.Reads.Learnt
egl_drift_report_merge_determined κs a x y v w = said_written 2

pub egl_trgsw_blind_rotate_with_testvec_determined : Determined egl_trgsw_blind_rotate_with_testvec_c.ended egl_trgsw_blind_rotate_with_testvec.Reads.Learnt
egl_trgsw_blind_rotate_with_testvec_determined κs a x y v w = said_written_twice 10

pub egl_table_testvec_determined : Determined egl_table_testvec_c.ended egl_table_testvec.Reads.Learnt
egl_table_testvec_determined κs a x y v w = said_written_twice 8

pub egl_lookup_determined : Determined egl_lookup_c.ended egl_lookup.Reads.Learnt
egl_lookup_determined κs a x y v w = said_written 11

pub egl_lookup_drift_determined : Determined egl_lookup_drift_c.ended egl_lookup_drift.Reads.Learnt
egl_lookup_drift_determined κs a x y v w p q =
    let written = coincide p.1.0 q.1.0 in
    let drifted = coincide p.1.1.0 q.1.1.0 in
    (coincide p.0 q.0, same_rest 15 (λ i. (written i, (drifted i, tt))))
