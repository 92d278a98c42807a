-- What the exports of reports and of the switching key's layout tell, by their contracts as `rattle` reads them from the code, is what the laws and computed cases of drift_report and key speak of: by
-- computation. So a contract of these which is changed together with its code is refused here.
-- Assumes nothing.
use mathlib.Core.Path.{◌≡◌}
use mathlib.Core.Bool.{true, false}
use mathlib.Core.List.{[], ◌∷◌}
use lib.ListN.{length}
use contract.Lifetimes.{Lfts}
use denote.Triple.Entry.{Args, Res}
use denote.Triple.Clauses.{Lasts, at_exit}
use Prim.Native.Nat.{◌+◌, ◌%◌}
use Rattle.ring.specs.Word.{Q, at}
use Rattle.ring.specs.Phase.{phase_of}
use Rattle.ring.specs.Bit.{bit_number}
use Rattle.ring.specs.Centre.{word_of}
use Rattle.params.specs.Refusal.{answer, outcome, given, if_done}
use Rattle.params.specs.Published.{numbers}
use Rattle.packing.specs.Packed.{packed, packed_value}
use Rattle.key.specs.Switching.{lookup_number, place_out}
use Rattle.key.specs.Generation.{generated, generate_number}
use Rattle.key.specs.Former.{without_idle, drop_number}
use Rattle.blind_rotation.specs.Blind.{blind_rotated}
use Rattle.blind_rotation.specs.Refusals.{vector_number}
use Rattle.blind_rotation.proofs.Steps.{pair}
use Rattle.tables.specs.Table.{table_pair, looked_up}
use Rattle.tables.specs.Refusals.{table_number, lookup_number as table_lookup_number}
use Rattle.table_drift.specs.Lookup.{message_brought, lookup_drift, inside_margin, both_inside, Carries}
use Rattle.table_drift.specs.Refusals.{lookup_drift_number, told_inside, result_after, drifts_after}
use Rattle.drift_report.specs.Report.{empty_report, report_of}
use Rattle.drift_report.specs.Merge.{merged}
use Rattle.drift_report.specs.Words.{report_words, report_from, empty_number, report_number, merge_number}
use Rattle.egl_c.proofs.key_c.egl_key_gen_key_switching_key as egl_key_gen_key_switching_key
use Rattle.egl_c.specs.contracts.key_c.egl_key_gen_key_switching_key as egl_key_gen_key_switching_key_c
use Rattle.egl_c.proofs.key_c.egl_key_drop_idle_rows as egl_key_drop_idle_rows
use Rattle.egl_c.specs.contracts.key_c.egl_key_drop_idle_rows as egl_key_drop_idle_rows_c
use Rattle.egl_c.proofs.table_c.egl_trgsw_blind_rotate_with_testvec as egl_trgsw_blind_rotate_with_testvec
use Rattle.egl_c.specs.contracts.table_c.egl_trgsw_blind_rotate_with_testvec as egl_trgsw_blind_rotate_with_testvec_c
use Rattle.egl_c.proofs.table_c.egl_table_testvec as egl_table_testvec
use Rattle.egl_c.specs.contracts.table_c.egl_table_testvec as egl_table_testvec_c
use Rattle.egl_c.proofs.table_c.egl_lookup as egl_lookup
use Rattle.egl_c.specs.contracts.table_c.egl_lookup as egl_lookup_c
use Rattle.egl_c.proofs.table_c.egl_lookup_drift as egl_lookup_drift
use Rattle.egl_c.specs.contracts.table_c.egl_lookup_drift as egl_lookup_drift_c
use Rattle.egl_c.proofs.key_c.egl_key_switching_row_answer as egl_key_switching_row_answer
use Rattle.egl_c.specs.contracts.key_c.egl_key_switching_row_answer as egl_key_switching_row_answer_c
use Rattle.egl_c.proofs.key_c.egl_key_row_index as egl_key_row_index
use Rattle.egl_c.specs.contracts.key_c.egl_key_row_index as egl_key_row_index_c
use Rattle.egl_c.proofs.drift_report_c.egl_drift_report_empty as egl_drift_report_empty
use Rattle.egl_c.specs.contracts.drift_report_c.egl_drift_report_empty as egl_drift_report_empty_c
use Rattle.egl_c.proofs.drift_report_c.egl_drift_report_of as egl_drift_report_of
use Rattle.egl_c.specs.contracts.drift_report_c.egl_drift_report_of as egl_drift_report_of_c
use Rattle.egl_c.proofs.drift_report_c.egl_drift_report_merge as egl_drift_report_merge
use Rattle.egl_c.specs.contracts.drift_report_c.egl_drift_report_merge as egl_drift_report_merge_c

pub egl_drift_report_empty_tells : (κs : Lfts (egl_drift_report_empty_c.ended).signature.lifetimes) (a : Args (egl_drift_report_empty_c.ended).signature κs)
    (x : Res (egl_drift_report_empty_c.ended).signature κs) (v : Lasts egl_drift_report_empty_c.ended κs a) → egl_drift_report_empty.Reads.Learnt κs a x (at_exit egl_drift_report_empty_c.ended κs a v)
    → let out = a.0.now in let number = empty_number (length out) in (x ≡ packed (outcome (answer number))) × (v.0 ≡ if_done number (report_words empty_report) out)
egl_drift_report_empty_tells κs a x v h = h

pub egl_drift_report_of_tells : (κs : Lfts (egl_drift_report_of_c.ended).signature.lifetimes) (a : Args (egl_drift_report_of_c.ended).signature κs)
    (x : Res (egl_drift_report_of_c.ended).signature κs) (v : Lasts egl_drift_report_of_c.ended κs a) → egl_drift_report_of.Reads.Learnt κs a x (at_exit egl_drift_report_of_c.ended κs a v)
    → let ds = a.0.now in let out = a.1.0.now in let number = report_number (length ds) (length out) in (x ≡ packed (outcome (answer number))) × (v.1.0 ≡ if_done number (report_words (report_of ds)) out)
egl_drift_report_of_tells κs a x v h = h

pub egl_drift_report_merge_tells : (κs : Lfts (egl_drift_report_merge_c.ended).signature.lifetimes) (a : Args (egl_drift_report_merge_c.ended).signature κs)
    (x : Res (egl_drift_report_merge_c.ended).signature κs) (v : Lasts egl_drift_report_merge_c.ended κs a) → egl_drift_report_merge.Reads.Learnt κs a x (at_exit egl_drift_report_merge_c.ended κs a v)
    → let first = a.0.now in let second = a.1.0.now in let out = a.1.1.0.now in let number = merge_number first second (length out) in
    (x ≡ packed (outcome (answer number))) × (v.1.1.0 ≡ if_done number (report_words (merged (report_from first) (report_from second))) out)
egl_drift_report_merge_tells κs a x v h = h

-- ---- the switching key

pub egl_key_gen_key_switching_key_tells : (κs : Lfts (egl_key_gen_key_switching_key_c.ended).signature.lifetimes) (a : Args (egl_key_gen_key_switching_key_c.ended).signature κs)
    (x : Res (egl_key_gen_key_switching_key_c.ended).signature κs) (v : Lasts egl_key_gen_key_switching_key_c.ended κs a) → egl_key_gen_key_switching_key.Reads.Learnt κs a x (at_exit egl_key_gen_key_switching_key_c.ended κs a v)
    → let p = numbers a.0 a.1.0 a.1.1.0 a.1.1.1.0 a.1.1.1.1.0 a.1.1.1.1.1.0 in let lent = a.1.1.1.1.1.1 in
    let key = lent.0.now in let z = lent.1.0.now in let masks = lent.1.1.0.now in let noise = lent.1.1.1.0.now in let out = lent.1.1.1.1.0.now in
    let number = generate_number p key z (length masks) (length noise) (length out) in (x ≡ packed (outcome (answer number))) × (v.1.1.1.1.1.1.1.1.1.1.0 ≡ if_done number (generated p key z masks noise) out)
egl_key_gen_key_switching_key_tells κs a x v h = h

pub egl_key_switching_row_answer_tells : (κs : Lfts (egl_key_switching_row_answer_c.ended).signature.lifetimes) (a : Args (egl_key_switching_row_answer_c.ended).signature κs)
    (x : Res (egl_key_switching_row_answer_c.ended).signature κs) (v : Lasts egl_key_switching_row_answer_c.ended κs a) → egl_key_switching_row_answer.Reads.Learnt κs a x (at_exit egl_key_switching_row_answer_c.ended κs a v)
    → let p = numbers a.0 a.1.0 a.1.1.0 a.1.1.1.0 a.1.1.1.1.0 a.1.1.1.1.1.0 in let asked = a.1.1.1.1.1.1 in
    x ≡ packed (outcome (answer (lookup_number p asked.0 asked.1.0 asked.1.1.0 asked.1.1.1.0)))
egl_key_switching_row_answer_tells κs a x v h = h

pub egl_key_row_index_tells : (κs : Lfts (egl_key_row_index_c.ended).signature.lifetimes) (a : Args (egl_key_row_index_c.ended).signature κs)
    (x : Res (egl_key_row_index_c.ended).signature κs) (v : Lasts egl_key_row_index_c.ended κs a) → egl_key_row_index.Reads.Learnt κs a x (at_exit egl_key_row_index_c.ended κs a v)
    → let p = numbers a.0 a.1.0 a.1.1.0 a.1.1.1.0 a.1.1.1.1.0 a.1.1.1.1.1.0 in let asked = a.1.1.1.1.1.1 in
    x ≡ packed_value (place_out p asked.0 asked.1.0 asked.1.1.0)
egl_key_row_index_tells κs a x v h = h

pub egl_key_drop_idle_rows_tells : (κs : Lfts (egl_key_drop_idle_rows_c.ended).signature.lifetimes) (a : Args (egl_key_drop_idle_rows_c.ended).signature κs)
    (x : Res (egl_key_drop_idle_rows_c.ended).signature κs) (v : Lasts egl_key_drop_idle_rows_c.ended κs a) → egl_key_drop_idle_rows.Reads.Learnt κs a x (at_exit egl_key_drop_idle_rows_c.ended κs a v)
    → let p = numbers a.0 a.1.0 a.1.1.0 a.1.1.1.0 a.1.1.1.1.0 a.1.1.1.1.1.0 in let former = a.1.1.1.1.1.1.0.now in let out = a.1.1.1.1.1.1.1.0.now in
    let number = drop_number p (length former) (length out) in (x ≡ packed (outcome (answer number))) × (v.1.1.1.1.1.1.1.0 ≡ if_done number (without_idle p former) out)
egl_key_drop_idle_rows_tells κs a x v h = h

-- ---- lookup tables

pub egl_table_testvec_tells : (κs : Lfts (egl_table_testvec_c.ended).signature.lifetimes) (a : Args (egl_table_testvec_c.ended).signature κs)
    (x : Res (egl_table_testvec_c.ended).signature κs) (v : Lasts egl_table_testvec_c.ended κs a) → egl_table_testvec.Reads.Learnt κs a x (at_exit egl_table_testvec_c.ended κs a v)
    → let p = numbers a.0 a.1.0 a.1.1.0 a.1.1.1.0 a.1.1.1.1.0 a.1.1.1.1.1.0 in let lent = a.1.1.1.1.1.1 in
    let m = lent.0 in let f = lent.1.0.now in let oa = lent.1.1.0.now in let ob = lent.1.1.1.0.now in
    let number = table_number p m (length f) (length oa) (length ob) in let out = if_done number (table_pair p m f) (pair oa ob) in
    (x ≡ packed (outcome (answer number))) × (v.1.1.1.1.1.1.1.1.0 ≡ out.a) × (v.1.1.1.1.1.1.1.1.1.0 ≡ out.b)
egl_table_testvec_tells κs a x v h = (h.0, h.1.0, h.1.1)

pub egl_trgsw_blind_rotate_with_testvec_tells : (κs : Lfts (egl_trgsw_blind_rotate_with_testvec_c.ended).signature.lifetimes) (a : Args (egl_trgsw_blind_rotate_with_testvec_c.ended).signature κs)
    (x : Res (egl_trgsw_blind_rotate_with_testvec_c.ended).signature κs) (v : Lasts egl_trgsw_blind_rotate_with_testvec_c.ended κs a) → egl_trgsw_blind_rotate_with_testvec.Reads.Learnt κs a x (at_exit egl_trgsw_blind_rotate_with_testvec_c.ended κs a v)
    → let p = numbers a.0 a.1.0 a.1.1.0 a.1.1.1.0 a.1.1.1.1.0 a.1.1.1.1.1.0 in let lent = a.1.1.1.1.1.1 in
    let src = lent.0.now in let va = lent.1.0.now in let vb = lent.1.1.0.now in let key = lent.1.1.1.0.now in let oa = lent.1.1.1.1.0.now in let ob = lent.1.1.1.1.1.0.now in
    let number = vector_number p (length src) (length va) (length vb) (length key) (length oa) (length ob) in let out = if_done number (blind_rotated p key src (pair va vb)) (pair oa ob) in
    (x ≡ packed (outcome (answer number))) × (v.1.1.1.1.1.1.1.1.1.1.0 ≡ out.a) × (v.1.1.1.1.1.1.1.1.1.1.1.0 ≡ out.b)
egl_trgsw_blind_rotate_with_testvec_tells κs a x v h = (h.0, h.1.0, h.1.1)

pub egl_lookup_tells : (κs : Lfts (egl_lookup_c.ended).signature.lifetimes) (a : Args (egl_lookup_c.ended).signature κs)
    (x : Res (egl_lookup_c.ended).signature κs) (v : Lasts egl_lookup_c.ended κs a) → egl_lookup.Reads.Learnt κs a x (at_exit egl_lookup_c.ended κs a v)
    → let p = numbers a.0 a.1.0 a.1.1.0 a.1.1.1.0 a.1.1.1.1.0 a.1.1.1.1.1.0 in let lent = a.1.1.1.1.1.1 in
    let m = lent.0 in let f = lent.1.0.now in let c = lent.1.1.0.now in let ksk = lent.1.1.1.0.now in let bsk = lent.1.1.1.1.0.now in let o = lent.1.1.1.1.1.0.now in
    let number = table_lookup_number p m (length f) (length c) (length ksk) (length bsk) (length o) in (x ≡ packed (outcome (answer number))) × (v.1.1.1.1.1.1.1.1.1.1.1.0 ≡ if_done number (looked_up p m f ksk bsk c) o)
egl_lookup_tells κs a x v h = h

pub egl_lookup_drift_tells : (κs : Lfts (egl_lookup_drift_c.ended).signature.lifetimes) (a : Args (egl_lookup_drift_c.ended).signature κs)
    (x : Res (egl_lookup_drift_c.ended).signature κs) (v : Lasts egl_lookup_drift_c.ended κs a) → egl_lookup_drift.Reads.Learnt κs a x (at_exit egl_lookup_drift_c.ended κs a v)
    → let p = numbers a.0 a.1.0 a.1.1.0 a.1.1.1.0 a.1.1.1.1.0 a.1.1.1.1.1.0 in let lent = a.1.1.1.1.1.1 in
    let m = lent.0 in let f = lent.1.0.now in let results = lent.1.1.0 in let value = lent.1.1.1.0 in let ksk = lent.1.1.1.1.0.now in let bsk = lent.1.1.1.1.1.0.now in let key = lent.1.1.1.1.1.1.0.now in let z = lent.1.1.1.1.1.1.1.0.now in
    let c = lent.1.1.1.1.1.1.1.1.0.now in let o = lent.1.1.1.1.1.1.1.1.1.0.now in let d = lent.1.1.1.1.1.1.1.1.1.1.0.now in
    let number = lookup_drift_number p m (length f) results (length ksk) (length bsk) key z (length c) (length o) (length d) in
    let inside = if_done number (both_inside p key z ksk bsk m f results value c) false in
    (x ≡ packed_value (given (answer number) (bit_number (both_inside p key z ksk bsk m f results value c)))) × (v.1.1.1.1.1.1.1.1.1.1.1.1.1.1.1.0 ≡ if_done number (looked_up p m f ksk bsk c) o)
    × (v.1.1.1.1.1.1.1.1.1.1.1.1.1.1.1.1.0 ≡ if_done number (word_of (message_brought p key c value m) ∷ word_of (lookup_drift p key z ksk bsk m f c) ∷ []) d)
    × (number ≡ 0 → inside_margin m (message_brought p key c value m) ≡ true → phase_of p.n key v.1.1.1.1.1.1.1.1.1.1.1.1.1.1.1.0 ≡ (at f (value % m) + at v.1.1.1.1.1.1.1.1.1.1.1.1.1.1.1.1.0 1) % Q)
    × (inside ≡ true → Carries p key m f results value v.1.1.1.1.1.1.1.1.1.1.1.1.1.1.1.0 (at v.1.1.1.1.1.1.1.1.1.1.1.1.1.1.1.1.0 1))
unfolding told_inside result_after drifts_after
egl_lookup_drift_tells κs a x v h = (h.0, h.1.0, h.1.1.0, h.1.1.1.0, h.1.1.1.1)
