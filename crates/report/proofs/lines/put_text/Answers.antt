-- `report::lines::put_text` meets its contract: a refusal's line, or line 1 with the table behind it.
-- Assumes nothing.
use mathlib.Core.Path.{sym, ap, ap₂, ◌∙◌}
use mathlib.Core.List.{List}
use Prim.Native.Nat.{ℕ, ◌^◌, ◌≤◌, ◌<◌}
use native.Mathlib.Nat.{zero-add}
use native.Mathlib.Omega.{arith}
use lib.ListN.{length}
use Rattle.circuit.specs.Form.{inputs}
use Rattle.circuit.proofs.Accept.{accepted}
use Rattle.report.specs.Private.{splice}
use Rattle.report.specs.Text.{head_text, rows_to, refused_line}
use Rattle.report.proofs.Pieces.{written_next, rows_to_lem, length_rows, counts_inputs}
use Rattle.report.proofs.Texts.{work_good, text_of_refusal, text_long, text_table, length_head}
use Rattle.report.proofs.lines.put_text.Goals as goal

pub put_head-a-requires : goal.put_head-a-requires
put_head-a-requires c =
    let b = c.args.bytes.now in
    let w = sym c.work.ensures ∙ c.in-Ok.is in
    let z = work_good b w in
    (z.0, z.1, omega arith)

pub put_rows-requires : goal.put_rows-requires
put_rows-requires c =
    let b = c.args.bytes.now in
    let z = (work_good b (sym c.work.ensures ∙ c.in-Ok.is)).0 in
    let i = counts_inputs b c.counts-counts.ensures in
    let v = accepted b z in
    let l = length_head b v in
    let e = c.put_head-a.ensures.value in
    let k = c.put_head-a.auto.out in
    (z, omega arith, v.head.outputs_to, omega arith)

pub returns-in-Err-clause-value : goal.returns-in-Err-clause-value
returns-in-Err-clause-value c =
    let a = c.args in
    let b = a.bytes.now in
    let t = ap₂ refused_line c.number.ensures c.place.ensures ∙ text_of_refusal b (sym c.work.ensures ∙ c.in-Err.is) in
    let e = c.put_refused.ensures in
    let l = e.value.1 in
    (e.value.0 ∙ ap length t, omega arith)

pub returns-in-Err-clause-out_after : goal.returns-in-Err-clause-out_after
returns-in-Err-clause-out_after c =
    let a = c.args in
    let b = a.bytes.now in
    let t = ap₂ refused_line c.number.ensures c.place.ensures ∙ text_of_refusal b (sym c.work.ensures ∙ c.in-Err.is) in
    let e = c.put_refused.ensures in
    let l = e.value.1 in
    e.out_after ∙ ap (λ (x : List ℕ). splice a.out.now 0 x) t

pub returns-then-counts-gt4-clause-value : goal.returns-then-counts-gt4-clause-value
returns-then-counts-gt4-clause-value c =
    let a = c.args in
    let b = a.bytes.now in
    let z = (work_good b (sym c.work.ensures ∙ c.in-Ok.is)).0 in
    let i = counts_inputs b c.counts-counts.ensures in
    let h : 4 < inputs b = omega arith in
    let t = text_long b z h in
    let l = length_head b (accepted b z) in
    let e = c.put_head-a.ensures in
    let p = e.value in
    (p ∙ ap length t, omega arith)

pub returns-then-counts-gt4-clause-out_after : goal.returns-then-counts-gt4-clause-out_after
returns-then-counts-gt4-clause-out_after c =
    let a = c.args in
    let b = a.bytes.now in
    let z = (work_good b (sym c.work.ensures ∙ c.in-Ok.is)).0 in
    let i = counts_inputs b c.counts-counts.ensures in
    let h : 4 < inputs b = omega arith in
    let t = text_long b z h in
    let l = length_head b (accepted b z) in
    let e = c.put_head-a.ensures in
    let p = e.value in
    e.out_after ∙ ap (λ (x : List ℕ). splice a.out.now 0 x) t

pub returns-clause-value : goal.returns-clause-value
returns-clause-value c =
    let a = c.args in
    let b = a.bytes.now in
    let o = a.out.now in
    let z = (work_good b (sym c.work.ensures ∙ c.in-Ok.is)).0 in
    let i = counts_inputs b c.counts-counts.ensures in
    let h : inputs b ≤ 4 = omega arith in
    let v = accepted b z in
    let l = length_head b v in
    let m = length_rows b (2 ^ inputs b) h v.head.outputs_to in
    let n = rows_to_lem (inputs b) h in
    let e1 = c.put_head-a.ensures in
    let e2 = c.put_rows.ensures in
    let p1 = e1.value in
    let p2 = e2.value in
    let w = written_next o 0 (head_text b) (rows_to b (2 ^ inputs b)) (record { text = e1.out_after; place = e1.value ∙ sym (zero-add _) }) (omega arith) e2.value e2.out_after in
    let t = text_table b z h in
    (w.place ∙ zero-add _ ∙ ap length t, omega arith)

pub returns-clause-out_after : goal.returns-clause-out_after
returns-clause-out_after c =
    let a = c.args in
    let b = a.bytes.now in
    let o = a.out.now in
    let z = (work_good b (sym c.work.ensures ∙ c.in-Ok.is)).0 in
    let i = counts_inputs b c.counts-counts.ensures in
    let h : inputs b ≤ 4 = omega arith in
    let v = accepted b z in
    let l = length_head b v in
    let m = length_rows b (2 ^ inputs b) h v.head.outputs_to in
    let n = rows_to_lem (inputs b) h in
    let e1 = c.put_head-a.ensures in
    let e2 = c.put_rows.ensures in
    let p1 = e1.value in
    let p2 = e2.value in
    let w = written_next o 0 (head_text b) (rows_to b (2 ^ inputs b)) (record { text = e1.out_after; place = e1.value ∙ sym (zero-add _) }) (omega arith) e2.value e2.out_after in
    let t = text_table b z h in
    w.text ∙ ap (λ (x : List ℕ). splice o 0 x) t
