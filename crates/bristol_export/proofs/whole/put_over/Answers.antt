-- `bristol_export::whole::put_over` meets its contract: three parts, one behind the other.
-- Assumes nothing.
use mathlib.Core.Path.{sym, ◌∙◌}
use mathlib.Core.List.{◌++◌}
use native.Mathlib.Nat.{le_refl, zero-add}
use native.Mathlib.Omega.{arith}
use lib.ListN.{length}
use Rattle.ring.specs.Lists.{joined}
use Rattle.circuit.specs.Form.{gates, outputs}
use Rattle.bristol_export.specs.Text.{head_text, gate_text, output_text, exported}
use Rattle.bristol_export.proofs.Laid.{put_next}
use Rattle.bristol_export.proofs.Lengths.{length_head, length-gates}
use Rattle.bristol_export.proofs.whole.put_over.Goals as goal

pub put_gates-b-requires-clause-at_bound : goal.put_gates-b-requires-clause-at_bound
put_gates-b-requires-clause-at_bound c =
    let b = c.args.bytes.now in
    let p = c.requires in
    let l = length_head b p.valid in
    let e = c.put_head-a.ensures.value in
    omega arith

pub put_outputs-requires-clause-lines_value : goal.put_outputs-requires-clause-lines_value
put_outputs-requires-clause-lines_value c =
    let b = c.args.bytes.now in
    let p = c.requires in
    let l = length_head b p.valid in
    let m = length-gates b p.valid (gates b) (le_refl (gates b)) in
    let h = p.valid.head.gates_to in
    let e = c.put_head-a.ensures.value in
    let d = c.put_gates-b.ensures.value in
    (c.last_wires-lines.ensures.value, omega arith)

pub returns-clause-value : goal.returns-clause-value
unfolding exported
returns-clause-value c =
    let a = c.args in
    let b = a.bytes.now in
    let o = a.out.now in
    let e1 = c.put_head-a.ensures in
    let e2 = c.put_gates-b.ensures in
    let e3 = c.put_outputs.ensures in
    let t1 = head_text b in
    let t2 = joined (gates b) (gate_text b) in
    let t3 = joined (outputs b) (output_text b) in
    let w1 = put_next o 0 t1 t2 (record { text = e1.out_after; place = e1.value ∙ sym (zero-add (length t1)) }) e2.value e2.out_after in
    let w2 = put_next o 0 (t1 ++ t2) t3 w1 e3.value e3.out_after in
    w2.place ∙ zero-add (length (t1 ++ t2 ++ t3))

pub returns-clause-out_after : goal.returns-clause-out_after
unfolding exported
returns-clause-out_after c =
    let a = c.args in
    let b = a.bytes.now in
    let o = a.out.now in
    let e1 = c.put_head-a.ensures in
    let e2 = c.put_gates-b.ensures in
    let e3 = c.put_outputs.ensures in
    let t1 = head_text b in
    let t2 = joined (gates b) (gate_text b) in
    let t3 = joined (outputs b) (output_text b) in
    let w1 = put_next o 0 t1 t2 (record { text = e1.out_after; place = e1.value ∙ sym (zero-add (length t1)) }) e2.value e2.out_after in
    let w2 = put_next o 0 (t1 ++ t2) t3 w1 e3.value e3.out_after in
    w2.text
