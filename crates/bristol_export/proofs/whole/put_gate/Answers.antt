-- `bristol_export::whole::put_gate` meets its contract: the lines of the gate's kind on the text's wires of its operands, which the table holds.
-- Assumes nothing.
use native.Mathlib.Omega.{arith}
use lib.Dec.{lit<}
use Rattle.circuit.specs.Form.{operand_at}
use Rattle.report.proofs.Pieces.{counts_inputs}
use Rattle.bristol_export.specs.Text.{steps_text, gate_text}
use Rattle.bristol_export.proofs.Wires.{kind_there, operand_looked_up, operand_wire, wire_small, first_small}
use Rattle.bristol_export.proofs.Pieces.{put_is, gate_is}
use Rattle.bristol_export.proofs.whole.put_gate.Goals as goal

pub put_steps-requires : goal.put_steps-requires
put_steps-requires c =
    let a = c.args in
    let b = a.bytes.now in
    let w = a.last.now in
    let v = c.requires.valid in
    let s = c.requires.wired in
    let q = c.counts-counts.result.inputs in
    let i = counts_inputs b c.counts-counts.ensures in
    let h = c.requires.g_bound.0 in
    let e = c.requires.g_bound.1 in
    let k = (v.every_gate a.g h).kind_to in
    let x = wire_small b v (operand_at b a.g 0) (operand_wire b v a.g h 0 (lit< tt)) in
    let y = wire_small b v (operand_at b a.g 1) (operand_wire b v a.g h 1 (lit< tt)) in
    let z = wire_small b v (operand_at b a.g 2) (operand_wire b v a.g h 2 (lit< tt)) in
    let n = first_small b v a.g (omega arith) in
    let tk = kind_there b a.g h c.kind_at.ensures in
    let ta = operand_looked_up b w v s a.g 0 q h (lit< tt) i c.operand_at.ensures c.wire_of-a.ensures in
    let tb = operand_looked_up b w v s a.g 1 q h (lit< tt) i c.operand_at-2.ensures c.wire_of-b.ensures in
    let tc = operand_looked_up b w v s a.g 2 q h (lit< tt) i c.operand_at-3.ensures c.wire_of-c.ensures in
    record { at_bound = (c.requires.g_bound.2, omega arith); a_bound = (omega arith, omega arith, omega arith, omega arith) }

pub returns : goal.returns
returns c =
    let a = c.args in
    let b = a.bytes.now in
    let l = a.last.now in
    let v = c.requires.valid in
    let s = c.requires.wired in
    let q = c.counts-counts.result.inputs in
    let i = counts_inputs b c.counts-counts.ensures in
    let h = c.requires.g_bound.0 in
    let tk = kind_there b a.g h c.kind_at.ensures in
    let ta = operand_looked_up b l v s a.g 0 q h (lit< tt) i c.operand_at.ensures c.wire_of-a.ensures in
    let tb = operand_looked_up b l v s a.g 1 q h (lit< tt) i c.operand_at-2.ensures c.wire_of-b.ensures in
    let tc = operand_looked_up b l v s a.g 2 q h (lit< tt) i c.operand_at-3.ensures c.wire_of-c.ensures in
    let e = c.put_steps.ensures in
    let w = put_is a.out.now a.at (steps_text c.kind_at.result c.wire_of-a.result c.wire_of-b.result c.wire_of-c.result a.n) (gate_text b a.g)
    (gate_is b a.g tk ta tb tc c.requires.g_bound.1) (record { text = e.out_after; place = e.value }) in
    record { value = w.place; out_after = w.text }
