-- `bristol_export::whole::put_head` meets its contract: four numbers, each with what stands behind it.
-- Assumes nothing.
use mathlib.Core.Path.{◌∙◌}
use mathlib.Core.List.{[], ◌∷◌, ◌++◌}
use Prim.Native.Nat.{◌+◌, ◌≤◌}
use native.Mathlib.Nat.{le_refl, zero-add}
use native.Mathlib.Omega.{arith}
use lib.Dec.{lit≤}
use lib.ListN.{length}
use Rattle.circuit.specs.Form.{gates}
use Rattle.report.proofs.Pieces.{counts_inputs, counts_outputs}
use Rattle.bristol_export.specs.Text.{ended, space, head_text}
use Rattle.bristol_export.proofs.Laid.{put_next}
use Rattle.bristol_export.proofs.Wires.{lines_to_lem}
use Rattle.bristol_export.proofs.Lengths.{length-ended}
use Rattle.bristol_export.proofs.Pieces.{put_is, head_is}
use Rattle.bristol_export.proofs.whole.put_head.Goals as goal

pub overflow_add-all : goal.overflow_add-all
overflow_add-all c =
    let small : (c.args.lines + c.counts-counts.result.outputs ≤ 3136) × (c.counts-counts.result.inputs ≤ 256) × (c.counts-counts.result.outputs ≤ 64) =
    let b = c.args.bytes.now in
    let v = c.requires.valid in
    let s = c.counts-counts.ensures in
    let i = counts_inputs b s in
    let o = counts_outputs b s in
    let l = lines_to_lem b v (gates b) (le_refl (gates b)) in
    let z = c.requires.lines_value in
    let h = v.head in
    let hg = h.gates_to in
    let hi = h.inputs_to in
    let ho = h.outputs_to in
    (omega arith, omega arith, omega arith)
    in
    let s = small in omega arith

pub put_ended-a-requires : goal.put_ended-a-requires
put_ended-a-requires c =
    let small : (c.args.lines + c.counts-counts.result.outputs ≤ 3136) × (c.counts-counts.result.inputs ≤ 256) × (c.counts-counts.result.outputs ≤ 64) =
    let b = c.args.bytes.now in
    let v = c.requires.valid in
    let s = c.counts-counts.ensures in
    let i = counts_inputs b s in
    let o = counts_outputs b s in
    let l = lines_to_lem b v (gates b) (le_refl (gates b)) in
    let z = c.requires.lines_value in
    let h = v.head in
    let hg = h.gates_to in
    let hi = h.inputs_to in
    let ho = h.outputs_to in
    (omega arith, omega arith, omega arith)
    in
    let s = small in (lit≤ tt, omega arith, lit≤ tt)

pub overflow_add-counts : goal.overflow_add-counts
overflow_add-counts c =
    let small : (c.args.lines + c.counts-counts.result.outputs ≤ 3136) × (c.counts-counts.result.inputs ≤ 256) × (c.counts-counts.result.outputs ≤ 64) =
    let b = c.args.bytes.now in
    let v = c.requires.valid in
    let s = c.counts-counts.ensures in
    let i = counts_inputs b s in
    let o = counts_outputs b s in
    let l = lines_to_lem b v (gates b) (le_refl (gates b)) in
    let z = c.requires.lines_value in
    let h = v.head in
    let hg = h.gates_to in
    let hi = h.inputs_to in
    let ho = h.outputs_to in
    (omega arith, omega arith, omega arith)
    in
    let s = small in omega arith

pub put_ended-b-requires : goal.put_ended-b-requires
put_ended-b-requires c =
    let small : (c.args.lines + c.counts-counts.result.outputs ≤ 3136) × (c.counts-counts.result.inputs ≤ 256) × (c.counts-counts.result.outputs ≤ 64) =
    let b = c.args.bytes.now in
    let v = c.requires.valid in
    let s = c.counts-counts.ensures in
    let i = counts_inputs b s in
    let o = counts_outputs b s in
    let l = lines_to_lem b v (gates b) (le_refl (gates b)) in
    let z = c.requires.lines_value in
    let h = v.head in
    let hg = h.gates_to in
    let hi = h.inputs_to in
    let ho = h.outputs_to in
    (omega arith, omega arith, omega arith)
    in
    let s = small in
    let x = c.counts-counts.result in
    let l = length-ended (c.args.lines + x.outputs) space (omega arith) in
    let e = c.put_ended-a.ensures.value in
    (omega arith, omega arith, lit≤ tt)

pub put_ended-c-requires : goal.put_ended-c-requires
put_ended-c-requires c =
    let small : (c.args.lines + c.counts-counts.result.outputs ≤ 3136) × (c.counts-counts.result.inputs ≤ 256) × (c.counts-counts.result.outputs ≤ 64) =
    let b = c.args.bytes.now in
    let v = c.requires.valid in
    let s = c.counts-counts.ensures in
    let i = counts_inputs b s in
    let o = counts_outputs b s in
    let l = lines_to_lem b v (gates b) (le_refl (gates b)) in
    let z = c.requires.lines_value in
    let h = v.head in
    let hg = h.gates_to in
    let hi = h.inputs_to in
    let ho = h.outputs_to in
    (omega arith, omega arith, omega arith)
    in
    let s = small in
    let x = c.counts-counts.result in
    let n = c.args.lines + x.outputs in
    let l = length-ended n space (omega arith) in
    let m = length-ended (x.inputs + n) (10 ∷ 49 ∷ 32 ∷ []) (omega arith) in
    let e = c.put_ended-a.ensures.value in
    let f = c.put_ended-b.ensures.value in
    (omega arith, omega arith, lit≤ tt)

pub put_ended-requires : goal.put_ended-requires
put_ended-requires c =
    let small : (c.args.lines + c.counts-counts.result.outputs ≤ 3136) × (c.counts-counts.result.inputs ≤ 256) × (c.counts-counts.result.outputs ≤ 64) =
    let b = c.args.bytes.now in
    let v = c.requires.valid in
    let s = c.counts-counts.ensures in
    let i = counts_inputs b s in
    let o = counts_outputs b s in
    let l = lines_to_lem b v (gates b) (le_refl (gates b)) in
    let z = c.requires.lines_value in
    let h = v.head in
    let hg = h.gates_to in
    let hi = h.inputs_to in
    let ho = h.outputs_to in
    (omega arith, omega arith, omega arith)
    in
    let s = small in
    let x = c.counts-counts.result in
    let n = c.args.lines + x.outputs in
    let l = length-ended n space (omega arith) in
    let m = length-ended (x.inputs + n) (10 ∷ 49 ∷ 32 ∷ []) (omega arith) in
    let k = length-ended x.inputs (10 ∷ 49 ∷ 32 ∷ []) (omega arith) in
    let e = c.put_ended-a.ensures.value in
    let f = c.put_ended-b.ensures.value in
    let g = c.put_ended-c.ensures.value in
    (omega arith, omega arith, lit≤ tt)

pub returns-clause-value : goal.returns-clause-value
returns-clause-value c =
    let a = c.args in
    let b = a.bytes.now in
    let o = a.out.now in
    let s = c.counts-counts.ensures in
    let x = c.counts-counts.result in
    let n = a.lines + x.outputs in
    let e1 = c.put_ended-a.ensures in
    let e2 = c.put_ended-b.ensures in
    let e3 = c.put_ended-c.ensures in
    let e4 = c.put_ended.ensures in
    let t1 = ended n space in
    let t2 = ended (x.inputs + n) (10 ∷ 49 ∷ 32 ∷ []) in
    let t3 = ended x.inputs (10 ∷ 49 ∷ 32 ∷ []) in
    let t4 = ended x.outputs (10 ∷ 10 ∷ []) in
    let w1 = put_next o 0 t1 t2 (record { text = e1.out_after; place = e1.value }) e2.value e2.out_after in
    let w2 = put_next o 0 (t1 ++ t2) t3 w1 e3.value e3.out_after in
    let w3 = put_next o 0 (t1 ++ t2 ++ t3) t4 w2 e4.value e4.out_after in
    let w = put_is o 0 (t1 ++ t2 ++ t3 ++ t4) (head_text b) (head_is b c.requires.lines_value (counts_inputs b s) (counts_outputs b s)) w3 in
    w.place ∙ zero-add (length (head_text b))

pub returns-clause-out_after : goal.returns-clause-out_after
returns-clause-out_after c =
    let a = c.args in
    let b = a.bytes.now in
    let o = a.out.now in
    let s = c.counts-counts.ensures in
    let x = c.counts-counts.result in
    let n = a.lines + x.outputs in
    let e1 = c.put_ended-a.ensures in
    let e2 = c.put_ended-b.ensures in
    let e3 = c.put_ended-c.ensures in
    let e4 = c.put_ended.ensures in
    let t1 = ended n space in
    let t2 = ended (x.inputs + n) (10 ∷ 49 ∷ 32 ∷ []) in
    let t3 = ended x.inputs (10 ∷ 49 ∷ 32 ∷ []) in
    let t4 = ended x.outputs (10 ∷ 10 ∷ []) in
    let w1 = put_next o 0 t1 t2 (record { text = e1.out_after; place = e1.value }) e2.value e2.out_after in
    let w2 = put_next o 0 (t1 ++ t2) t3 w1 e3.value e3.out_after in
    let w3 = put_next o 0 (t1 ++ t2 ++ t3) t4 w2 e4.value e4.out_after in
    let w = put_is o 0 (t1 ++ t2 ++ t3 ++ t4) (head_text b) (head_is b c.requires.lines_value (counts_inputs b s) (counts_outputs b s)) w3 in
    w.text
