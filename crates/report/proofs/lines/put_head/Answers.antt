-- `report::lines::put_head` meets its contract: the counts, then three pieces more.
-- Assumes nothing.
use mathlib.Core.Path.{sym, ap, ap₂, ◌∙◌}
use mathlib.Core.List.{List, [], ◌∷◌, ◌++◌}
use Prim.Native.Nat.{ℕ}
use native.Mathlib.Nat.{zero-add}
use native.Mathlib.Omega.{arith}
use lib.ListN.{length}
use Rattle.circuit.proofs.Accept.{accepted}
use Rattle.report.specs.Private.{splice}
use Rattle.report.specs.Text.{outputs_word, work_word, named, counts_text, head_text}
use Rattle.report.proofs.Pieces.{written_next, length-named, length_counts, counts_outputs}
use Rattle.report.proofs.lines.put_head.Goals as goal

pub put_named-b-requires : goal.put_named-b-requires
put_named-b-requires c =
    let b = c.args.bytes.now in
    let h = (accepted b c.requires.0).head in
    let n = counts_outputs b c.counts-counts.ensures in
    let l = length_counts b h in
    let e = c.put_counts-a.ensures in
    let k = c.put_counts-a.auto.out in
    omega arith

pub put_named-c-requires : goal.put_named-c-requires
put_named-c-requires c =
    let b = c.args.bytes.now in
    let h = (accepted b c.requires.0).head in
    let n = counts_outputs b c.counts-counts.ensures in
    let l = length_counts b h in
    let m = length-named outputs_word c.counts-counts.result.outputs (omega arith) in
    let e1 = c.put_counts-a.ensures in
    let e2 = c.put_named-b.ensures in
    let k1 = c.put_counts-a.auto.out in
    let k2 = c.put_named-b.auto.out in
    omega arith

pub put_byte-requires : goal.put_byte-requires
put_byte-requires c =
    let b = c.args.bytes.now in
    let h = (accepted b c.requires.0).head in
    let n = counts_outputs b c.counts-counts.ensures in
    let l = length_counts b h in
    let m = length-named outputs_word c.counts-counts.result.outputs (omega arith) in
    let w = length-named work_word c.args.work (omega arith) in
    let e1 = c.put_counts-a.ensures in
    let e2 = c.put_named-b.ensures in
    let e3 = c.put_named-c.ensures in
    let k1 = c.put_counts-a.auto.out in
    let k2 = c.put_named-b.auto.out in
    let k3 = c.put_named-c.auto.out in
    omega arith

pub returns-clause-value : goal.returns-clause-value
unfolding head_text
returns-clause-value c =
    let a = c.args in
    let b = a.bytes.now in
    let o = a.out.now in
    let h = (accepted b c.requires.0).head in
    let x = c.counts-counts.result.outputs in
    let n = counts_outputs b c.counts-counts.ensures in
    let l = length_counts b h in
    let m = length-named outputs_word x (omega arith) in
    let y = length-named work_word a.work (omega arith) in
    let e1 = c.put_counts-a.ensures in
    let e2 = c.put_named-b.ensures in
    let e3 = c.put_named-c.ensures in
    let e4 = c.put_byte.ensures in
    let w1 = written_next o 0 (counts_text b) (named outputs_word x) (record { text = e1.out_after; place = e1.value ∙ sym (zero-add _) }) (omega arith) e2.value e2.out_after in
    let w2 = written_next o 0 (counts_text b ++ named outputs_word x) (named work_word a.work) w1 (omega arith) e3.value e3.out_after in
    let w3 = written_next o 0 (counts_text b ++ named outputs_word x ++ named work_word a.work) (10 ∷ []) w2 (omega arith) e4.value e4.out_after in
    let t = ap₂ (λ (p q : ℕ). counts_text b ++ named outputs_word p ++ named work_word q ++ (10 ∷ [])) n c.requires.1 in
    w3.place ∙ zero-add _ ∙ ap length t

pub returns-clause-out_after : goal.returns-clause-out_after
unfolding head_text
returns-clause-out_after c =
    let a = c.args in
    let b = a.bytes.now in
    let o = a.out.now in
    let h = (accepted b c.requires.0).head in
    let x = c.counts-counts.result.outputs in
    let n = counts_outputs b c.counts-counts.ensures in
    let l = length_counts b h in
    let m = length-named outputs_word x (omega arith) in
    let y = length-named work_word a.work (omega arith) in
    let e1 = c.put_counts-a.ensures in
    let e2 = c.put_named-b.ensures in
    let e3 = c.put_named-c.ensures in
    let e4 = c.put_byte.ensures in
    let w1 = written_next o 0 (counts_text b) (named outputs_word x) (record { text = e1.out_after; place = e1.value ∙ sym (zero-add _) }) (omega arith) e2.value e2.out_after in
    let w2 = written_next o 0 (counts_text b ++ named outputs_word x) (named work_word a.work) w1 (omega arith) e3.value e3.out_after in
    let w3 = written_next o 0 (counts_text b ++ named outputs_word x ++ named work_word a.work) (10 ∷ []) w2 (omega arith) e4.value e4.out_after in
    let t = ap₂ (λ (p q : ℕ). counts_text b ++ named outputs_word p ++ named work_word q ++ (10 ∷ [])) n c.requires.1 in
    w3.text ∙ ap (λ (l : List ℕ). splice o 0 l) t
