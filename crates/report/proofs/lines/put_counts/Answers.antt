-- `report::lines::put_counts` meets its contract: three pieces; a valid circuit's counts are small.
-- Assumes nothing.
use mathlib.Core.Path.{ap, ◌∙◌}
use mathlib.Core.List.{List, ◌++◌}
use Prim.Native.Nat.{ℕ}
use native.Mathlib.Nat.{zero-add}
use native.Mathlib.Omega.{arith}
use lib.ListN.{length}
use Rattle.circuit.specs.declared.Shape.{Shape}
use Rattle.circuit.specs.Form.{counts_of}
use Rattle.circuit.proofs.Accept.{accepted}
use Rattle.report.specs.Private.{splice}
use Rattle.report.specs.Text.{egl_word, inputs_word, gates_word, named, counts_text}
use Rattle.report.proofs.Pieces.{written_next, length-named, counts_version, counts_inputs, counts_gates}
use Rattle.report.proofs.lines.put_counts.Goals as goal

pub put_named-b-requires : goal.put_named-b-requires
put_named-b-requires c =
    let b = c.args.bytes.now in
    let h = (accepted b c.requires.0).head in
    let s = c.counts-counts.ensures in
    let v = counts_version b s in
    let i = counts_inputs b s in
    let l = length-named egl_word c.counts-counts.result.version (omega arith) in
    let e = c.put_named-a.ensures in
    let k = c.put_named-a.auto.out in
    omega arith

pub put_named-requires : goal.put_named-requires
put_named-requires c =
    let b = c.args.bytes.now in
    let h = (accepted b c.requires.0).head in
    let s = c.counts-counts.ensures in
    let v = counts_version b s in
    let i = counts_inputs b s in
    let g = counts_gates b s in
    let l1 = length-named egl_word c.counts-counts.result.version (omega arith) in
    let l2 = length-named inputs_word c.counts-counts.result.inputs (omega arith) in
    let e1 = c.put_named-a.ensures in
    let e2 = c.put_named-b.ensures in
    let k1 = c.put_named-a.auto.out in
    let k2 = c.put_named-b.auto.out in
    omega arith

pub returns-clause-value : goal.returns-clause-value
unfolding counts_text counts_of
returns-clause-value c =
    let a = c.args in
    let b = a.bytes.now in
    let o = a.out.now in
    let h = (accepted b c.requires.0).head in
    let s = c.counts-counts.ensures in
    let x = c.counts-counts.result in
    let v = counts_version b s in
    let i = counts_inputs b s in
    let l1 = length-named egl_word x.version (omega arith) in
    let l2 = length-named inputs_word x.inputs (omega arith) in
    let e1 = c.put_named-a.ensures in
    let e2 = c.put_named-b.ensures in
    let e3 = c.put_named.ensures in
    let w1 = written_next o 0 (named egl_word x.version) (named inputs_word x.inputs) (record { text = e1.out_after; place = e1.value }) (omega arith) e2.value e2.out_after in
    let w2 = written_next o 0 (named egl_word x.version ++ named inputs_word x.inputs) (named gates_word x.gates) w1 (omega arith) e3.value e3.out_after in
    let t = ap (λ (y : Shape). named egl_word y.version ++ named inputs_word y.inputs ++ named gates_word y.gates) s in
    w2.place ∙ zero-add _ ∙ ap length t

pub returns-clause-out_after : goal.returns-clause-out_after
unfolding counts_text counts_of
returns-clause-out_after c =
    let a = c.args in
    let b = a.bytes.now in
    let o = a.out.now in
    let h = (accepted b c.requires.0).head in
    let s = c.counts-counts.ensures in
    let x = c.counts-counts.result in
    let v = counts_version b s in
    let i = counts_inputs b s in
    let l1 = length-named egl_word x.version (omega arith) in
    let l2 = length-named inputs_word x.inputs (omega arith) in
    let e1 = c.put_named-a.ensures in
    let e2 = c.put_named-b.ensures in
    let e3 = c.put_named.ensures in
    let w1 = written_next o 0 (named egl_word x.version) (named inputs_word x.inputs) (record { text = e1.out_after; place = e1.value }) (omega arith) e2.value e2.out_after in
    let w2 = written_next o 0 (named egl_word x.version ++ named inputs_word x.inputs) (named gates_word x.gates) w1 (omega arith) e3.value e3.out_after in
    let t = ap (λ (y : Shape). named egl_word y.version ++ named inputs_word y.inputs ++ named gates_word y.gates) s in
    w2.text ∙ ap (λ (l : List ℕ). splice o 0 l) t
