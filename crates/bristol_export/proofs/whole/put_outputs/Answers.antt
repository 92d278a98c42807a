-- `bristol_export::whole::put_outputs` meets its contract. The loop's invariant: the lines of the outputs passed are laid.
-- Assumes nothing.
use mathlib.Core.Path.{◌≡◌, ap, ◌∙◌}
use Prim.Native.Nat.{ℕ, ◌+◌, ◌≤◌, ◌<◌}
use native.Mathlib.Nat.{le_refl}
use native.Mathlib.Omega.{arith}
use lib.Dec.{lit<, lit≤}
use lib.ListN.{length}
use Rattle.ring.specs.Lists.{joined}
use Rattle.circuit.specs.Form.{gates, outputs, output_at}
use Rattle.report.proofs.Pieces.{counts_inputs, counts_outputs}
use Rattle.bristol_export.specs.Private.{laid}
use Rattle.bristol_export.specs.Text.{text_wire, first_wire, output_text}
use Rattle.bristol_export.proofs.Laid.{rows_none, rows_more}
use Rattle.bristol_export.proofs.Wires.{output_looked_up, wire_small, first_small}
use Rattle.bristol_export.proofs.Lengths.{length-outputs}
use Rattle.bristol_export.proofs.Pieces.{output_is}
use Rattle.bristol_export.proofs.whole.put_outputs.Goals as goal

pub loop-o-init : goal.loop-o-init
loop-o-init c = let a = c.args in rows_none a.out.now a.at (output_text a.bytes.now)

pub overflow_add-counts : goal.overflow_add-counts
overflow_add-counts c =
    let told : (c.wire_of-w.result ≡ text_wire c.args.bytes.now (output_at c.args.bytes.now c.loop-o.o)) × (c.wire_of-w.result < 3328) × (c.counts-counts.result.inputs + c.args.lines ≡ first_wire c.args.bytes.now (gates c.args.bytes.now)) × (first_wire c.args.bytes.now (gates c.args.bytes.now) ≤ 3328) × (c.loop-o.o < 64) × (c.loop-o.o < outputs c.args.bytes.now) =
    let b = c.args.bytes.now in
    let p = c.requires in
    let v = p.valid in
    let s = c.counts-counts.ensures in
    let i = counts_inputs b s in
    let n = counts_outputs b s in
    let h : c.loop-o.o < outputs b = omega arith in
    let m = v.head.outputs_to in
    let z = p.lines_value.0 in
    let e = output_looked_up b c.args.last.now v p.wired c.loop-o.o c.counts-counts.result.inputs h i c.output_at.ensures c.wire_of-w.ensures in
    let w = wire_small b v (output_at b c.loop-o.o) (v.every_output c.loop-o.o h) in
    (e, omega arith, omega arith, first_small b v (gates b) (le_refl (gates b)), omega arith, h)
    in
    let t = told in let q = t.2 in let r = t.3 in omega arith

pub overflow_add-counts-in-loop-o : goal.overflow_add-counts-in-loop-o
overflow_add-counts-in-loop-o c =
    let told : (c.wire_of-w.result ≡ text_wire c.args.bytes.now (output_at c.args.bytes.now c.loop-o.o)) × (c.wire_of-w.result < 3328) × (c.counts-counts.result.inputs + c.args.lines ≡ first_wire c.args.bytes.now (gates c.args.bytes.now)) × (first_wire c.args.bytes.now (gates c.args.bytes.now) ≤ 3328) × (c.loop-o.o < 64) × (c.loop-o.o < outputs c.args.bytes.now) =
    let b = c.args.bytes.now in
    let p = c.requires in
    let v = p.valid in
    let s = c.counts-counts.ensures in
    let i = counts_inputs b s in
    let n = counts_outputs b s in
    let h : c.loop-o.o < outputs b = omega arith in
    let m = v.head.outputs_to in
    let z = p.lines_value.0 in
    let e = output_looked_up b c.args.last.now v p.wired c.loop-o.o c.counts-counts.result.inputs h i c.output_at.ensures c.wire_of-w.ensures in
    let w = wire_small b v (output_at b c.loop-o.o) (v.every_output c.loop-o.o h) in
    (e, omega arith, omega arith, first_small b v (gates b) (le_refl (gates b)), omega arith, h)
    in
    let t = told in let q = t.2 in let r = t.3 in let u = t.4 in omega arith

pub put_line-to-requires : goal.put_line-to-requires
put_line-to-requires c =
    let told : (c.wire_of-w.result ≡ text_wire c.args.bytes.now (output_at c.args.bytes.now c.loop-o.o)) × (c.wire_of-w.result < 3328) × (c.counts-counts.result.inputs + c.args.lines ≡ first_wire c.args.bytes.now (gates c.args.bytes.now)) × (first_wire c.args.bytes.now (gates c.args.bytes.now) ≤ 3328) × (c.loop-o.o < 64) × (c.loop-o.o < outputs c.args.bytes.now) =
    let b = c.args.bytes.now in
    let p = c.requires in
    let v = p.valid in
    let s = c.counts-counts.ensures in
    let i = counts_inputs b s in
    let n = counts_outputs b s in
    let h : c.loop-o.o < outputs b = omega arith in
    let m = v.head.outputs_to in
    let z = p.lines_value.0 in
    let e = output_looked_up b c.args.last.now v p.wired c.loop-o.o c.counts-counts.result.inputs h i c.output_at.ensures c.wire_of-w.ensures in
    let w = wire_small b v (output_at b c.loop-o.o) (v.every_output c.loop-o.o h) in
    (e, omega arith, omega arith, first_small b v (gates b) (le_refl (gates b)), omega arith, h)
    in
    let b = c.args.bytes.now in
    let p = c.requires in
    let t = told in
    let x = t.1 in
    let q = t.2 in
    let r = t.3 in
    let u = t.4 in
    let y = t.5 in
    let l = length-outputs b p.valid c.loop-o.o (omega arith) in
    let z = c.loop-o.invariant.place in
    (omega arith, lit≤ tt, lit≤ tt, omega arith, lit< tt, omega arith)

pub loop-o-preserved : goal.loop-o-preserved
loop-o-preserved c =
    let told : (c.wire_of-w.result ≡ text_wire c.args.bytes.now (output_at c.args.bytes.now c.loop-o.o)) × (c.wire_of-w.result < 3328) × (c.counts-counts.result.inputs + c.args.lines ≡ first_wire c.args.bytes.now (gates c.args.bytes.now)) × (first_wire c.args.bytes.now (gates c.args.bytes.now) ≤ 3328) × (c.loop-o.o < 64) × (c.loop-o.o < outputs c.args.bytes.now) =
    let b = c.args.bytes.now in
    let p = c.requires in
    let v = p.valid in
    let s = c.counts-counts.ensures in
    let i = counts_inputs b s in
    let n = counts_outputs b s in
    let h : c.loop-o.o < outputs b = omega arith in
    let m = v.head.outputs_to in
    let z = p.lines_value.0 in
    let e = output_looked_up b c.args.last.now v p.wired c.loop-o.o c.counts-counts.result.inputs h i c.output_at.ensures c.wire_of-w.ensures in
    let w = wire_small b v (output_at b c.loop-o.o) (v.every_output c.loop-o.o h) in
    (e, omega arith, omega arith, first_small b v (gates b) (le_refl (gates b)), omega arith, h)
    in
    let a = c.args in
    let b = a.bytes.now in
    let i = c.loop-o.invariant in
    let o = c.loop-o.o in
    let t = told in
    let e = c.put_line-to.ensures in
    let f = output_is b o t.0 (ap (λ (k : ℕ). k + o) t.2) in
    (rows_more a.out.now a.at (output_text b) o i (e.value ∙ ap (λ l. c.loop-o.to + length l) f) (e.out_after ∙ ap (λ l. laid c.loop-o.out c.loop-o.to l) f))

pub returns-clause-value : goal.returns-clause-value
returns-clause-value c =
    let a = c.args in
    let b = a.bytes.now in
    let w = c.loop-o.invariant in
    let n = counts_outputs b c.counts-counts.ensures in
    let z : c.loop-o.o ≡ outputs b = omega arith in
    w.place ∙ ap (λ (k : ℕ). a.at + length (joined k (output_text b))) z

pub returns-clause-out_after : goal.returns-clause-out_after
returns-clause-out_after c =
    let a = c.args in
    let b = a.bytes.now in
    let w = c.loop-o.invariant in
    let n = counts_outputs b c.counts-counts.ensures in
    let z : c.loop-o.o ≡ outputs b = omega arith in
    w.text ∙ ap (λ (k : ℕ). laid a.out.now a.at (joined k (output_text b))) z
