-- `bristol_export::whole::last_wires` meets its contract. The loop's invariant: the lines of the gates passed are counted, and each of them has its last wire in the table.
-- Assumes nothing.
use mathlib.Core.Path.{◌≡◌, ap, ◌∙◌}
use Prim.Native.Nat.{◌+◌, ◌≤◌, ◌-◌}
use native.Mathlib.Omega.{arith}
use Rattle.circuit.specs.Form.{gates, kind_at}
use Rattle.report.proofs.Pieces.{counts_inputs, counts_gates}
use Rattle.bristol_export.specs.Steps.{count}
use Rattle.bristol_export.specs.Text.{lines_to}
use Rattle.bristol_export.proofs.Wires.{lines_none, lines_more, lines_to_lem, last_is, table_more, kind_there}
use Rattle.bristol_export.proofs.whole.last_wires.Goals as goal

pub loop-g-init : goal.loop-g-init
loop-g-init c = (lines_none c.args.bytes.now, λ k l. absurd (let q : ⊥ = omega arith in q))

pub overflow_add-lines : goal.overflow_add-lines
overflow_add-lines c =
    let kind_is : (c.kind_at.result ≡ kind_at c.args.bytes.now c.loop-g.g) × (kind_at c.args.bytes.now c.loop-g.g ≤ 13) × (c.loop-g.lines ≤ 3072) × (c.counts-counts.result.inputs ≤ 256) =
    let b = c.args.bytes.now in
    let v = c.requires.valid in
    let s = c.counts-counts.ensures in
    let n = counts_gates b s in
    let i = counts_inputs b s in
    let hg = v.head.gates_to in
    let hi = v.head.inputs_to in
    let e = c.loop-g.invariant.0 in
    let l = lines_to_lem b v c.loop-g.g (omega arith) in
    (kind_there b c.loop-g.g (omega arith) c.kind_at.ensures, (v.every_gate c.loop-g.g (omega arith)).kind_to, omega arith, omega arith)
    in
    let k = kind_is in omega arith

pub overflow_add-last : goal.overflow_add-last
overflow_add-last c =
    let kind_is : (c.kind_at.result ≡ kind_at c.args.bytes.now c.loop-g.g) × (kind_at c.args.bytes.now c.loop-g.g ≤ 13) × (c.loop-g.lines ≤ 3072) × (c.counts-counts.result.inputs ≤ 256) =
    let b = c.args.bytes.now in
    let v = c.requires.valid in
    let s = c.counts-counts.ensures in
    let n = counts_gates b s in
    let i = counts_inputs b s in
    let hg = v.head.gates_to in
    let hi = v.head.inputs_to in
    let e = c.loop-g.invariant.0 in
    let l = lines_to_lem b v c.loop-g.g (omega arith) in
    (kind_there b c.loop-g.g (omega arith) c.kind_at.ensures, (v.every_gate c.loop-g.g (omega arith)).kind_to, omega arith, omega arith)
    in
    let k = kind_is in omega arith

pub offset_bounds-last-g : goal.offset_bounds-last-g
offset_bounds-last-g c =
    let n = counts_gates c.args.bytes.now c.counts-counts.ensures in
    let h = c.requires.valid.head.gates_to in
    omega arith

pub bounds-last-g : goal.bounds-last-g
bounds-last-g c = let n = counts_gates c.args.bytes.now c.counts-counts.ensures in omega arith

pub loop-g-preserved : goal.loop-g-preserved
loop-g-preserved c =
    let kind_is : (c.kind_at.result ≡ kind_at c.args.bytes.now c.loop-g.g) × (kind_at c.args.bytes.now c.loop-g.g ≤ 13) × (c.loop-g.lines ≤ 3072) × (c.counts-counts.result.inputs ≤ 256) =
    let b = c.args.bytes.now in
    let v = c.requires.valid in
    let s = c.counts-counts.ensures in
    let n = counts_gates b s in
    let i = counts_inputs b s in
    let hg = v.head.gates_to in
    let hi = v.head.inputs_to in
    let e = c.loop-g.invariant.0 in
    let l = lines_to_lem b v c.loop-g.g (omega arith) in
    (kind_there b c.loop-g.g (omega arith) c.kind_at.ensures, (v.every_gate c.loop-g.g (omega arith)).kind_to, omega arith, omega arith)
    in
    let b = c.args.bytes.now in
    let s = c.counts-counts.ensures in
    let i = c.loop-g.invariant in
    let g = c.loop-g.g in
    let n = counts_gates b s in
    let d = c.count_of-lines.ensures.0 ∙ ap count kind_is.0 in
    let m = lines_more b g in
    (omega arith, table_more b c.loop-g.last g (c.counts-counts.result.inputs + (c.loop-g.lines + c.count_of-lines.result) - 1) (omega arith) (last_is b g c.counts-counts.result.inputs c.loop-g.lines c.count_of-lines.result (counts_inputs b s) i.0 d) i.1)

pub returns-clause-value : goal.returns-clause-value
returns-clause-value c =
    let b = c.args.bytes.now in
    let n = counts_gates b c.counts-counts.ensures in
    let i = c.loop-g.invariant in
    let e : c.loop-g.g ≡ gates b = omega arith in
    i.0 ∙ ap (lines_to b) e

pub returns-clause-wired : goal.returns-clause-wired
returns-clause-wired c =
    let b = c.args.bytes.now in
    let n = counts_gates b c.counts-counts.ensures in
    let i = c.loop-g.invariant in
    let e : c.loop-g.g ≡ gates b = omega arith in
    record { last = λ g l. i.1 g (omega arith) }
