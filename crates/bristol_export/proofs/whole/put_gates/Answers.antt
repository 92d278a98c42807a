-- `bristol_export::whole::put_gates` meets its contract. The loop's invariant: the lines of the gates passed are laid, and the next wire is known.
-- Assumes nothing.
use mathlib.Core.Path.{◌≡◌, ap, ◌∙◌}
use Prim.Native.Nat.{ℕ, ◌+◌, ◌≤◌}
use native.Mathlib.Omega.{arith}
use lib.ListN.{length}
use Rattle.ring.specs.Lists.{joined}
use Rattle.circuit.specs.Form.{gates, kind_at}
use Rattle.report.proofs.Pieces.{counts_inputs, counts_gates}
use Rattle.bristol_export.specs.Steps.{count}
use Rattle.bristol_export.specs.Private.{laid}
use Rattle.bristol_export.specs.Text.{gate_text}
use Rattle.bristol_export.proofs.Laid.{rows_none, rows_more}
use Rattle.bristol_export.proofs.Wires.{lines_none, lines_more, kind_there, first_small}
use Rattle.bristol_export.proofs.Lengths.{length-gates}
use Rattle.bristol_export.proofs.whole.put_gates.Goals as goal

pub loop-g-init : goal.loop-g-init
loop-g-init c =
    let a = c.args in
    let b = a.bytes.now in
    let i = counts_inputs b c.counts-counts.ensures in
    let z = lines_none b in
    (omega arith, rows_none a.out.now a.at (gate_text b))

pub overflow_add-n : goal.overflow_add-n
overflow_add-n c =
    let b = c.args.bytes.now in
    let n = counts_gates b c.counts-counts.ensures in
    let f = first_small b c.requires.valid c.loop-g.g (omega arith) in
    let e = c.loop-g.invariant.0 in
    omega arith

pub loop-g-preserved : goal.loop-g-preserved
loop-g-preserved c =
    let kind_is : (c.kind_at.result ≡ kind_at c.args.bytes.now c.loop-g.g) × (kind_at c.args.bytes.now c.loop-g.g ≤ 13) =
    let b = c.args.bytes.now in
    let n = counts_gates b c.counts-counts.ensures in
    (kind_there b c.loop-g.g (omega arith) c.kind_at.ensures, (c.requires.valid.every_gate c.loop-g.g (omega arith)).kind_to)
    in
    let a = c.args in
    let b = a.bytes.now in
    let i = c.loop-g.invariant in
    let d = c.count_of-n.ensures.0 ∙ ap count kind_is.0 in
    let m = lines_more b c.loop-g.g in
    let z = i.0 in
    let e = c.put_gate-to.ensures in
    (omega arith, rows_more a.out.now a.at (gate_text b) c.loop-g.g i.1 e.value e.out_after)

pub put_gate-to-requires-clause-g_bound : goal.put_gate-to-requires-clause-g_bound
put_gate-to-requires-clause-g_bound c =
    let b = c.args.bytes.now in
    let p = c.requires in
    let n = counts_gates b c.counts-counts.ensures in
    let i = c.loop-g.invariant in
    let l = length-gates b p.valid c.loop-g.g (omega arith) in
    let h = p.valid.head.gates_to in
    let z = i.1.place in
    (omega arith, i.0, omega arith)

pub returns-clause-value : goal.returns-clause-value
returns-clause-value c =
    let a = c.args in
    let b = a.bytes.now in
    let w = c.loop-g.invariant.1 in
    let n = counts_gates b c.counts-counts.ensures in
    let z : c.loop-g.g ≡ gates b = omega arith in
    w.place ∙ ap (λ (k : ℕ). a.at + length (joined k (gate_text b))) z

pub returns-clause-out_after : goal.returns-clause-out_after
returns-clause-out_after c =
    let a = c.args in
    let b = a.bytes.now in
    let w = c.loop-g.invariant.1 in
    let n = counts_gates b c.counts-counts.ensures in
    let z : c.loop-g.g ≡ gates b = omega arith in
    w.text ∙ ap (λ (k : ℕ). laid a.out.now a.at (joined k (gate_text b))) z
