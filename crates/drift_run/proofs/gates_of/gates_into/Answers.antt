-- `drift_run::gates_of::gates_into` meets its contract: the loop over the gates.
-- Assumes nothing.
use mathlib.Core.Path.{refl, ap, ◌∙◌}
use Prim.Native.Nat.{◌≤◌}
use native.Mathlib.Omega.{arith}
use lib.ListN.{length}
use Rattle.circuit.specs.Form.{inputs, gates}
use Rattle.encrypted_run.proofs.Operands.{gates_are}
use Rattle.drift_run.specs.declared.by_way.Drifted.{Drifted}
use Rattle.drift_run.proofs.Drifts.{brought_none, gates_none, brought_more, gates_more, brought_end, gates_end}
use Rattle.drift_run.proofs.Told.{both_are}
use Rattle.drift_run.proofs.gates_of.gates_into.Goals as goal

pub loop-g-init : goal.loop-g-init
loop-g-init c =
    let fits : inputs c.args.bytes.now ≤ length c.args.drifts.now =
    let d = c.requires.drifts_length in omega (arith, d)
    in
    let g = c.args in
    (refl, brought_none g.p g.key.now g.bytes.now g.wires.now g.drifts.now fits, gates_none g.p g.key.now g.bytes.now g.wires.now g.drifts.now fits)

pub put_drift-told-requires : goal.put_drift-told-requires
put_drift-told-requires c =
    let l = c.loop-g in
    let e = gates_are c.args.bytes.now c.counts-shape.ensures in
    let t = c.loop-g-test.true in
    (rw l.invariant.0 c.requires, omega (arith, e, t))

pub loop-g-preserved : goal.loop-g-preserved
loop-g-preserved c =
    let fits : inputs c.args.bytes.now ≤ length c.args.drifts.now =
    let d = c.requires.drifts_length in omega (arith, d)
    in
    let g = c.args in
    let l = c.loop-g in
    let e = gates_are g.bytes.now c.counts-shape.ensures in
    let t = c.loop-g-test.true in
    let put = c.put_drift-told.ensures in (
      c.put_drift-told.auto.drifts ∙ l.invariant.0,
      brought_more g.p g.key.now g.bytes.now g.wires.now g.drifts.now fits l.g l.invariant.2 l.invariant.1 (ap (λ (d : Drifted). d.inside) put.told) (both_are l.inside c.put_drift-told.result.inside),
      put.written ∙ gates_more g.p g.key.now g.bytes.now g.wires.now g.drifts.now fits l.g l.invariant.2,
    )

pub returns-clause-told : goal.returns-clause-told
returns-clause-told c =
    let fits : inputs c.args.bytes.now ≤ length c.args.drifts.now =
    let d = c.requires.drifts_length in omega (arith, d)
    in
    let g = c.args in
    let l = c.loop-g in
    let e = gates_are g.bytes.now c.counts-shape.ensures in
    let t = c.loop-g-test.false in
    let end : gates g.bytes.now ≤ l.g = omega (arith, e, t) in
    brought_end g.p g.key.now g.bytes.now g.wires.now g.drifts.now fits (omega (arith, e)) end l.invariant.1

pub returns-clause-written : goal.returns-clause-written
returns-clause-written c =
    let fits : inputs c.args.bytes.now ≤ length c.args.drifts.now =
    let d = c.requires.drifts_length in omega (arith, d)
    in
    let g = c.args in
    let l = c.loop-g in
    let e = gates_are g.bytes.now c.counts-shape.ensures in
    let t = c.loop-g-test.false in
    let end : gates g.bytes.now ≤ l.g = omega (arith, e, t) in
    gates_end g.p g.key.now g.bytes.now g.wires.now g.drifts.now fits l.g (omega (arith, e)) end c.requires.drifts_length l.invariant.2
