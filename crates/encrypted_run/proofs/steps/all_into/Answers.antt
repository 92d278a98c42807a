-- `encrypted_run::steps::all_into` meets its contract: each turn puts one more gate's ciphertext behind those before it.
-- Assumes nothing.
use mathlib.Core.Path.{refl, ◌∙◌}
use Prim.Native.Nat.{◌+◌, ◌*◌, ◌≤◌}
use native.Mathlib.Omega.{arith}
use lib.ListN.{length}
use Rattle.circuit.specs.Form.{inputs}
use Rattle.encrypted_run.proofs.Operands.{gates_are}
use Rattle.encrypted_run.proofs.Wires.{inputs_fit, run_none, run_more, run_end}
use Rattle.encrypted_run.proofs.steps.all_into.Goals as goal

pub loop-g-init : goal.loop-g-init
loop-g-init c =
    let within : inputs c.args.bytes.now * (c.args.p.n + 1) ≤ length c.args.wires.now =
    rw c.requires.wires_length (inputs_fit c.args.p c.args.bytes.now)
    in
    let g = c.args in
    (refl, run_none g.p g.ksk.now g.bsk.now g.bytes.now g.wires.now within)

pub one-requires : goal.one-requires
one-requires c =
    let l = c.loop-g in
    let e = gates_are c.args.bytes.now c.counts-shape.ensures in
    (rw l.invariant.0 c.requires, omega (arith, e))

pub loop-g-preserved : goal.loop-g-preserved
loop-g-preserved c =
    let within : inputs c.args.bytes.now * (c.args.p.n + 1) ≤ length c.args.wires.now =
    rw c.requires.wires_length (inputs_fit c.args.p c.args.bytes.now)
    in
    let g = c.args in
    let l = c.loop-g in (
      c.one.auto.wires ∙ l.invariant.0,
      c.one.ensures ∙ run_more g.p g.ksk.now g.bsk.now g.bytes.now g.wires.now within l.g l.invariant.1,
    )

pub returns : goal.returns
returns c =
    let within : inputs c.args.bytes.now * (c.args.p.n + 1) ≤ length c.args.wires.now =
    rw c.requires.wires_length (inputs_fit c.args.p c.args.bytes.now)
    in
    let g = c.args in
    let l = c.loop-g in
    let e = gates_are g.bytes.now c.counts-shape.ensures in
    run_end g.p g.ksk.now g.bsk.now g.bytes.now g.wires.now within l.g (omega (arith, e)) (omega (arith, e)) c.requires.wires_length l.invariant.1
