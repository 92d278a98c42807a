-- `encrypted_run::steps::one_on` meets its contract: the gate's ciphertext, then its place.
-- Assumes nothing.
use mathlib.Core.Path.{ap, ◌∙◌}
use native.Mathlib.Omega.{arith}
use lib.ListN.{length}
use Rattle.circuit.specs.Form.{wires}
use Rattle.ways.proofs.Ciphers.{wire_within}
use Rattle.encrypted_run.proofs.Operands.{inputs_are}
use Rattle.encrypted_run.proofs.Wires.{gate_length, step_made}
use Prim.Native.Nat.{◌+◌}
use Rattle.encrypted_run.proofs.steps.one_on.Goals as goal

pub overflow_add-own : goal.overflow_add-own
overflow_add-own c =
    let h = c.requires.0.valid.head in
    let i = inputs_are c.args.bytes.now c.counts-shape.ensures in
    let a = h.inputs_to in
    let g = h.gates_to in
    let l = c.requires.1 in
    omega (arith, i, a, g, l)

pub put_at-requires : goal.put_at-requires
put_at-requires c =
    let g = c.args in
    let b = g.bytes.now in
    let i = inputs_are b c.counts-shape.ensures in
    let l = c.requires.1 in (
      ap length c.gate_into.ensures ∙ gate_length g.p g.ksk.now g.bsk.now b _ g.g,
      rw c.requires.0.wires_length (wire_within g.p (c.counts-shape.result.inputs + g.g) (wires b) (omega (arith, i, l))),
    )

pub returns : goal.returns
returns c =
    let g = c.args in
    step_made g.p g.ksk.now g.bsk.now g.bytes.now g.wires.now g.g (inputs_are g.bytes.now c.counts-shape.ensures) c.gate_into.ensures c.put_at.ensures
