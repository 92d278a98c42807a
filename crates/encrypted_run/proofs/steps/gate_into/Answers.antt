-- `encrypted_run::steps::gate_into` meets its contract: the gate's fields are read off the bytes, and its operands lie among the wires before it.
-- Assumes nothing.
use mathlib.Core.Path.{◌≡◌, sym, ap, ap₂, ◌∙◌}
use Prim.Native.Nat.{ℕ, ◌+◌, ◌*◌}
use native.Mathlib.Omega.{arith}
use lib.ListN.{length, take}
use lib.Seq.{length-take-le}
use Rattle.circuit.specs.Form.{inputs, gates, kind_at, operand_at}
use Rattle.ways.specs.Ways.{way_of}
use Rattle.ways.proofs.Ciphers.{words_to}
use Rattle.encrypted_run.specs.Run.{gate_cipher}
use Rattle.encrypted_run.proofs.Operands.{inputs_are, there, gate_made}
use Rattle.encrypted_run.proofs.Wires.{fits}
use Rattle.encrypted_run.proofs.steps.gate_into.Goals as goal

pub overflow_add-end : goal.overflow_add-end
overflow_add-end c =
    let h = c.requires.0.valid.head in
    let i = inputs_are c.args.bytes.now c.counts-shape.ensures in
    let a = h.inputs_to in
    let g = h.gates_to in
    let l = c.requires.1 in
    omega (arith, i, a, g, l)

pub overflow_mul-end : goal.overflow_mul-end
overflow_mul-end c =
    let before-own : (c.counts-shape.result.inputs + c.args.g) * length c.args.out.now ≡ (inputs c.args.bytes.now + c.args.g) * (c.args.p.n + 1) =
    ap₂ (λ (i m : ℕ). (i + c.args.g) * m) (inputs_are c.args.bytes.now c.counts-shape.ensures) c.requires.2
    in
    let h = c.requires.0.valid.head in
    let a = h.inputs_to in
    let g = h.gates_to in
    let l = c.requires.1 in
    let w = words_to c.args.p (inputs c.args.bytes.now + c.args.g) c.requires.0.keys.good (omega (arith, a, g, l)) in
    let e = before-own in
    omega (arith, e, w)

pub slice_bounds-before-end : goal.slice_bounds-before-end
slice_bounds-before-end c =
    let before-own : (c.counts-shape.result.inputs + c.args.g) * length c.args.out.now ≡ (inputs c.args.bytes.now + c.args.g) * (c.args.p.n + 1) =
    ap₂ (λ (i m : ℕ). (i + c.args.g) * m) (inputs_are c.args.bytes.now c.counts-shape.ensures) c.requires.2
    in
    let lent : let end = (c.counts-shape.result.inputs + c.args.g) * length c.args.out.now in length (take end c.args.wires.now) ≡ end =
    let e = before-own in
    let l = c.requires.1 in
    let f = fits c.args.p c.args.bytes.now c.args.g (omega (arith, l)) in
    let w = c.requires.0.wires_length in
    length-take-le ((c.counts-shape.result.inputs + c.args.g) * length c.args.out.now) c.args.wires.now (omega (arith, e, f, w))
    in
    sym lent

pub returns : goal.returns
returns c =
    let before-own : (c.counts-shape.result.inputs + c.args.g) * length c.args.out.now ≡ (inputs c.args.bytes.now + c.args.g) * (c.args.p.n + 1) =
    ap₂ (λ (i m : ℕ). (i + c.args.g) * m) (inputs_are c.args.bytes.now c.counts-shape.ensures) c.requires.2
    in
    let lent : let end = (c.counts-shape.result.inputs + c.args.g) * length c.args.out.now in length (take end c.args.wires.now) ≡ end =
    let e = before-own in
    let l = c.requires.1 in
    let f = fits c.args.p c.args.bytes.now c.args.g (omega (arith, l)) in
    let w = c.requires.0.wires_length in
    length-take-le ((c.counts-shape.result.inputs + c.args.g) * length c.args.out.now) c.args.wires.now (omega (arith, e, f, w))
    in
    let g = c.args in
    let b = g.bytes.now in
    let h = c.requires in
    let end = (c.counts-shape.result.inputs + g.g) * length g.out.now in
    let n = gates b in
    gate_made g.p g.ksk.now g.bsk.now b (take end g.wires.now) g.out.now h.0.valid g.g h.0.keys h.2 h.1 (lent ∙ before-own)
    (c.way_of-way.ensures ∙ ap way_of (there g.g n (kind_at b g.g) h.1 c.kind_at.ensures))
    (there g.g n (operand_at b g.g 0) h.1 c.operand_at.ensures) (there g.g n (operand_at b g.g 1) h.1 c.operand_at-2.ensures) (there g.g n (operand_at b g.g 2) h.1 c.operand_at-3.ensures)
    c.ciphertext-x.ensures c.ciphertext-y.ensures c.ciphertext-z.ensures c.run_way.ensures.written
    ∙ ap (λ (k : ℕ). gate_cipher g.p g.ksk.now g.bsk.now b (take k g.wires.now) g.g) before-own
