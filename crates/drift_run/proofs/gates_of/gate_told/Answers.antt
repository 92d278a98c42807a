-- `drift_run::gates_of::gate_told` meets its contract: the gate's fields are read off the bytes, and its operands lie among the wires.
-- Assumes nothing.
use mathlib.Core.Path.{◌≡◌, ap, ◌∙◌}
use Prim.Native.Nat.{ℕ, ◌+◌}
use native.Mathlib.Omega.{arith}
use lib.Dec.{lit<}
use lib.ListN.{length}
use Rattle.circuit.specs.Form.{inputs, gates, kind_at, operand_at}
use Rattle.ways.specs.Ways.{way_of}
use Rattle.ways.specs.Private.{Within}
use Rattle.encrypted_run.proofs.Operands.{inputs_are, there}
use Rattle.drift_run.proofs.Lent.{operand_in, own_in, own_to, wire_in, read_length, told_gate}
use Rattle.drift_run.proofs.gates_of.gate_told.Goals as goal

pub overflow_add-own : goal.overflow_add-own
overflow_add-own c =
    let own : c.counts-shape.result.inputs + c.args.g ≡ inputs c.args.bytes.now + c.args.g =
    ap (λ (k : ℕ). k + c.args.g) (inputs_are c.args.bytes.now c.counts-shape.ensures)
    in
    let e = own in
    let h = own_to c.args.bytes.now c.requires.0.valid c.args.g c.requires.1 in
    omega (arith, e, h)

pub way_drift-requires : goal.way_drift-requires
way_drift-requires c =
    let first : c.operand_at-x.result ≡ operand_at c.args.bytes.now c.args.g 0 =
    there c.args.g (gates c.args.bytes.now) (operand_at c.args.bytes.now c.args.g 0) c.requires.1 c.operand_at-x.ensures
    in
    let in-first : Within c.args.p c.operand_at-x.result (length c.args.wires.now) =
    let v = c.requires.0.valid in
    wire_in c.args.bytes.now v c.args.p (operand_at c.args.bytes.now c.args.g 0) (operand_in c.args.bytes.now v c.args.g 0 c.requires.1 (lit< tt)) first c.requires.0.wires_length
    in
    let second : c.operand_at-y.result ≡ operand_at c.args.bytes.now c.args.g 1 =
    there c.args.g (gates c.args.bytes.now) (operand_at c.args.bytes.now c.args.g 1) c.requires.1 c.operand_at-y.ensures
    in
    let in-second : Within c.args.p c.operand_at-y.result (length c.args.wires.now) =
    let v = c.requires.0.valid in
    wire_in c.args.bytes.now v c.args.p (operand_at c.args.bytes.now c.args.g 1) (operand_in c.args.bytes.now v c.args.g 1 c.requires.1 (lit< tt)) second c.requires.0.wires_length
    in
    let third : c.operand_at-z.result ≡ operand_at c.args.bytes.now c.args.g 2 =
    there c.args.g (gates c.args.bytes.now) (operand_at c.args.bytes.now c.args.g 2) c.requires.1 c.operand_at-z.ensures
    in
    let in-third : Within c.args.p c.operand_at-z.result (length c.args.wires.now) =
    let v = c.requires.0.valid in
    wire_in c.args.bytes.now v c.args.p (operand_at c.args.bytes.now c.args.g 2) (operand_in c.args.bytes.now v c.args.g 2 c.requires.1 (lit< tt)) third c.requires.0.wires_length
    in
    let own : c.counts-shape.result.inputs + c.args.g ≡ inputs c.args.bytes.now + c.args.g =
    ap (λ (k : ℕ). k + c.args.g) (inputs_are c.args.bytes.now c.counts-shape.ensures)
    in
    let in-own : Within c.args.p (c.counts-shape.result.inputs + c.args.g) (length c.args.wires.now) =
    let v = c.requires.0.valid in
    wire_in c.args.bytes.now v c.args.p (inputs c.args.bytes.now + c.args.g) (own_in c.args.bytes.now v c.args.g c.requires.1) own c.requires.0.wires_length
    in
    let p = c.args.p in
    let ws = c.args.wires.now in (
      c.requires.0.secret,
      read_length p ws _ in-first (rw c.p.view_is at c.ciphertext.ensures),
      read_length p ws _ in-second (rw c.p.view_is at c.ciphertext-2.ensures),
      read_length p ws _ in-third (rw c.p.view_is at c.ciphertext-3.ensures),
      read_length p ws _ in-own (rw c.p.view_is at c.ciphertext-4.ensures),
    )

pub returns : goal.returns
returns c =
    let way : c.way_of-way.result ≡ way_of (kind_at c.args.bytes.now c.args.g) =
    c.way_of-way.ensures ∙ ap way_of (there c.args.g (gates c.args.bytes.now) (kind_at c.args.bytes.now c.args.g) c.requires.1 c.kind_at.ensures)
    in
    let first : c.operand_at-x.result ≡ operand_at c.args.bytes.now c.args.g 0 =
    there c.args.g (gates c.args.bytes.now) (operand_at c.args.bytes.now c.args.g 0) c.requires.1 c.operand_at-x.ensures
    in
    let second : c.operand_at-y.result ≡ operand_at c.args.bytes.now c.args.g 1 =
    there c.args.g (gates c.args.bytes.now) (operand_at c.args.bytes.now c.args.g 1) c.requires.1 c.operand_at-y.ensures
    in
    let third : c.operand_at-z.result ≡ operand_at c.args.bytes.now c.args.g 2 =
    there c.args.g (gates c.args.bytes.now) (operand_at c.args.bytes.now c.args.g 2) c.requires.1 c.operand_at-z.ensures
    in
    let own : c.counts-shape.result.inputs + c.args.g ≡ inputs c.args.bytes.now + c.args.g =
    ap (λ (k : ℕ). k + c.args.g) (inputs_are c.args.bytes.now c.counts-shape.ensures)
    in
    let g = c.args in
    told_gate g.p g.key.now g.bytes.now g.wires.now g.before.now g.g
    way first second third own
    (rw c.p.view_is at c.ciphertext.ensures) (rw c.p.view_is at c.ciphertext-2.ensures) (rw c.p.view_is at c.ciphertext-3.ensures) (rw c.p.view_is at c.ciphertext-4.ensures)
    c.drift_at.ensures c.drift_at-2.ensures c.drift_at-3.ensures c.way_drift.ensures
