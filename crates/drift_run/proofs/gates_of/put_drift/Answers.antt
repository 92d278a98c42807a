-- `drift_run::gates_of::put_drift` meets its contract: the drift that is told, stored in its place.
-- Assumes nothing.
use mathlib.Core.Path.{◌≡◌, sym, ap, ◌∙◌}
use Prim.Native.Nat.{ℕ, ◌+◌, ◌<◌}
use native.Mathlib.Omega.{arith}
use lib.ListN.{length, take}
use lib.Seq.{length-take-le}
use Rattle.circuit.specs.Form.{inputs}
use Rattle.encrypted_run.proofs.Operands.{inputs_are}
use Rattle.drift.specs.PrivateCircuit.{gate_brought_words}
use Rattle.drift.specs.PrivateShort.{short_gate}
use Rattle.drift_run.specs.declared.by_way.Drifted.{Drifted}
use Rattle.drift_run.specs.Private.{drifted}
use Rattle.drift_run.proofs.Lent.{own_in, own_to}
use Rattle.drift_run.proofs.Drifts.{drift_made}
use Rattle.drift_run.proofs.gates_of.put_drift.Goals as goal

pub overflow_add-own : goal.overflow_add-own
overflow_add-own c =
    let own : c.counts-shape.result.inputs + c.args.g ≡ inputs c.args.bytes.now + c.args.g =
    ap (λ (k : ℕ). k + c.args.g) (inputs_are c.args.bytes.now c.counts-shape.ensures)
    in
    let e = own in
    let h = own_to c.args.bytes.now c.requires.0.finished.valid c.args.g c.requires.1 in
    omega (arith, e, h)

pub slice_bounds-gate_told-end : goal.slice_bounds-gate_told-end
slice_bounds-gate_told-end c =
    let own : c.counts-shape.result.inputs + c.args.g ≡ inputs c.args.bytes.now + c.args.g =
    ap (λ (k : ℕ). k + c.args.g) (inputs_are c.args.bytes.now c.counts-shape.ensures)
    in
    let own-fits : c.counts-shape.result.inputs + c.args.g < length c.args.drifts.now =
    let e = own in
    let h = own_in c.args.bytes.now c.requires.0.finished.valid c.args.g c.requires.1 in
    let d = c.requires.0.drifts_length in
    omega (arith, e, h, d)
    in
    let h = own-fits in
    omega (arith, h)

pub slice_bounds-gate_told-end-2 : goal.slice_bounds-gate_told-end-2
slice_bounds-gate_told-end-2 c =
    let own : c.counts-shape.result.inputs + c.args.g ≡ inputs c.args.bytes.now + c.args.g =
    ap (λ (k : ℕ). k + c.args.g) (inputs_are c.args.bytes.now c.counts-shape.ensures)
    in
    let own-fits : c.counts-shape.result.inputs + c.args.g < length c.args.drifts.now =
    let e = own in
    let h = own_in c.args.bytes.now c.requires.0.finished.valid c.args.g c.requires.1 in
    let d = c.requires.0.drifts_length in
    omega (arith, e, h, d)
    in
    let h = own-fits in
    sym (length-take-le (c.counts-shape.result.inputs + c.args.g) c.args.drifts.now (omega (arith, h)))

pub offset_bounds-drifts-own : goal.offset_bounds-drifts-own
offset_bounds-drifts-own c =
    let own : c.counts-shape.result.inputs + c.args.g ≡ inputs c.args.bytes.now + c.args.g =
    ap (λ (k : ℕ). k + c.args.g) (inputs_are c.args.bytes.now c.counts-shape.ensures)
    in
    let e = own in
    let h = own_to c.args.bytes.now c.requires.0.finished.valid c.args.g c.requires.1 in
    omega (arith, e, h)

pub bounds-drifts-own : goal.bounds-drifts-own
bounds-drifts-own c =
    let own : c.counts-shape.result.inputs + c.args.g ≡ inputs c.args.bytes.now + c.args.g =
    ap (λ (k : ℕ). k + c.args.g) (inputs_are c.args.bytes.now c.counts-shape.ensures)
    in
    let own-fits : c.counts-shape.result.inputs + c.args.g < length c.args.drifts.now =
    let e = own in
    let h = own_in c.args.bytes.now c.requires.0.finished.valid c.args.g c.requires.1 in
    let d = c.requires.0.drifts_length in
    omega (arith, e, h, d)
    in
    own-fits

pub returns-clause-told : goal.returns-clause-told
returns-clause-told c =
    let own : c.counts-shape.result.inputs + c.args.g ≡ inputs c.args.bytes.now + c.args.g =
    ap (λ (k : ℕ). k + c.args.g) (inputs_are c.args.bytes.now c.counts-shape.ensures)
    in
    let g = c.args in
    let e = own in
    let there = ap (λ (k : ℕ). drifted (short_gate g.p g.key.now g.bytes.now g.wires.now (take k g.drifts.now) g.g) (gate_brought_words g.p g.key.now g.bytes.now g.wires.now (take k g.drifts.now) g.g)) e in
    c.gate_told-told.ensures ∙ there

pub returns-clause-written : goal.returns-clause-written
returns-clause-written c =
    let own : c.counts-shape.result.inputs + c.args.g ≡ inputs c.args.bytes.now + c.args.g =
    ap (λ (k : ℕ). k + c.args.g) (inputs_are c.args.bytes.now c.counts-shape.ensures)
    in
    let g = c.args in
    let e = own in
    let d = c.requires.0.drifts_length in
    let h = own_in g.bytes.now c.requires.0.finished.valid g.g c.requires.1 in
    let there = ap (λ (k : ℕ). drifted (short_gate g.p g.key.now g.bytes.now g.wires.now (take k g.drifts.now) g.g) (gate_brought_words g.p g.key.now g.bytes.now g.wires.now (take k g.drifts.now) g.g)) e in
    drift_made g.p g.key.now g.bytes.now g.wires.now g.drifts.now g.g e (omega (arith, h, d)) (ap (λ (t : Drifted). t.drift) c.gate_told-told.ensures)
