-- `encrypted_run::lengths_of` meets its contract: the counts are fields of bytes, so that nothing passes 64 bits.
-- Assumes nothing.
use mathlib.Core.Path.{ap}
use Prim.Native.Nat.{ℕ, ◌+◌, ◌*◌, ◌<◌}
use native.Mathlib.Omega.{arith}
use Rattle.circuit.specs.declared.Shape.{Shape}
use Rattle.circuit.specs.Form.{field_at, counts_of}
use Rattle.encrypted_run.specs.declared.Lengths.{Lengths}
use Rattle.encrypted_run.specs.Refusals.{lengths_of}
use Rattle.encrypted_run.proofs.Operands.{inputs_are, gates_are, outputs_are, field_below, words_fit}
use Rattle.encrypted_run.proofs.lengths_of.Goals as goal

-- what is made of them
abbrev from_counts : ℕ → Shape → Lengths
from_counts m s = record { inputs = s.inputs; wires = s.inputs + s.gates; ins = s.inputs * m; held = (s.inputs + s.gates) * m; outs = s.outputs * m }

pub overflow_add-wires : goal.overflow_add-wires
overflow_add-wires c =
    let field : (i : ℕ) → field_at c.args.bytes.now i < 65536 =
    λ i. field_below c.args.bytes.now i (let h = c.type_inv.bytes i in omega (arith, h)) (let h = c.type_inv.bytes (i + 1) in omega (arith, h))
    in
    let ins : c.counts-shape.result.inputs < 65536 =
    rw (inputs_are c.args.bytes.now c.counts-shape.ensures) (field 5)
    in
    let gates : c.counts-shape.result.gates < 65536 =
    rw (gates_are c.args.bytes.now c.counts-shape.ensures) (field 7)
    in
    omega (arith, ins, gates)

pub overflow_mul-result : goal.overflow_mul-result
overflow_mul-result c =
    let field : (i : ℕ) → field_at c.args.bytes.now i < 65536 =
    λ i. field_below c.args.bytes.now i (let h = c.type_inv.bytes i in omega (arith, h)) (let h = c.type_inv.bytes (i + 1) in omega (arith, h))
    in
    let ins : c.counts-shape.result.inputs < 65536 =
    rw (inputs_are c.args.bytes.now c.counts-shape.ensures) (field 5)
    in
    let i = ins in
    let w = words_fit c.counts-shape.result.inputs c.args.p.n (omega (arith, i)) (omega arith) in
    omega (arith, w)

pub overflow_mul-result-2 : goal.overflow_mul-result-2
overflow_mul-result-2 c =
    let field : (i : ℕ) → field_at c.args.bytes.now i < 65536 =
    λ i. field_below c.args.bytes.now i (let h = c.type_inv.bytes i in omega (arith, h)) (let h = c.type_inv.bytes (i + 1) in omega (arith, h))
    in
    let ins : c.counts-shape.result.inputs < 65536 =
    rw (inputs_are c.args.bytes.now c.counts-shape.ensures) (field 5)
    in
    let gates : c.counts-shape.result.gates < 65536 =
    rw (gates_are c.args.bytes.now c.counts-shape.ensures) (field 7)
    in
    let i = ins in
    let g = gates in
    let w = words_fit (c.counts-shape.result.inputs + c.counts-shape.result.gates) c.args.p.n (omega (arith, i, g)) (omega arith) in
    omega (arith, w)

pub overflow_mul-result-3 : goal.overflow_mul-result-3
overflow_mul-result-3 c =
    let field : (i : ℕ) → field_at c.args.bytes.now i < 65536 =
    λ i. field_below c.args.bytes.now i (let h = c.type_inv.bytes i in omega (arith, h)) (let h = c.type_inv.bytes (i + 1) in omega (arith, h))
    in
    let outs : c.counts-shape.result.outputs < 65536 =
    rw (outputs_are c.args.bytes.now c.counts-shape.ensures) (field 9)
    in
    let o = outs in
    let w = words_fit c.counts-shape.result.outputs c.args.p.n (omega (arith, o)) (omega arith) in
    omega (arith, w)

pub returns : goal.returns
unfolding lengths_of counts_of
returns c =
    let m = c.args.p.n + 1 in
    ap (from_counts m) c.counts-shape.ensures
