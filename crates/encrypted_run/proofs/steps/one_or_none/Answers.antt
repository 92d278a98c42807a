-- `encrypted_run::steps::one_or_none` meets its contract: by whether there is a gate g.
-- Assumes nothing.
use native.Mathlib.Omega.{arith}
use borrow.Author.Tests.{lt-ltb, le-ltb}
use Rattle.circuit.specs.Form.{gates}
use Rattle.encrypted_run.proofs.Operands.{gates_are}
use Rattle.encrypted_run.proofs.steps.one_or_none.Goals as goal

pub one-requires : goal.one-requires
one-requires c =
    let e = gates_are c.args.bytes.now c.counts-shape.ensures in
    let t = c.if-g-shape.true in
    (c.requires, omega (arith, e, t))

pub returns-then-g-shape : goal.returns-then-g-shape
returns-then-g-shape c =
    let e = gates_are c.args.bytes.now c.counts-shape.ensures in
    let t = c.if-g-shape.true in
    rw (lt-ltb c.args.g (gates c.args.bytes.now) (omega (arith, e, t))) c.one.ensures

pub returns-else-g-shape : goal.returns-else-g-shape
returns-else-g-shape c =
    let e = gates_are c.args.bytes.now c.counts-shape.ensures in
    let t = c.if-g-shape.false in
    rw (le-ltb c.args.g (gates c.args.bytes.now) (omega (arith, e, t)))
