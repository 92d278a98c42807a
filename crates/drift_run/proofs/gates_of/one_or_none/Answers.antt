-- `drift_run::gates_of::one_or_none` meets its contract: by whether there is a gate g.
-- Assumes nothing.
use Rattle.std.proofs.Common.{◌∙◌}
use native.Mathlib.Omega.{arith}
use borrow.Author.Tests.{lt-ltb, le-ltb}
use Rattle.circuit.specs.Form.{gates}
use Rattle.encrypted_run.proofs.Operands.{gates_are}
use Rattle.drift_run.proofs.gates_of.one_or_none.Goals as goal

pub one-requires : goal.one-requires
one-requires c =
    let e = gates_are c.args.bytes.now c.counts.ensures in
    let t = c.if-g-counts.false in
    (c.requires, omega (arith, e, t))

pub returns-then-g-counts-clause-told : goal.returns-then-g-counts-clause-told
returns-then-g-counts-clause-told c =
    let g = c.args in
    let e = gates_are g.bytes.now c.counts.ensures in
    let t = c.if-g-counts.true in
    let b = le-ltb g.g (gates g.bytes.now) (omega (arith, e, t)) in
    c.gathered.ensures ∙ rw b

pub returns-then-g-counts-clause-held : goal.returns-then-g-counts-clause-held
returns-then-g-counts-clause-held c =
    let g = c.args in
    let e = gates_are g.bytes.now c.counts.ensures in
    let t = c.if-g-counts.true in
    let b = le-ltb g.g (gates g.bytes.now) (omega (arith, e, t)) in
    rw b

pub returns-then-g-counts-clause-written : goal.returns-then-g-counts-clause-written
returns-then-g-counts-clause-written c =
    let g = c.args in
    let e = gates_are g.bytes.now c.counts.ensures in
    let t = c.if-g-counts.true in
    let b = le-ltb g.g (gates g.bytes.now) (omega (arith, e, t)) in
    rw b

pub returns-clause-told : goal.returns-clause-told
returns-clause-told c =
    let g = c.args in
    let e = gates_are g.bytes.now c.counts.ensures in
    let t = c.if-g-counts.false in
    let b = lt-ltb g.g (gates g.bytes.now) (omega (arith, e, t)) in
    c.one.ensures.told ∙ rw b

pub returns-clause-held : goal.returns-clause-held
returns-clause-held c =
    let g = c.args in
    let e = gates_are g.bytes.now c.counts.ensures in
    let t = c.if-g-counts.false in
    let b = lt-ltb g.g (gates g.bytes.now) (omega (arith, e, t)) in
    c.one.ensures.held ∙ rw b

pub returns-clause-written : goal.returns-clause-written
returns-clause-written c =
    let g = c.args in
    let e = gates_are g.bytes.now c.counts.ensures in
    let t = c.if-g-counts.false in
    let b = lt-ltb g.g (gates g.bytes.now) (omega (arith, e, t)) in
    c.one.ensures.written ∙ rw b
