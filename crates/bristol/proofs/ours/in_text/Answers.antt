-- `bristol::ours::in_text` meets its contract. The loop's invariant: wire w before gate j stands for what the wire at hand stands for before the gates that are left.
-- Assumes nothing.
use mathlib.Core.Path.{ap, ◌∙◌}
use Prim.Native.Nat.{ℕ, ◌+◌}
use native.Mathlib.Omega.{arith}
use Rattle.bristol.proofs.BehindSteps.{left_own, left_small, left_step, left_none}
use Rattle.bristol.proofs.ours.in_text.Goals as goal

pub overflow_add-result : goal.overflow_add-result
overflow_add-result c =
    let a = c.args in
    let v = c.loop in
    let e = c.requires.0 in
    let s = left_small a.text.now a.j a.w v.wire v.count v.at v.counter c.requires.1 v.invariant (omega arith) c.line_back-g.ensures c.made_before-count.ensures c.own.ensures in
    omega arith

pub returns-then-own : goal.returns-then-own
returns-then-own c =
    let a = c.args in
    let v = c.loop in
    ap (λ (n : ℕ). n + c.made_before-count.result) c.requires.0
    ∙ left_own a.text.now a.j a.w v.wire v.count v.at v.counter c.requires.1 v.invariant (omega arith) c.line_back-g.ensures c.made_before-count.ensures c.own.ensures c.if-own.true

pub loop-preserved : goal.loop-preserved
loop-preserved c =
    let a = c.args in
    let v = c.loop in
    left_step a.text.now a.j a.w v.wire v.count v.at v.counter c.requires.1 v.invariant (omega arith) c.line_back-g.ensures c.made_before-count.ensures c.own.ensures c.if-own.false
    c.wire_before-wire.ensures

pub returns : goal.returns
returns c =
    let v = c.loop in
    let a = c.args in
    left_none a.text.now a.j a.w v.wire v.count v.at v.counter v.invariant (omega arith)
