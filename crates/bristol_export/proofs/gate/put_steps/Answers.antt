-- `bristol_export::gate::put_steps` meets its contract. The loop's invariant: the lines so far are laid, and the next place is behind them.
-- Assumes nothing.
use mathlib.Core.Path.{◌≡◌, ap, ◌∙◌}
use Prim.Native.Nat.{ℕ, ◌+◌}
use native.Mathlib.Omega.{arith}
use lib.ListN.{length}
use Rattle.ring.specs.Lists.{joined}
use Rattle.bristol_export.specs.Private.{laid}
use Rattle.bristol_export.specs.Text.{step_text, steps_text}
use Rattle.bristol_export.proofs.Laid.{rows_none, rows_more}
use Rattle.bristol_export.proofs.Lengths.{length_steps_to}
use Rattle.bristol_export.proofs.gate.put_steps.Goals as goal

pub loop-s-init : goal.loop-s-init
loop-s-init c = let a = c.args in rows_none a.out.now a.at (step_text a.kind a.a a.b a.c a.n)

pub loop-s-preserved : goal.loop-s-preserved
loop-s-preserved c =
    let a = c.args in
    let i = c.loop-s.invariant in
    let e = c.put_step-to.ensures in
    rows_more a.out.now a.at (step_text a.kind a.a a.b a.c a.n) c.loop-s.s i e.value e.out_after

pub put_step-to-requires-clause-at_bound : goal.put_step-to-requires-clause-at_bound
put_step-to-requires-clause-at_bound c =
    let a = c.args in
    let p = c.requires in
    let i = c.loop-s.invariant in
    let n = c.count_of-s-end.ensures.0 in
    let l = length_steps_to a.kind a.a a.b a.c a.n p.at_bound.1 p.a_bound.0 p.a_bound.1 p.a_bound.2 p.a_bound.3 c.loop-s.s (omega arith) in
    let z = i.place in
    (omega arith, p.at_bound.1, omega arith)

pub returns-clause-value : goal.returns-clause-value
unfolding steps_text
returns-clause-value c =
    let a = c.args in
    let w = c.loop-s.invariant in
    let f = step_text a.kind a.a a.b a.c a.n in
    let e : c.loop-s.s ≡ c.count_of-s-end.result = omega arith in
    let z = e ∙ c.count_of-s-end.ensures.0 in
    w.place ∙ ap (λ (k : ℕ). a.at + length (joined k f)) z

pub returns-clause-out_after : goal.returns-clause-out_after
unfolding steps_text
returns-clause-out_after c =
    let a = c.args in
    let w = c.loop-s.invariant in
    let f = step_text a.kind a.a a.b a.c a.n in
    let e : c.loop-s.s ≡ c.count_of-s-end.result = omega arith in
    let z = e ∙ c.count_of-s-end.ensures.0 in
    w.text ∙ ap (λ (k : ℕ). laid a.out.now a.at (joined k f)) z
