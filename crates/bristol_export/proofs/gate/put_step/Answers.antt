-- `bristol_export::gate::put_step` meets its contract: the line of what the tables say.
-- Assumes nothing.
use Prim.Native.Nat.{◌+◌}
use native.Mathlib.Omega.{arith}
use Rattle.bristol_export.specs.Text.{line_text, step_text}
use Rattle.bristol_export.proofs.Columns.{count_to}
use Rattle.bristol_export.proofs.Pieces.{put_is, step_is}
use Rattle.bristol_export.proofs.gate.put_step.Goals as goal

pub overflow_add-n : goal.overflow_add-n
overflow_add-n c = let t = count_to c.args.kind c.requires.at_bound.1 in omega arith

pub put_line-requires : goal.put_line-requires
put_line-requires c =
    let p = c.requires in
    let t = count_to c.args.kind p.at_bound.1 in
    let e = c.name_of.ensures in
    (p.at_bound.0, e.1, omega arith, c.source-x.ensures.1, c.source-y.ensures.1, omega arith)

pub returns-clause-value : goal.returns-clause-value
returns-clause-value c =
    let a = c.args in
    let x = c.source-x in
    let y = c.source-y in
    let m = c.name_of in
    let e = c.put_line.ensures in
    let w = put_is a.out.now a.at (line_text m.result x.result y.result (a.n + a.s)) (step_text a.kind a.a a.b a.c a.n a.s)
    (step_is a.kind a.a a.b a.c a.n a.s m.ensures.0 c.first_of.ensures.0 c.second_of.ensures.0 x.ensures.0 y.ensures.0) (record { text = e.out_after; place = e.value }) in
    w.place

pub returns-clause-out_after : goal.returns-clause-out_after
returns-clause-out_after c =
    let a = c.args in
    let x = c.source-x in
    let y = c.source-y in
    let m = c.name_of in
    let e = c.put_line.ensures in
    let w = put_is a.out.now a.at (line_text m.result x.result y.result (a.n + a.s)) (step_text a.kind a.a a.b a.c a.n a.s)
    (step_is a.kind a.a a.b a.c a.n a.s m.ensures.0 c.first_of.ensures.0 c.second_of.ensures.0 x.ensures.0 y.ensures.0) (record { text = e.out_after; place = e.value }) in
    w.text
