-- `bristol::gates::put_gates` meets its contract. The loop's invariant: the first j gates are written, and the table is that before gate j.
-- Assumes nothing.
use mathlib.Core.Path.{◌≡◌, ap, ◌∙◌}
use Prim.Native.Nat.{◌+◌, ◌-◌, ◌/◌, ◌<◌}
use native.Mathlib.Omega.{arith}
use Rattle.bristol_form.specs.Says.{gates, gate_at}
use Rattle.bristol.specs.Private.{line_at}
use Rattle.bristol.proofs.PutGates.{GatesPut, gates_none, gate_room, gates_more}
use Rattle.bristol.proofs.gates.put_gates.Goals as goal

pub loop-j-init : goal.loop-j-init
loop-j-init c =
    let a = c.args in
    (gates_none a.text.now a.out.now a.table.now a.start c.requires.ins_value.2 c.requires.ins_value.5)

pub loop-j-preserved : goal.loop-j-preserved
loop-j-preserved c =
    let before_last : c.loop-j.j < gates c.args.text.now =
    let e = c.requires.ins_value.3 in omega arith
    in
    let read : c.line-g.result ≡ line_at c.args.text.now (gate_at c.args.text.now c.loop-j.j) =
    c.line-g.ensures ∙ ap (line_at c.args.text.now) c.loop-j.invariant.at_gate
    in
    let more : GatesPut c.args.text.now c.args.out.now (c.loop-j.j + 1) c.line-g.result.at (c.loop-j.before + (c.put_gate-next.result - c.loop-j.at) / 8) c.put_gate-next.result c.keep.new.table c.put_gate-next.new.out =
    let l = c.loop-j in
    let a = c.args in
    gates_more a.text.now a.out.now c.requires.text_in_bounds l.j before_last c.line-g.result read l.p l.before l.at l.table l.out l.invariant c.put_gate-next.result
    c.keep.new.table c.put_gate-next.new.out c.put_gate-next.ensures.value c.put_gate-next.ensures.written c.put_gate-next.auto.out c.keep.ensures
    in
    more

pub put_gate-next-requires-clause-g_value : goal.put_gate-next-requires-clause-g_value
put_gate-next-requires-clause-g_value c =
    let before_last : c.loop-j.j < gates c.args.text.now =
    let e = c.requires.ins_value.3 in omega arith
    in
    let read : c.line-g.result ≡ line_at c.args.text.now (gate_at c.args.text.now c.loop-j.j) =
    c.line-g.ensures ∙ ap (line_at c.args.text.now) c.loop-j.invariant.at_gate
    in
    let l = c.loop-j in
    let a = c.args in
    let h = c.requires in
    let i = l.invariant in (read, gate_room a.text.now a.out.now h.text_in_bounds l.j before_last l.p l.before l.at l.table l.out i)
