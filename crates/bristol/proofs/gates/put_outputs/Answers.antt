-- `bristol::gates::put_outputs` meets its contract. The loop's invariant: the first o outputs are written.
-- Assumes nothing.
use mathlib.Core.Path.{◌≡◌}
use native.Mathlib.Omega.{arith}
use Rattle.bristol.specs.Import.{output_for}
use Rattle.bristol.proofs.PutGates.{outputs_none, output_wire, output_to, outputs_more}
use Rattle.bristol.proofs.gates.put_outputs.Goals as goal

pub loop-o-init : goal.loop-o-init
loop-o-init c = let a = c.args in outputs_none a.text.now a.out.now a.at

pub put_field-requires : goal.put_field-requires
put_field-requires c =
    let wire : c.ours-w.result ≡ output_for c.args.text.now c.loop-o.o =
    let a = c.args in
    let h = c.requires in
    output_wire a.text.now a.out.now h.ins_value.3 a.at c.loop-o.o (omega arith) a.most a.count a.total c.ours-w.result h.ins_value.1 h.count_value.0 h.ins_value.2 c.ours-w.ensures
    in
    let a = c.args in
    let h = c.requires in
    let l = c.loop-o in
    let k = l.invariant.long in
    (omega arith, output_to a.text.now a.out.now h.ins_value.3 a.at l.o (omega arith) c.ours-w.result wire)

pub loop-o-preserved : goal.loop-o-preserved
loop-o-preserved c =
    let wire : c.ours-w.result ≡ output_for c.args.text.now c.loop-o.o =
    let a = c.args in
    let h = c.requires in
    output_wire a.text.now a.out.now h.ins_value.3 a.at c.loop-o.o (omega arith) a.most a.count a.total c.ours-w.result h.ins_value.1 h.count_value.0 h.ins_value.2 c.ours-w.ensures
    in
    let a = c.args in
    let h = c.requires in
    let l = c.loop-o in (
    outputs_more a.text.now a.out.now h.ins_value.3 a.at l.o (omega arith) l.out c.put_field.new.out c.ours-w.result (omega arith) l.invariant wire c.put_field.ensures
    c.put_field.auto.out
    )
