-- `bristol::gates::keep` meets its contract: the table holds every wire of the text, and gets our wire for the gate's result; or it is not used.
-- Assumes nothing.
use Prim.Native.Nat.{◌≤◌}
use native.Mathlib.Omega.{arith}
use Rattle.bristol_form.specs.Says.{wires}
use Rattle.bristol.specs.Private.{tabled}
use Rattle.bristol.proofs.PutGates.{table_more}
use Rattle.bristol.proofs.gates.keep.Goals as goal

pub returns : goal.returns
returns c =
    let a = c.args in
    let h = c.requires in
    let m : wires a.text.now ≤ tabled = omega arith in
    table_more a.text.now h.ins_value.2 a.j h.ins_value.3 a.g h.g_value a.table.now c.put_ours.new.table c.own_wire-own.result m h.ins_value.6 c.own_wire-own.ensures.value c.put_ours.ensures
