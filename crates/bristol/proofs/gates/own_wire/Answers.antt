-- `bristol::gates::own_wire` meets its contract: EQW's result stands for what its operand stands for, another's for the wire of our next gate.
-- Assumes nothing.
use Prim.Native.Nat.{◌+◌, ◌<◌}
use native.Mathlib.Omega.{arith}
use Rattle.bristol.proofs.PutGates.{eqw_small, made_small}
use Rattle.bristol.proofs.gates.own_wire.Goals as goal

pub overflow_add-result : goal.overflow_add-result
overflow_add-result c =
    let small : c.args.ins + c.args.before < 65536 =
    let a = c.args in
    let h = c.requires in
    let l = made_small a.text.now h.ins_value.2 a.j h.ins_value.3 a.g h.g_value in
    omega arith
    in
    omega (arith, small)

pub returns-then-g-eq5-clause-upper_bound : goal.returns-then-g-eq5-clause-upper_bound
returns-then-g-eq5-clause-upper_bound c =
    let a = c.args in
    let h = c.requires in
    let e = c.ours.ensures in
    let l = eqw_small a.text.now h.ins_value.2 a.j h.ins_value.3 a.g h.g_value c.if-g-eq5.true in
    omega arith

pub returns-clause-upper_bound : goal.returns-clause-upper_bound
returns-clause-upper_bound c =
    let small : c.args.ins + c.args.before < 65536 =
    let a = c.args in
    let h = c.requires in
    let l = made_small a.text.now h.ins_value.2 a.j h.ins_value.3 a.g h.g_value in
    omega arith
    in
    let a = c.args in
    let h = c.requires in
    small
