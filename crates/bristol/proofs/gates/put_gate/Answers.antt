-- `bristol::gates::put_gate` meets its contract: EQW writes nothing, and the eight bytes of another gate are those of our gate for it.
-- Assumes nothing.
use mathlib.Core.Path.{◌≡◌, sym, ap, ◌∙◌}
use native.Mathlib.Omega.{arith}
use lib.ListN.{length}
use Rattle.bristol.specs.Import.{eight_bytes, gate_bytes}
use Rattle.report.specs.Private.{splice}
use Rattle.report.proofs.Spliced.{splice_none}
use Rattle.bristol.proofs.PutGates.{none_bytes, own_bytes, own_small}
use Rattle.bristol.proofs.gates.put_gate.Goals as goal

pub put_eight-requires : goal.put_eight-requires
put_eight-requires c =
    let bytes : gate_bytes c.args.text.now c.args.j ≡ eight_bytes c.kind_for.result c.operand_for-a.result c.operand_for-b.result =
    let a = c.args in
    let h = c.requires in
    own_bytes a.text.now h.ins_value.2 a.j h.ins_value.3 a.g h.g_value.0 c.if-g-eq5.false c.needed-need.result c.kind_for.result c.operand_for-a.result c.operand_for-b.result c.needed-need.ensures
    c.kind_for.ensures c.operand_for-a.ensures c.operand_for-b.ensures
    in
    let a = c.args in
    let h = c.requires in
    let n = ap length bytes in
    let m =
    own_small a.text.now h.ins_value.2 a.j h.ins_value.3 a.g h.g_value.0 c.if-g-eq5.false c.needed-need.result c.kind_for.result c.operand_for-a.result c.operand_for-b.result c.needed-need.ensures
    c.kind_for.ensures c.operand_for-a.ensures c.operand_for-b.ensures
    in
    (omega arith, m.0, m.1, m.2)

pub returns-then-g-eq5-clause-value : goal.returns-then-g-eq5-clause-value
returns-then-g-eq5-clause-value c =
    let a = c.args in
    let h = c.requires in
    let e = none_bytes a.text.now h.ins_value.2 a.j h.ins_value.3 a.g h.g_value.0 c.if-g-eq5.true in
    let n = ap length e in
    omega arith

pub returns-then-g-eq5-clause-written : goal.returns-then-g-eq5-clause-written
returns-then-g-eq5-clause-written c =
    let a = c.args in
    let h = c.requires in
    let e = none_bytes a.text.now h.ins_value.2 a.j h.ins_value.3 a.g h.g_value.0 c.if-g-eq5.true in
    let n = ap length e in
    splice_none a.out.now a.at ∙ ap (splice a.out.now a.at) (sym e)

pub returns-clause-value : goal.returns-clause-value
returns-clause-value c =
    let bytes : gate_bytes c.args.text.now c.args.j ≡ eight_bytes c.kind_for.result c.operand_for-a.result c.operand_for-b.result =
    let a = c.args in
    let h = c.requires in
    own_bytes a.text.now h.ins_value.2 a.j h.ins_value.3 a.g h.g_value.0 c.if-g-eq5.false c.needed-need.result c.kind_for.result c.operand_for-a.result c.operand_for-b.result c.needed-need.ensures
    c.kind_for.ensures c.operand_for-a.ensures c.operand_for-b.ensures
    in
    let a = c.args in
    let e = bytes in
    let n = ap length e in
    omega arith

pub returns-clause-written : goal.returns-clause-written
returns-clause-written c =
    let bytes : gate_bytes c.args.text.now c.args.j ≡ eight_bytes c.kind_for.result c.operand_for-a.result c.operand_for-b.result =
    let a = c.args in
    let h = c.requires in
    own_bytes a.text.now h.ins_value.2 a.j h.ins_value.3 a.g h.g_value.0 c.if-g-eq5.false c.needed-need.result c.kind_for.result c.operand_for-a.result c.operand_for-b.result c.needed-need.ensures
    c.kind_for.ensures c.operand_for-a.ensures c.operand_for-b.ensures
    in
    let a = c.args in
    let e = bytes in
    let n = ap length e in
    c.put_eight.ensures ∙ ap (splice a.out.now a.at) (sym e)
