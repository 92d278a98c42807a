-- `bristol::whole::import_over` meets its contract: the head, the gates and the outputs one behind the other.
-- Assumes nothing.
use native.Mathlib.Omega.{arith}
use Rattle.bristol.proofs.Imports.{CheckedGood, checked_good, length_sum, parts_small, after_all, table_first, whole}
use Rattle.bristol.proofs.whole.import_over.Goals as goal

pub put_head-requires : goal.put_head-requires
put_head-requires c =
    let told : CheckedGood c.args.text.now c.args.c =
    checked_good c.args.text.now c.args.c c.requires.0
    in
    let a = c.args in
    let p = parts_small a.text.now a.c told in
    let l = length_sum a.text.now a.c told in
    let h = c.requires.1 in
    (omega arith, omega arith, omega arith, omega arith)

pub overflow_mul-c : goal.overflow_mul-c
overflow_mul-c c =
    let told : CheckedGood c.args.text.now c.args.c =
    checked_good c.args.text.now c.args.c c.requires.0
    in
    let p = parts_small c.args.text.now c.args.c told in omega arith

pub overflow_add-c : goal.overflow_add-c
overflow_add-c c =
    let told : CheckedGood c.args.text.now c.args.c =
    checked_good c.args.text.now c.args.c c.requires.0
    in
    let p = parts_small c.args.text.now c.args.c told in omega arith

pub returns : goal.returns
returns c =
    let told : CheckedGood c.args.text.now c.args.c =
    checked_good c.args.text.now c.args.c c.requires.0
    in
    let a = c.args in
    let head = c.put_head in
    let gates = c.put_gates-p in
    let outputs = c.put_outputs in
    whole a.text.now a.c told a.out.now head.new.out gates.new.out outputs.new.out c.requires.1 head.ensures gates.ensures.written outputs.ensures.written

pub put_gates-p-requires-clause-ins_value : goal.put_gates-p-requires-clause-ins_value
put_gates-p-requires-clause-ins_value c =
    let told : CheckedGood c.args.text.now c.args.c =
    checked_good c.args.text.now c.args.c c.requires.0
    in
    let a = c.args in
    let g = told in
    let l = length_sum a.text.now a.c g in
    let m = g.made_is in
    let k = c.put_head.auto.out in
    let h = c.requires.1 in
    (g.inputs_are, g.wires_are, g.body_is, g.gates_are, g.good, table_first a.text.now c.start_table.new.table c.start_table.ensures)

pub put_gates-p-requires-clause-text_in_bounds : goal.put_gates-p-requires-clause-text_in_bounds
put_gates-p-requires-clause-text_in_bounds c =
    let told : CheckedGood c.args.text.now c.args.c =
    checked_good c.args.text.now c.args.c c.requires.0
    in
    let a = c.args in
    let g = told in
    let l = length_sum a.text.now a.c g in
    let m = g.made_is in
    let k = c.put_head.auto.out in
    let h = c.requires.1 in
    omega arith

pub put_outputs-requires-clause-ins_value : goal.put_outputs-requires-clause-ins_value
put_outputs-requires-clause-ins_value c =
    let told : CheckedGood c.args.text.now c.args.c =
    checked_good c.args.text.now c.args.c c.requires.0
    in
    let a = c.args in
    let g = told in
    let gates = c.put_gates-p in
    let f = after_all a.text.now a.c g gates.new.table gates.result gates.ensures.known gates.ensures.value in
    let l = length_sum a.text.now a.c g in
    let j = gates.auto.out in
    let k = c.put_head.auto.out in
    let h = c.requires.1 in
    (g.inputs_are, g.wires_are, g.gates_are, g.good, f.0, f.1, f.2)

pub put_outputs-requires-clause-count_value : goal.put_outputs-requires-clause-count_value
put_outputs-requires-clause-count_value c =
    let told : CheckedGood c.args.text.now c.args.c =
    checked_good c.args.text.now c.args.c c.requires.0
    in
    let a = c.args in
    let g = told in
    let gates = c.put_gates-p in
    let f = after_all a.text.now a.c g gates.new.table gates.result gates.ensures.known gates.ensures.value in
    let l = length_sum a.text.now a.c g in
    let j = gates.auto.out in
    let k = c.put_head.auto.out in
    let h = c.requires.1 in
    (g.outputs_are, omega arith)
