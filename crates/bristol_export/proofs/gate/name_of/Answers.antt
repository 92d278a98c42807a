-- `bristol_export::gate::name_of` meets its contract: the table's column, tested whole.
-- Assumes nothing.
use native.Mathlib.Omega.{arith}
use Rattle.bristol_export.proofs.Columns.{count_to, name_entry}
use Rattle.bristol_export.proofs.gate.name_of.Goals as goal

pub overflow_add-result : goal.overflow_add-result
overflow_add-result c = let t = count_to c.args.kind c.requires.0 in omega arith

pub offset_bounds-kind : goal.offset_bounds-kind
offset_bounds-kind c = let t = count_to c.args.kind c.requires.0 in omega arith

pub bounds-kind : goal.bounds-kind
bounds-kind c = let t = count_to c.args.kind c.requires.0 in omega arith

pub returns : goal.returns
returns c = let e = name_entry c.args.kind c.args.s c.requires.0 c.requires.1 in (e.0, e.1, e.2)
