-- `tables::vectors::word_at` meets its contract: the entry is at most the modulus, so it is there unless it is the modulus itself.
-- Assumes nothing.
use mathlib.Core.Path.{sym, ◌∙◌}
use Prim.Native.Nat.{◌*◌, ◌≤◌}
use native.Mathlib.Nat.{mul-le-mul}
use native.Mathlib.Omega.{arith}
use lib.ListN.{length}
use Rattle.tables.proofs.Entries.{table_bounds, last_entry, inner_entry}
use Rattle.tables.proofs.vectors.word_at.Goals as goal

pub overflow_mul-j : goal.overflow_mul-j
overflow_mul-j c =
    let product : c.args.i * length c.args.table.now ≤ 1024 * 64 =
    let h = c.requires in mul-le-mul (let q : c.args.i ≤ 1024 = omega arith in q) (table_bounds _ _ h.0).1
    in
    let h = product in omega arith

pub overflow_add-j : goal.overflow_add-j
overflow_add-j c =
    let product : c.args.i * length c.args.table.now ≤ 1024 * 64 =
    let h = c.requires in mul-le-mul (let q : c.args.i ≤ 1024 = omega arith in q) (table_bounds _ _ h.0).1
    in
    let h = product in let k = c.requires in omega arith

pub bounds-table-0 : goal.bounds-table-0
bounds-table-0 c = let h = (table_bounds _ _ c.requires.0).0 in omega arith

pub returns-then-j-m : goal.returns-then-j-m
returns-then-j-m c =
    let g = c.args in
    c.negated.ensures ∙ sym (last_entry g.n (length g.table.now) g.i g.table.now c.if-j-m.true)

pub returns-else-j-m : goal.returns-else-j-m
returns-else-j-m c = let g = c.args in sym (inner_entry g.n (length g.table.now) g.i g.table.now c.if-j-m.false)
