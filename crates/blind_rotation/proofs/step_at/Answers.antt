-- `blind_rotation::step_at` meets its contract: the rows are what the lookup hands back, and the amount is the mask's.
-- Assumes nothing.
use Rattle.std.proofs.Common.{ap, ◌∙◌, length}
use Rattle.params.specs.Ranges.{InRange}
use Rattle.key.proofs.Rows.{bit_length}
use Rattle.rotation.proofs.Amounts.{mask_value}
use Rattle.blind_rotation.proofs.Steps.{pair, amount_to, rows_is, step_is}
use Rattle.blind_rotation.proofs.step_at.Goals as goal

pub step_by-requires-clause-amount : goal.step_by-requires-clause-amount
step_by-requires-clause-amount c =
    let i : InRange c.args.p = rw (← c.p.view_is) c.p.invariant.0 in
    amount_to c.args.p _ i (mask_value c.args.p i c.args.mask.0 _ c.p.view_is c.mask_amount.ensures c.unwrap_or-k.ensures)

pub step_by-requires-clause-bit : goal.step_by-requires-clause-bit
step_by-requires-clause-bit c =
    let g = c.args in
    let i : InRange g.p = rw (← c.p.view_is) c.p.invariant.0 in
    ap length (rows_is g.p i g.key.now g.i c.requires.rows c.requires.index (rw c.p.view_is at c.bit_rows-rows.ensures)) ∙ bit_length g.p g.key.now g.i c.requires.rows c.requires.index

pub returns : goal.returns
returns c =
    let g = c.args in
    let i : InRange g.p = rw (← c.p.view_is) c.p.invariant.0 in
    let rows = rows_is g.p i g.key.now g.i c.requires.rows c.requires.index (rw c.p.view_is at c.bit_rows-rows.ensures) in
    c.step_by.ensures ∙ step_is g.p g.key.now g.i g.mask.0 (pair g.a.now g.b.now) rows (mask_value g.p i g.mask.0 _ c.p.view_is c.mask_amount.ensures c.unwrap_or-k.ensures)
