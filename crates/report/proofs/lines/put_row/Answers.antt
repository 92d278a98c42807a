-- `report::lines::put_row` meets its contract: it lends room for the row's bits.
-- Assumes nothing.
use mathlib.Core.Path.{sym, ◌∙◌}
use native.Mathlib.Omega.{arith}
use lib.ListN.{replicate}
use lib.Seq.{length-take-le}
use Rattle.report.proofs.Pieces.{counts_inputs, counts_outputs}
use Rattle.report.proofs.lines.put_row.Goals as goal

pub slice_bounds-ins-end : goal.slice_bounds-ins-end
slice_bounds-ins-end c = let i = counts_inputs _ c.counts-counts.ensures in omega arith

pub slice_bounds-put_row_over-end : goal.slice_bounds-put_row_over-end
slice_bounds-put_row_over-end c = let i = counts_inputs _ c.counts-counts.ensures in sym (length-take-le c.counts-counts.result.inputs (replicate 80 0) (omega arith))

pub slice_bounds-outs-end : goal.slice_bounds-outs-end
slice_bounds-outs-end c = let o = counts_outputs _ c.counts-counts.ensures in omega arith

pub slice_bounds-put_row_over-end-2 : goal.slice_bounds-put_row_over-end-2
slice_bounds-put_row_over-end-2 c = let o = counts_outputs _ c.counts-counts.ensures in sym (length-take-le c.counts-counts.result.outputs (replicate 80 0) (omega arith))

pub put_row_over-requires-clause-ins_len : goal.put_row_over-requires-clause-ins_len
put_row_over-requires-clause-ins_len c =
    let p = c.requires in
    let i = counts_inputs _ c.counts-counts.ensures in
    let o = counts_outputs _ c.counts-counts.ensures in
    (length-take-le c.counts-counts.result.inputs (replicate 80 0) (omega arith) ∙ i, length-take-le c.counts-counts.result.outputs (replicate 80 0) (omega arith) ∙ o, p.3)
