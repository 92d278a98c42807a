-- `report::lines::put_rows` meets its contract. The loop's invariant: the rows so far are written, and the next place is behind them.
-- Assumes nothing.
use mathlib.Core.Path.{◌≡◌, refl, ap, ◌∙◌}
use Prim.Native.Nat.{ℕ, ◌+◌, ◌^◌}
use native.Mathlib.Omega.{arith}
use lib.ListN.{length}
use Rattle.report.specs.Private.{splice}
use Rattle.report.specs.Text.{row_text, rows_to}
use Rattle.report.proofs.Pieces.{written_next, rows_start, rows_more, rows_to_lem, length_rows, counts_inputs}
use Rattle.report.proofs.lines.put_rows.Goals as goal

pub two_to-rows-requires : goal.two_to-rows-requires
two_to-rows-requires c = let i = counts_inputs _ c.counts-counts.ensures in omega arith

pub loop-r-init : goal.loop-r-init
loop-r-init c = (refl, rows_start _ _ _)

pub put_row-to-requires : goal.put_row-to-requires
put_row-to-requires c =
    let p = c.requires in
    let b = c.args.bytes.now in
    let i = counts_inputs b c.counts-counts.ensures in
    let n = rows_to_lem c.counts-counts.result.inputs (omega arith) in
    let e = c.two_to-rows.ensures in
    let l = length_rows b c.loop-r.r p.1 p.2 in
    let w = c.loop-r.invariant.1.place in
    (p.0, p.1, p.2, omega arith)

pub loop-r-preserved : goal.loop-r-preserved
loop-r-preserved c =
    let a = c.args in
    let p = c.requires in
    let b = a.bytes.now in
    let i = counts_inputs b c.counts-counts.ensures in
    let n = rows_to_lem c.counts-counts.result.inputs (omega arith) in
    let e = c.two_to-rows.ensures in
    let l = length_rows b c.loop-r.r p.1 p.2 in
    let v = c.loop-r.invariant in
    let z = v.1.place in
    let d = c.put_row-to.ensures in
    (c.put_row-to.auto.out ∙ v.0, rw (rows_more b c.loop-r.r) (written_next a.out.now a.at (rows_to b c.loop-r.r) (row_text b c.loop-r.r) v.1 (omega arith) d.value d.out_after))

pub returns-clause-value : goal.returns-clause-value
returns-clause-value c =
    let a = c.args in
    let b = a.bytes.now in
    let w = c.loop-r.invariant.1 in
    let e : c.loop-r.r ≡ c.two_to-rows.result = omega arith in
    let z = e ∙ c.two_to-rows.ensures ∙ ap (λ (k : ℕ). 2 ^ k) (counts_inputs b c.counts-counts.ensures) in
    w.place ∙ ap (λ (k : ℕ). a.at + length (rows_to b k)) z

pub returns-clause-out_after : goal.returns-clause-out_after
returns-clause-out_after c =
    let a = c.args in
    let b = a.bytes.now in
    let w = c.loop-r.invariant.1 in
    let e : c.loop-r.r ≡ c.two_to-rows.result = omega arith in
    let z = e ∙ c.two_to-rows.ensures ∙ ap (λ (k : ℕ). 2 ^ k) (counts_inputs b c.counts-counts.ensures) in
    w.text ∙ ap (λ (k : ℕ). splice a.out.now a.at (rows_to b k)) z
