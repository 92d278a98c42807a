-- `key::former::rows_into` meets its contract: after r turns the first r rows stand one after another.
-- Assumes nothing.
use Rattle.std.proofs.Common.{◌+◌, ◌*◌, ◌<◌, ℕ, ap₂, ◌∙◌}
use Rattle.params.specs.Sizes.{switching_rows}
use Rattle.ring.specs.Lists.{part}
use Rattle.ring.proofs.Parts.{slice_part}
use Rattle.ring.proofs.Joins.{joined_none, joined_done}
use native.Mathlib.Omega.{arith}
use Rattle.words.proofs.Loops.{copied_all}
use Rattle.key.specs.Former.{former_row, without_idle}
use Rattle.key.proofs.Rows.{sized, one_more}
use Rattle.key.proofs.IdleRows.{lengths_left}
use Rattle.key.proofs.former.rows_into.Invariants.{row_at}
use Rattle.key.proofs.former.rows_into.Goals as goal

pub loop-r-init : goal.loop-r-init
loop-r-init c = let g = c.args in joined_none (g.p.n + 1) (row_at g.p g.former.now) g.out.now

pub loop-r-preserved : goal.loop-r-preserved
unfolding former_row
loop-r-preserved c =
    let g = c.args in
    let l = c.loop-r in
    let d = sized c.p.view_is c.p.invariant in
    let within : l.r < switching_rows g.p = rw d.rows at c.loop-r-test.true in
    let row = c.copy.ensures ∙ copied_all _ _ (omega arith) ∙ slice_part _ _ _ ∙ ap₂ (λ (w a : ℕ). part w (a * w) g.former.now) d.width c.former_place.ensures in
    one_more (g.p.n + 1) (row_at g.p g.former.now) g.out.now l.r d.width l.invariant row (lengths_left g.p d.range g.former.now c.requires.former l.r within)

pub returns : goal.returns
unfolding without_idle
returns c =
    let g = c.args in
    let l = c.loop-r in
    let d = sized c.p.view_is c.p.invariant in
    joined_done (g.p.n + 1) (row_at g.p g.former.now) g.out.now l.r l.invariant.0 l.invariant.1 (switching_rows g.p) (rw d.rows at l.auto.r-end) (rw d.rows at c.loop-r-test.false) c.requires.out
