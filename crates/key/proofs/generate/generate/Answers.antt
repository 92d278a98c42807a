-- `key::generate::generate` meets its contract: after r turns the first r rows stand one after another.
-- Assumes nothing.
use Rattle.std.proofs.Common.{◌+◌, ◌*◌, ◌<◌, ◌≤◌, length}
use native.Mathlib.Omega.{arith}
use Rattle.params.specs.Sizes.{switching_rows}
use Rattle.key.specs.Generation.{generated_row, generated}
use Rattle.ring.proofs.Joins.{joined_none, joined_done}
use Rattle.key.proofs.Rows.{row_ends, sized, one_more}
use Rattle.key.proofs.Draws.{length_row}
use Rattle.key.proofs.generate.generate.Goals as goal

pub loop-r-init : goal.loop-r-init
loop-r-init c = let g = c.args in joined_none (g.p.n + 1) (generated_row g.p g.key_lv0.now g.key_lv1.now g.masks.now g.noise.now) g.out.now

pub slice_bounds-row_into-end : goal.slice_bounds-row_into-end
slice_bounds-row_into-end c =
    let l = c.loop-r in
    let d = sized c.p.view_is c.p.invariant in
    let within : l.r < switching_rows c.args.p = rw d.rows at c.loop-r-test.true in
    let e = row_ends l.r (switching_rows c.args.p) (c.args.p.n + 1) within in
    let ends : l.r * c.p.inside.sizes.level0 + c.p.inside.sizes.level0 ≤ length l.out = rw d.width (omega (arith, e, l.auto.out, c.requires.out)) in
    omega (arith, ends)

pub loop-r-preserved : goal.loop-r-preserved
loop-r-preserved c =
    let g = c.args in
    let l = c.loop-r in
    let d = sized c.p.view_is c.p.invariant in
    let within : l.r < switching_rows g.p = rw d.rows at c.loop-r-test.true in
    one_more (g.p.n + 1) (generated_row g.p g.key_lv0.now g.key_lv1.now g.masks.now g.noise.now) g.out.now l.r d.width l.invariant c.row_into.ensures
    (length_row g.p l.r within g.masks.now c.requires.lent.masks_length g.key_lv0.now g.key_lv1.now g.noise.now)

pub returns : goal.returns
unfolding generated
returns c =
    let g = c.args in
    let l = c.loop-r in
    let d = sized c.p.view_is c.p.invariant in
    joined_done (g.p.n + 1) (generated_row g.p g.key_lv0.now g.key_lv1.now g.masks.now g.noise.now) g.out.now l.r l.invariant.0 l.invariant.1 (switching_rows g.p)
    (rw d.rows at l.auto.r-end) (rw d.rows at c.loop-r-test.false) c.requires.out
