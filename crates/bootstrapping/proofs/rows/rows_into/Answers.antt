-- `bootstrapping::rows::rows_into` meets its contract: after r turns the first r rows stand one after another.
-- Assumes nothing.
use Rattle.std.proofs.Common.{◌≡◌, ℕ, ◌+◌, ◌*◌, length, sym, ap, ◌∙◌}
use Rattle.params.specs.Sizes.{size}
use Rattle.ring.proofs.Parts.{slice_length}
use Rattle.ring.proofs.Joins.{joined_none, joined_more, joined_done}
use Rattle.bootstrapping.specs.Rows.{torus_row, torus_rows}
use Rattle.bootstrapping.proofs.Parts.{row_room, row_drawn}
use Rattle.bootstrapping.proofs.rows.rows_into.Goals as goal

pub loop-r-init : goal.loop-r-init
loop-r-init c = let g = c.args in joined_none (length g.key.now + length g.key.now) (torus_row g.p g.m g.key.now g.masks.now g.noise.now) g.out.now

pub loop-r-preserved : goal.loop-r-preserved
loop-r-preserved c =
    let g = c.args in
    let l = c.loop-r in
    let n = length g.key.now in
    let fit = row_room g.p l.r n (rw c.p.view_is at c.loop-r-test.true) c.requires.2 (l.auto.out ∙ c.requires.3) in
    let made = row_drawn g.p g.key.now g.masks.now g.noise.now g.m l.r n c.requires.2 c.row_into.ensures in
    joined_more (n + n) (torus_row g.p g.m g.key.now g.masks.now g.noise.now) g.out.now l.r l.invariant.0 l.invariant.1 c.row_into.new.out made (c.row_into.auto.out ∙ slice_length l.out _ _ fit)

pub returns : goal.returns
unfolding torus_rows
returns c =
    let g = c.args in
    let l = c.loop-r in
    let n = length g.key.now in
    let wide : n + n ≡ size g.p + size g.p = ap (λ (k : ℕ). k + k) c.requires.2 in
    joined_done (n + n) (torus_row g.p g.m g.key.now g.masks.now g.noise.now) g.out.now l.r l.invariant.0 l.invariant.1 (g.p.l + g.p.l)
    (rw c.p.view_is at l.auto.r-end) (rw c.p.view_is at c.loop-r-test.false) (c.requires.3 ∙ ap (λ (k : ℕ). (g.p.l + g.p.l) * k) (sym wide))
