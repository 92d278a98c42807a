-- `trgsw::external_rows` meets its contract: each turn adds one more row.
-- Assumes nothing.
use mathlib.Core.Path.{refl}
use Rattle.ring.specs.Word.{Q}
use Rattle.params.specs.Sizes.{size}
use Rattle.trgsw.specs.External.{row_a, row_b}
use Rattle.trgsw.proofs.Sums.{add_begun, add_more}
use Rattle.trgsw.proofs.external_rows.Invariants.{term}
use Rattle.trgsw.proofs.external_rows.Goals as goal

pub loop-r-init : goal.loop-r-init
unfolding Q
loop-r-init c =
    let g = c.args in
    let w = c.requires.words in (
      add_begun (size g.p) (term row_a g.p g.rows.now g.a.now g.b.now) g.outa.now w.1.1.1.0 (λ i. (c.type_inv.outa i).fits),
      add_begun (size g.p) (term row_b g.p g.rows.now g.a.now g.b.now) g.outb.now w.1.1.1.1.0 (λ i. (c.type_inv.outb i).fits),
    )

pub loop-r-preserved : goal.loop-r-preserved
loop-r-preserved c =
    let g = c.args in
    let l = c.loop-r in (
      add_more (size g.p) (term row_a g.p g.rows.now g.a.now g.b.now) g.outa.now l.r l.invariant.0 refl c.external_row.ensures.outa_after,
      add_more (size g.p) (term row_b g.p g.rows.now g.a.now g.b.now) g.outb.now l.r l.invariant.1 refl c.external_row.ensures.outb_after,
    )
