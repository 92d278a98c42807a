-- `switching::use_mask` meets its contract: each turn subtracts one more field's row.
-- Assumes nothing.
use Rattle.std.proofs.Common.{ap, ◌∙◌, ℕ, ◌+◌, length}
use Rattle.ring.specs.Word.{Q}
use Rattle.ring.specs.Poly.{minus}
use Rattle.ring.proofs.Fields.{field_below}
use Rattle.ring.proofs.Tab.{length-tab}
use Rattle.ring.proofs.Samples.{less_none, less_more}
use Rattle.switching.specs.Switched.{used_row}
use Rattle.switching.proofs.use_mask.Invariants.{row}
use Rattle.switching.proofs.use_mask.Goals as goal

pub loop-j-init : goal.loop-j-init
unfolding Q
loop-j-init c =
    let g = c.args in
    (c.requires.into, less_none (g.p.n + 1) (row g.p g.ksk.now g.i g.a) g.out.now c.requires.into (λ x. (c.type_inv.out x).fits))

pub use_field-requires-clause-value : goal.use_field-requires-clause-value
use_field-requires-clause-value c = rw c.field.ensures (field_below c.args.a c.args.p.basebit c.loop-j.j)

pub loop-j-preserved : goal.loop-j-preserved
unfolding minus
loop-j-preserved c =
    let g = c.args in
    let l = c.loop-j in
    let e = c.use_field.ensures ∙ ap (λ (k : ℕ). minus (g.p.n + 1) l.out (used_row g.p g.ksk.now g.i l.j k)) c.field.ensures in
    (ap length e ∙ length-tab _ _, less_more (g.p.n + 1) (row g.p g.ksk.now g.i g.a) g.out.now l.j l.invariant.1 e)
