-- `switching::use_field` meets its contract: a field that is 0 uses no row, and another's row is what the lookup hands back.
-- Assumes nothing.
use Rattle.std.proofs.Common.{sym, ap, ap₂, ◌∙◌, List, ℕ, ◌+◌, length}
use native.Mathlib.Nat.{pos_of_ne-zero}
use Rattle.params.specs.Ranges.{InRange}
use Rattle.params.proofs.Answers.{when_done}
use Rattle.params.proofs.Ranges.{not_refused}
use Rattle.ring.specs.Word.{Q}
use Rattle.ring.specs.Poly.{minus}
use Rattle.ring.proofs.Samples.{less_empty}
use Rattle.key.proofs.Checks.{lookup_done}
use Rattle.switching.proofs.Rows.{no_row, the_row}
use Rattle.switching.proofs.use_field.Goals as goal

pub returns-then-k-eq0 : goal.returns-then-k-eq0
unfolding Q
returns-then-k-eq0 c =
    let g = c.args in
    less_empty (g.p.n + 1) g.out.now c.requires.into (λ x. (c.type_inv.out x).fits) ∙ ap (minus (g.p.n + 1) g.out.now) (sym (no_row g.p g.ksk.now g.i g.j g.k c.if-k-eq0.true))

pub returns : goal.returns
returns c =
    let g = c.args in
    let r = c.requires in
    let i : InRange g.p = rw (← c.p.view_is) c.p.invariant.0 in
    let row = (rw c.p.view_is at c.switching_row-row.ensures) ∙ when_done _ _ _ (lookup_done g.p (length g.ksk.now) g.i g.j g.k (not_refused g.p i) r.rows r.mask r.place (pos_of_ne-zero c.if-k-eq0.false) r.value) in
    c.subtract.ensures ∙ ap₂ (λ (m : ℕ) (l : List ℕ). minus m g.out.now l) r.into (row ∙ sym (the_row g.p g.ksk.now g.i g.j g.k c.if-k-eq0.false))
