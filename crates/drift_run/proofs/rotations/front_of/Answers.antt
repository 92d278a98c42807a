-- `drift_run::rotations::front_of` meets its contract: the sum, and what its turns tell.
-- Assumes nothing.
use Rattle.std.proofs.Common.{◌∙◌, refl, sym, ap}
use Rattle.params.proofs.Ranges.{not_refused}
use Rattle.tlwe.specs.declared.Level.TheVariants.{Zero}
use Rattle.tlwe.proofs.Checks.{linear_done}
use Rattle.gate_sums.proofs.Uses.{sum_written}
use Rattle.turns.specs.declared.Rounded.{Rounded}
use Rattle.turns.proofs.Given.{is_given, ok_same}
use Rattle.drift_run.proofs.Turned.{sum_told}
use Rattle.drift_run.proofs.rotations.front_of.Goals as goal

pub unwrap-requires : goal.unwrap-requires
unwrap-requires c =
    let g = c.args in
    let h = c.requires in
    let z = not_refused g.p (rw c.p.view_is at c.p.invariant.0) in
    is_given _ _ (rw c.p.view_is at c.sum.ensures.said) (linear_done g.p Zero _ _ _ (record { good = z; first = h.1; second = h.2; result = h.3 }))

pub unwrap-requires-2 : goal.unwrap-requires-2
unwrap-requires-2 c =
    let g = c.args in
    let h = c.requires in
    let z = not_refused g.p (rw c.p.view_is at c.p.invariant.0) in
    let e = rw c.p.view_is at c.sum.ensures.written ∙ sum_written g.p z g.kind g.a.now g.b.now g.sum.now h.1 h.2 h.3 in
    rw (rw c.p.view_is at c.front.ensures ∙ sum_told g.p g.kind g.key.now g.a.now g.b.now z h.0 e) refl

pub returns-clause-place : goal.returns-clause-place
returns-clause-place c =
    let g = c.args in
    let h = c.requires in
    let z = not_refused g.p (rw c.p.view_is at c.p.invariant.0) in
    let e = rw c.p.view_is at c.sum.ensures.written ∙ sum_written g.p z g.kind g.a.now g.b.now g.sum.now h.1 h.2 h.3 in
    ap (λ (r : Rounded). r.place) (ok_same (sym c.unwrap-2.ensures ∙ rw c.p.view_is at c.front.ensures ∙ sum_told g.p g.kind g.key.now g.a.now g.b.now z h.0 e))

pub returns-clause-rounding : goal.returns-clause-rounding
returns-clause-rounding c =
    let g = c.args in
    let h = c.requires in
    let z = not_refused g.p (rw c.p.view_is at c.p.invariant.0) in
    let e = rw c.p.view_is at c.sum.ensures.written ∙ sum_written g.p z g.kind g.a.now g.b.now g.sum.now h.1 h.2 h.3 in
    ap (λ (r : Rounded). r.rounding.0) (ok_same (sym c.unwrap-2.ensures ∙ rw c.p.view_is at c.front.ensures ∙ sum_told g.p g.kind g.key.now g.a.now g.b.now z h.0 e))
