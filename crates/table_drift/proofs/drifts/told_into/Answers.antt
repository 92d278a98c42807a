-- `table_drift::drifts::told_into` meets its contract: each callee is lent what it asks for, and what they give makes the two drifts.
-- Assumes nothing.
use mathlib.Core.Path.{ap, ap₂, ◌∙◌}
use mathlib.Core.List.{[], ◌∷◌}
use Prim.Native.Nat.{ℕ}
use native.Mathlib.Omega.{arith}
use Rattle.params.proofs.Ranges.{not_refused}
use Rattle.ring.specs.Phase.{phase_of}
use Rattle.tables.proofs.Entries.{table_modulus}
use Rattle.turns.proofs.Given.{is_given}
use Rattle.table_drift.specs.Private.{both_within}
use Rattle.table_drift.proofs.Meaning.{place_below}
use Rattle.table_drift.proofs.Calls.{looked, lookup_put, keyed, front_told}
use Rattle.table_drift.proofs.Told.{two_put, brought_made, drift_made}
use Rattle.table_drift.proofs.drifts.told_into.Goals as goal

pub unwrap-requires : goal.unwrap-requires
unwrap-requires c =
    let g = c.args in
    let z = not_refused g.p (rw c.p.view_is at c.p.invariant.0) in
    is_given _ _ (rw c.p.view_is at c.lookup.ensures.said) (looked g.p z g.modulus g.table.now g.results g.ksk.now g.bsk.now g.key.now g.c.now g.out.now g.drifts.now c.requires)

pub unwrap-front-requires : goal.unwrap-front-requires
unwrap-front-requires c =
    let g = c.args in
    let z = not_refused g.p (rw c.p.view_is at c.p.invariant.0) in
    is_given _ _ (rw c.p.view_is at c.front.ensures) (keyed g.p z g.modulus g.table.now g.results g.ksk.now g.bsk.now g.key.now g.c.now g.out.now g.drifts.now c.requires)

pub message_word-requires : goal.message_word-requires
message_word-requires c = table_modulus _ _ c.requires.fits

pub front_word-carried-requires : goal.front_word-carried-requires
front_word-carried-requires c =
    let g = c.args in
    let z = not_refused g.p (rw c.p.view_is at c.p.invariant.0) in
    let front = front_told g.p z g.modulus g.table.now g.results g.ksk.now g.bsk.now g.key.now g.c.now g.out.now g.drifts.now c.requires (rw c.p.view_is at c.front.ensures) c.unwrap-front.ensures in
    let l = place_below g.p g.key.now g.c.now in
    let e = front.0 in
    (c.requires.words, c.requires.fits, omega (arith, e, l))

pub both_within-requires : goal.both_within-requires
both_within-requires c = (table_modulus _ _ c.requires.fits, c.requires.outcome)

pub returns-clause-told : goal.returns-clause-told
returns-clause-told c =
    let g = c.args in
    let z = not_refused g.p (rw c.p.view_is at c.p.invariant.0) in
    let front = front_told g.p z g.modulus g.table.now g.results g.ksk.now g.bsk.now g.key.now g.c.now g.out.now g.drifts.now c.requires (rw c.p.view_is at c.front.ensures) c.unwrap-front.ensures in
    let out = lookup_put g.p z g.modulus g.table.now g.results g.ksk.now g.bsk.now g.key.now g.c.now g.out.now g.drifts.now c.requires (rw c.p.view_is at c.lookup.ensures.written) in
    let brought = brought_made g.p g.key.now g.c.now g.value g.modulus c.phase.ensures c.message_word.ensures c.sub-own.ensures front.1 c.add-brought.ensures in
    let drift = drift_made g.p g.key.now g.ksk.now g.bsk.now g.modulus g.table.now g.c.now (c.phase-2.ensures ∙ ap (phase_of g.p.n g.key.now) out) front.0 c.front_word-carried.ensures c.sub-drift.ensures in
    c.both_within.ensures ∙ ap₂ (both_within g.modulus g.results) brought drift

pub returns-clause-written : goal.returns-clause-written
returns-clause-written c =
    let g = c.args in
    let z = not_refused g.p (rw c.p.view_is at c.p.invariant.0) in
    lookup_put g.p z g.modulus g.table.now g.results g.ksk.now g.bsk.now g.key.now g.c.now g.out.now g.drifts.now c.requires (rw c.p.view_is at c.lookup.ensures.written)

pub returns-clause-drifted : goal.returns-clause-drifted
returns-clause-drifted c =
    let g = c.args in
    let z = not_refused g.p (rw c.p.view_is at c.p.invariant.0) in
    let front = front_told g.p z g.modulus g.table.now g.results g.ksk.now g.bsk.now g.key.now g.c.now g.out.now g.drifts.now c.requires (rw c.p.view_is at c.front.ensures) c.unwrap-front.ensures in
    let out = lookup_put g.p z g.modulus g.table.now g.results g.ksk.now g.bsk.now g.key.now g.c.now g.out.now g.drifts.now c.requires (rw c.p.view_is at c.lookup.ensures.written) in
    let brought = brought_made g.p g.key.now g.c.now g.value g.modulus c.phase.ensures c.message_word.ensures c.sub-own.ensures front.1 c.add-brought.ensures in
    let drift = drift_made g.p g.key.now g.ksk.now g.bsk.now g.modulus g.table.now g.c.now (c.phase-2.ensures ∙ ap (phase_of g.p.n g.key.now) out) front.0 c.front_word-carried.ensures c.sub-drift.ensures in
    two_put g.drifts.now _ _ c.requires.drifts ∙ ap₂ (λ (x y : ℕ). x ∷ y ∷ []) brought drift
