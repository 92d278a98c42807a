-- `table_drift::lookup_drift` meets its contract: a refusal leaves all as it was; else the lookup and its drifts, as the definitions in whole numbers have them, and the theorem.
-- Assumes nothing.
use Rattle.std.proofs.Common.{◌≡◌, sym, ap, ◌∙◌}
use mathlib.Core.List.{List}
use Prim.Native.Nat.{ℕ, ◌<◌, ◌+◌, ◌%◌}
use lib.ListN.{length}
use Rattle.std.specs.Prelude.{Ok}
use Rattle.ring.specs.Word.{Q, at}
use Rattle.ring.specs.Phase.{phase_of}
use Rattle.params.proofs.Answers.{kept, done, given_ok, given_done}
use Rattle.params.proofs.Ranges.{in_range}
use Rattle.turns.proofs.Given.{number_refused, ok_same}
use Rattle.table_drift.specs.Refusals.{result_after, drifts_after}
use Rattle.table_drift.proofs.Checks.{lookup_drift_good}
use Rattle.table_drift.proofs.Meaning.{carries}
use Rattle.table_drift.proofs.Told.{carries_as, both_words, drift_words, inside_carries}
use Rattle.table_drift.proofs.lookup_drift.Goals as goal

pub returns-in_err-checked-clause-written : goal.returns-in_err-checked-clause-written
unfolding result_after
returns-in_err-checked-clause-written c = kept _ _ _ (number_refused _ c.args.p (sym c.in_err-checked.ensures))

pub returns-in_err-checked-clause-drifted : goal.returns-in_err-checked-clause-drifted
unfolding drifts_after
returns-in_err-checked-clause-drifted c = kept _ _ _ (number_refused _ c.args.p (sym c.in_err-checked.ensures))

pub told_into-requires : goal.told_into-requires
told_into-requires c =
    let g = c.args in
    let z = given_ok _ _ (sym c.in_ok-checked.ensures) in
    let same : c.in_ok-checked.checked ≡ g.p = ok_same (c.in_ok-checked.ensures ∙ given_done _ _ z) in
    rw same (lookup_drift_good g.p g.modulus (length g.table.now) g.results (length g.ksk.now) (length g.bsk.now) g.key.now g.z.now (length g.c.now) (length g.out.now) (length g.drifts.now) z).1

pub returns-clause-said : goal.returns-clause-said
unfolding Q
returns-clause-said c =
    let g = c.args in
    let z = given_ok _ _ (sym c.in_ok-checked.ensures) in
    let same : c.in_ok-checked.checked ≡ g.p = ok_same (c.in_ok-checked.ensures ∙ given_done _ _ z) in
    let good = lookup_drift_good g.p g.modulus (length g.table.now) g.results (length g.ksk.now) (length g.bsk.now) g.key.now g.z.now (length g.c.now) (length g.out.now) (length g.drifts.now) z in
    let k = good.1 in
    let r = in_range g.p good.0 in
    let b : at g.c.now g.p.n < Q = (c.type_inv.c g.p.n).fits in
    let t = rw same at c.told_into.ensures in
    ap Ok (t.told ∙ sym (both_words g.p r g.key.now g.z.now k.bits g.ksk.now g.bsk.now g.modulus g.table.now k.fits g.c.now b g.value g.results)) ∙ sym (given_done _ _ z)

pub returns-clause-written : goal.returns-clause-written
unfolding result_after
returns-clause-written c =
    let g = c.args in
    let z = given_ok _ _ (sym c.in_ok-checked.ensures) in
    let same : c.in_ok-checked.checked ≡ g.p = ok_same (c.in_ok-checked.ensures ∙ given_done _ _ z) in
    done _ _ _ z (rw same at c.told_into.ensures.written)

pub returns-clause-drifted : goal.returns-clause-drifted
unfolding drifts_after Q
returns-clause-drifted c =
    let g = c.args in
    let z = given_ok _ _ (sym c.in_ok-checked.ensures) in
    let same : c.in_ok-checked.checked ≡ g.p = ok_same (c.in_ok-checked.ensures ∙ given_done _ _ z) in
    let good = lookup_drift_good g.p g.modulus (length g.table.now) g.results (length g.ksk.now) (length g.bsk.now) g.key.now g.z.now (length g.c.now) (length g.out.now) (length g.drifts.now) z in
    let k = good.1 in
    let r = in_range g.p good.0 in
    let b : at g.c.now g.p.n < Q = (c.type_inv.c g.p.n).fits in
    let t = rw same at c.told_into.ensures in
    done _ _ _ z (t.drifted ∙ sym (drift_words g.p r g.key.now g.z.now k.bits g.ksk.now g.bsk.now g.modulus g.table.now k.fits g.c.now b g.value g.results))

pub returns-clause-carried : goal.returns-clause-carried
unfolding Q
returns-clause-carried c =
    let g = c.args in
    let z = given_ok _ _ (sym c.in_ok-checked.ensures) in
    let same : c.in_ok-checked.checked ≡ g.p = ok_same (c.in_ok-checked.ensures ∙ given_done _ _ z) in
    let good = lookup_drift_good g.p g.modulus (length g.table.now) g.results (length g.ksk.now) (length g.bsk.now) g.key.now g.z.now (length g.c.now) (length g.out.now) (length g.drifts.now) z in
    let k = good.1 in
    let r = in_range g.p good.0 in
    let b : at g.c.now g.p.n < Q = (c.type_inv.c g.p.n).fits in
    let t = rw same at c.told_into.ensures in
    let drifts = t.drifted ∙ sym (drift_words g.p r g.key.now g.z.now k.bits g.ksk.now g.bsk.now g.modulus g.table.now k.fits g.c.now b g.value g.results) in
    λ o i. ap (phase_of g.p.n g.key.now) t.written
    ∙ carries g.p r g.key.now g.z.now k.bits g.ksk.now g.bsk.now g.modulus g.table.now k.fits g.c.now b g.value i
    ∙ sym (ap (λ (l : List ℕ). (at g.table.now (g.value % g.modulus) + at l 1) % Q) drifts)

pub returns-clause-right : goal.returns-clause-right
unfolding Q
returns-clause-right c =
    let g = c.args in
    let z = given_ok _ _ (sym c.in_ok-checked.ensures) in
    let same : c.in_ok-checked.checked ≡ g.p = ok_same (c.in_ok-checked.ensures ∙ given_done _ _ z) in
    let good = lookup_drift_good g.p g.modulus (length g.table.now) g.results (length g.ksk.now) (length g.bsk.now) g.key.now g.z.now (length g.c.now) (length g.out.now) (length g.drifts.now) z in
    let k = good.1 in
    let r = in_range g.p good.0 in
    let b : at g.c.now g.p.n < Q = (c.type_inv.c g.p.n).fits in
    let t = rw same at c.told_into.ensures in
    let both = both_words g.p r g.key.now g.z.now k.bits g.ksk.now g.bsk.now g.modulus g.table.now k.fits g.c.now b g.value g.results in
    let drifts = t.drifted ∙ sym (drift_words g.p r g.key.now g.z.now k.bits g.ksk.now g.bsk.now g.modulus g.table.now k.fits g.c.now b g.value g.results) in
    λ h. carries_as t.written (ap (λ (l : List ℕ). at l 1) drifts)
    (inside_carries g.p r g.key.now g.z.now k.bits g.ksk.now g.bsk.now g.modulus g.table.now k.fits g.c.now b g.value g.results k.outcome (both ∙ sym t.told ∙ ok_same h))
