-- `drift_run::drift_gate` meets its contract: a refusal leaves all as it was; else the gate's ciphertext and drift, as the definitions in whole numbers have them.
-- Assumes nothing.
use Rattle.std.proofs.Common.{◌≡◌, sym, ap, ◌∙◌}
use Prim.Native.Nat.{ℕ, ◌<◌}
use native.Mathlib.Omega.{arith}
use borrow.Author.Rules.{rules}
use mir.Val.{Fits}
use mir.Syntax.{w32}
use lib.ListN.{length, get_or}
use Rattle.std.specs.Prelude.{Ok}
use Rattle.ring.specs.Word.{Q, at}
use Rattle.params.proofs.Answers.{kept, done, given_ok, given_done}
use Rattle.params.proofs.Ranges.{in_range}
use Rattle.turns.proofs.Given.{number_refused, ok_same}
use Rattle.drift_run.specs.declared.Brought.{Brought}
use Rattle.drift_run.specs.declared.by_way.Drifted.{Drifted}
use Rattle.drift_run.specs.Run.{gate_brought, brought_of, gate_wires_after, gate_drifts_after}
use Rattle.drift_run.proofs.Checks.{gate_good}
use Rattle.drift_run.proofs.Results.{told-inside, told_worst, drifts_put}
use Rattle.drift_run.proofs.drift_gate.Goals as goal

pub returns-in_err-c-clause-held : goal.returns-in_err-c-clause-held
unfolding gate_wires_after
returns-in_err-c-clause-held c = kept _ _ _ (number_refused _ c.args.p (sym c.in_err-c.ensures))

pub returns-in_err-c-clause-written : goal.returns-in_err-c-clause-written
unfolding gate_drifts_after
returns-in_err-c-clause-written c = kept _ _ _ (number_refused _ c.args.p (sym c.in_err-c.ensures))

pub one_or_none-told-requires : goal.one_or_none-told-requires
one_or_none-told-requires c =
    let g = c.args in
    let z = given_ok _ _ (sym c.in_ok-c.ensures) in
    let same : c.in_ok-c.c ≡ g.p = ok_same (c.in_ok-c.ensures ∙ given_done _ _ z) in
    rw same (gate_good g.p (length g.ksk.now) (length g.bsk.now) g.key.now g.z.now g.bytes.now (length g.wires.now) (length g.drifts.now) z).lent

pub returns-clause-said : goal.returns-clause-said
unfolding Q
returns-clause-said c =
    let g = c.args in
    let z = given_ok _ _ (sym c.in_ok-c.ensures) in
    let same : c.in_ok-c.c ≡ g.p = ok_same (c.in_ok-c.ensures ∙ given_done _ _ z) in
    let good = gate_good g.p (length g.ksk.now) (length g.bsk.now) g.key.now g.z.now g.bytes.now (length g.wires.now) (length g.drifts.now) z in
    let f = good.lent.passing.finished in
    let r = in_range g.p good.good in
    let one = rw same at c.one_or_none-told.ensures.told in
    let below : (i : ℕ) → at g.drifts.now i < Q = λ i. (let h : Fits w32 (get_or g.drifts.now i 0) = search rules in omega (arith, h)) in
    let inside = ap (λ (d : Drifted). d.inside) one ∙ told-inside g.p r g.key.now g.z.now f.secret.bits g.ksk.now g.bsk.now g.bytes.now g.wires.now g.drifts.now g.g f.valid f.wires_length below in
    let worst = ap (λ (d : Drifted). d.worst) one ∙ told_worst g.p r g.key.now g.z.now f.secret.bits g.ksk.now g.bsk.now g.bytes.now g.wires.now g.drifts.now g.g f.valid f.wires_length below in
    let both : ◌≡◌ {A = Brought} (record { inside = c.one_or_none-told.result.inside; worst = record { 0 = c.one_or_none-told.result.worst } }) (brought_of (gate_brought g.p g.key.now g.bytes.now g.g g.wires.now g.drifts.now)) =
    λ i. record { inside = inside i; worst = record { 0 = worst i } }
    in
    ap Ok both ∙ sym (given_done _ _ z)

pub returns-clause-held : goal.returns-clause-held
unfolding gate_wires_after
returns-clause-held c =
    let g = c.args in
    let z = given_ok _ _ (sym c.in_ok-c.ensures) in
    let same : c.in_ok-c.c ≡ g.p = ok_same (c.in_ok-c.ensures ∙ given_done _ _ z) in
    done _ _ _ z (rw same at c.one_or_none-told.ensures.held)

pub returns-clause-written : goal.returns-clause-written
unfolding gate_drifts_after Q
returns-clause-written c =
    let g = c.args in
    let z = given_ok _ _ (sym c.in_ok-c.ensures) in
    let same : c.in_ok-c.c ≡ g.p = ok_same (c.in_ok-c.ensures ∙ given_done _ _ z) in
    let good = gate_good g.p (length g.ksk.now) (length g.bsk.now) g.key.now g.z.now g.bytes.now (length g.wires.now) (length g.drifts.now) z in
    let f = good.lent.passing.finished in
    let r = in_range g.p good.good in
    let below : (i : ℕ) → at g.drifts.now i < Q = λ i. (let h : Fits w32 (get_or g.drifts.now i 0) = search rules in omega (arith, h)) in
    done _ _ _ z (rw same at c.one_or_none-told.ensures.written ∙ drifts_put g.p r g.key.now g.z.now f.secret.bits g.ksk.now g.bsk.now g.bytes.now g.wires.now g.drifts.now g.g f.valid f.wires_length below)
