-- `drift_run::drift_run` meets its contract: a refusal leaves all as it was; else the run and its drifts, as the definitions in whole numbers have them, and demand 3.
-- Assumes nothing.
use Rattle.std.proofs.Common.{◌≡◌, sym, ap, ◌∙◌}
use lib.ListN.{length}
use Rattle.std.specs.Prelude.{Ok}
use Rattle.params.proofs.Answers.{kept, done, given_ok, given_done}
use Rattle.params.proofs.Ranges.{in_range}
use Rattle.turns.proofs.Given.{number_refused, ok_same}
use Rattle.drift_run.specs.Run.{drift_wires_after, drift_outputs_after, drifts_after}
use Rattle.drift_run.proofs.Checks.{run_good}
use Rattle.drift_run.proofs.Results.{drifts_are, inside_is, right_is}
use Rattle.drift_run.proofs.drift_run.Goals as goal

pub returns-in_err-c-clause-held : goal.returns-in_err-c-clause-held
unfolding drift_wires_after
returns-in_err-c-clause-held c = kept _ _ _ (number_refused _ c.args.p (sym c.in_err-c.ensures))

pub returns-in_err-c-clause-written : goal.returns-in_err-c-clause-written
unfolding drift_outputs_after
returns-in_err-c-clause-written c = kept _ _ _ (number_refused _ c.args.p (sym c.in_err-c.ensures))

pub returns-in_err-c-clause-drifted : goal.returns-in_err-c-clause-drifted
unfolding drifts_after
returns-in_err-c-clause-drifted c = kept _ _ _ (number_refused _ c.args.p (sym c.in_err-c.ensures))

pub run_into-requires : goal.run_into-requires
run_into-requires c =
    let g = c.args in
    let z = given_ok _ _ (sym c.in_ok-c.ensures) in
    let same : c.in_ok-c.c ≡ g.p = ok_same (c.in_ok-c.ensures ∙ given_done _ _ z) in
    rw same (run_good g.p (length g.ksk.now) (length g.bsk.now) g.key.now g.z.now g.bytes.now (length g.ins.now) (length g.plain.now) (length g.wires.now) (length g.out.now) (length g.drifts.now) z).lent

pub returns-clause-said : goal.returns-clause-said
returns-clause-said c =
    let g = c.args in
    let z = given_ok _ _ (sym c.in_ok-c.ensures) in
    let same : c.in_ok-c.c ≡ g.p = ok_same (c.in_ok-c.ensures ∙ given_done _ _ z) in
    let good = run_good g.p (length g.ksk.now) (length g.bsk.now) g.key.now g.z.now g.bytes.now (length g.ins.now) (length g.plain.now) (length g.wires.now) (length g.out.now) (length g.drifts.now) z in
    let f = good.lent.gate.passing.finished in
    let r = in_range g.p good.good in
    let run = rw same at c.run_into.ensures in
    ap Ok (run.told ∙ inside_is g.p r g.key.now g.z.now f.secret.bits g.ksk.now g.bsk.now g.bytes.now g.ins.now g.plain.now f.valid good.lent.ins_length) ∙ sym (given_done _ _ z)

pub returns-clause-held : goal.returns-clause-held
unfolding drift_wires_after
returns-clause-held c =
    let g = c.args in
    let z = given_ok _ _ (sym c.in_ok-c.ensures) in
    let same : c.in_ok-c.c ≡ g.p = ok_same (c.in_ok-c.ensures ∙ given_done _ _ z) in
    done _ _ _ z (rw same at c.run_into.ensures.held)

pub returns-clause-written : goal.returns-clause-written
unfolding drift_outputs_after
returns-clause-written c =
    let g = c.args in
    let z = given_ok _ _ (sym c.in_ok-c.ensures) in
    let same : c.in_ok-c.c ≡ g.p = ok_same (c.in_ok-c.ensures ∙ given_done _ _ z) in
    done _ _ _ z (rw same at c.run_into.ensures.written)

pub returns-clause-drifted : goal.returns-clause-drifted
unfolding drifts_after
returns-clause-drifted c =
    let g = c.args in
    let z = given_ok _ _ (sym c.in_ok-c.ensures) in
    let same : c.in_ok-c.c ≡ g.p = ok_same (c.in_ok-c.ensures ∙ given_done _ _ z) in
    let good = run_good g.p (length g.ksk.now) (length g.bsk.now) g.key.now g.z.now g.bytes.now (length g.ins.now) (length g.plain.now) (length g.wires.now) (length g.out.now) (length g.drifts.now) z in
    let f = good.lent.gate.passing.finished in
    let r = in_range g.p good.good in
    let run = rw same at c.run_into.ensures in
    done _ _ _ z (run.drifted ∙ drifts_are g.p r g.key.now g.z.now f.secret.bits g.ksk.now g.bsk.now g.bytes.now g.ins.now g.plain.now f.valid good.lent.ins_length)

pub returns-clause-right : goal.returns-clause-right
returns-clause-right c =
    let g = c.args in
    let z = given_ok _ _ (sym c.in_ok-c.ensures) in
    let same : c.in_ok-c.c ≡ g.p = ok_same (c.in_ok-c.ensures ∙ given_done _ _ z) in
    let good = run_good g.p (length g.ksk.now) (length g.bsk.now) g.key.now g.z.now g.bytes.now (length g.ins.now) (length g.plain.now) (length g.wires.now) (length g.out.now) (length g.drifts.now) z in
    let f = good.lent.gate.passing.finished in
    let r = in_range g.p good.good in
    let run = rw same at c.run_into.ensures in
    λ h. right_is g.p r g.key.now g.z.now f.secret.bits g.ksk.now g.bsk.now g.bytes.now g.ins.now g.plain.now f.valid good.lent.ins_length run.told run.written (ok_same h)
