-- `drift_run::answers::run_checks` meets its contract: the three parts of its answer, one after the other.
-- Assumes nothing.
use Rattle.std.proofs.Common.{rules, ◌∙◌, sym}
use Rattle.params.proofs.Answers.{given_ok, given_done}
use Rattle.drift_run.specs.Refusals.{secrets_number, lent_number, drift_answer}
use Rattle.drift_run.proofs.Checks.{around_first, around_circuit, around_last, around_passed}
use Rattle.drift_run.proofs.answers.run_checks.Goals as goal

pub returns-in_err-c : goal.returns-in_err-c
unfolding drift_answer
returns-in_err-c c =
    let g = c.args in
    let q = around_first (secrets_number g.p g.lk g.ls g.key.now g.z.now) g.bytes.now (lent_number g.p g.bytes.now g.li g.lp g.lw g.lo g.ld) g.p _ (sym c.in_err-c.ensures) in
    search rules

pub returns-in_err-check : goal.returns-in_err-check
unfolding drift_answer
returns-in_err-check c =
    let g = c.args in
    let z = given_ok _ _ (sym c.in_ok-c.ensures) in
    let q = around_circuit (secrets_number g.p g.lk g.ls g.key.now g.z.now) g.bytes.now (lent_number g.p g.bytes.now g.li g.lp g.lw g.lo g.ld) g.p z (sym c.in_err-check.ensures) in
    search rules

pub returns-in_err-run_lengths : goal.returns-in_err-run_lengths
unfolding drift_answer
returns-in_err-run_lengths c =
    let g = c.args in
    let z = given_ok _ _ (sym c.in_ok-c.ensures) in
    let o = given_ok _ _ (sym c.in_ok-check.ensures) in
    let q = around_last (secrets_number g.p g.lk g.ls g.key.now g.z.now) g.bytes.now (lent_number g.p g.bytes.now g.li g.lp g.lw g.lo g.ld) g.p z o (sym c.in_err-run_lengths.ensures) in
    search rules

pub returns : goal.returns
unfolding drift_answer
returns c =
    let g = c.args in
    let z = given_ok _ _ (sym c.in_ok-c.ensures) in
    let o = given_ok _ _ (sym c.in_ok-check.ensures) in
    let a = given_ok _ _ (sym c.in_ok-run_lengths.ensures) in
    c.in_ok-c.ensures ∙ given_done _ _ z ∙ sym (around_passed (secrets_number g.p g.lk g.ls g.key.now g.z.now) g.bytes.now (lent_number g.p g.bytes.now g.li g.lp g.lw g.lo g.ld) g.p z o a)
