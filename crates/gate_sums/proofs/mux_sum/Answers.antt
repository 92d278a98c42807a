-- `gate_sums::mux_sum` meets its contract: `add` writes the sum, and the eighth is added.
-- Assumes nothing.
use mathlib.Core.Path.{sym, ◌∙◌}
use Rattle.params.proofs.Answers.{done, when_done, given_ok}
use Rattle.gate_sums.proofs.Sums.{long, mux_sum_made}
use Rattle.gate_sums.proofs.mux_sum.Goals as goal

pub add_last-requires : goal.add_last-requires
add_last-requires c = let e = c.in_ok-add.ensures in long _ _ _ (e.written ∙ when_done _ _ _ (given_ok _ _ (sym e.said)))

pub returns-clause-written : goal.returns-clause-written
returns-clause-written c =
    let g = c.args in
    let e = c.in_ok-add.ensures in
    let z = given_ok _ _ (sym e.said) in
    done _ _ _ z (mux_sum_made g.p g.u.now g.v.now (e.written ∙ when_done _ _ _ z) c.add_last.ensures)
