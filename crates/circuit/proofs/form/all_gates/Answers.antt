-- `circuit::form::all_gates` meets its contract. The loop's invariant: the first refusal of all is the first among those from g on.
-- Assumes nothing.
use mathlib.Core.Path.{sym, ap, ◌∙◌}
use native.Mathlib.Omega.{arith}
use borrow.Author.Rules.{rules}
use Rattle.params.specs.Refusal.{outcome}
use Rattle.circuit.specs.Form.{gates}
use Rattle.circuit.specs.Private.{gate_answer}
use Rattle.circuit.proofs.Outcomes.{outcome_stop, outcome_step, outcome_end}
use Rattle.circuit.proofs.form.all_gates.Goals as goal

pub returns-in_err-gate : goal.returns-in_err-gate
returns-in_err-gate c =
    let b = c.args.bytes.now in
    let q = sym (ap outcome c.loop-g.invariant ∙ outcome_stop (gate_answer b) c.loop-g.g (gates b) (omega arith) (sym c.gate.ensures ∙ c.in_err-gate.was)) in
    search rules

pub loop-g-preserved : goal.loop-g-preserved
loop-g-preserved c =
    let b = c.args.bytes.now in
    c.loop-g.invariant ∙ outcome_step (gate_answer b) c.loop-g.g (gates b) (omega arith) (sym c.gate.ensures ∙ c.in_ok-gate.was)

pub returns : goal.returns
returns c =
    let b = c.args.bytes.now in
    sym (ap outcome c.loop-g.invariant ∙ outcome_end (gate_answer b) c.loop-g.g (gates b) (omega arith))
