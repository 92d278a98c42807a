-- `circuit::form::all_outputs` meets its contract. The loop's invariant: the first refusal of all is the first among those from o on.
-- Assumes nothing.
use mathlib.Core.Path.{sym, ap, ◌∙◌}
use native.Mathlib.Omega.{arith}
use borrow.Author.Rules.{rules}
use Rattle.params.specs.Refusal.{outcome}
use Rattle.circuit.specs.Form.{outputs, output_answer}
use Rattle.circuit.proofs.Outcomes.{outcome_stop, outcome_step, outcome_end}
use Rattle.circuit.proofs.form.all_outputs.Goals as goal

pub returns-in_err-output : goal.returns-in_err-output
returns-in_err-output c =
    let b = c.args.bytes.now in
    let q = sym (ap outcome c.loop-o.invariant ∙ outcome_stop (output_answer b) c.loop-o.o (outputs b) (omega arith) (sym c.output.ensures ∙ c.in_err-output.was)) in
    search rules

pub loop-o-preserved : goal.loop-o-preserved
loop-o-preserved c =
    let b = c.args.bytes.now in
    c.loop-o.invariant ∙ outcome_step (output_answer b) c.loop-o.o (outputs b) (omega arith) (sym c.output.ensures ∙ c.in_ok-output.was)

pub returns : goal.returns
returns c =
    let b = c.args.bytes.now in
    sym (ap outcome c.loop-o.invariant ∙ outcome_end (output_answer b) c.loop-o.o (outputs b) (omega arith))
