-- `circuit::form::check` meets its contract: the gates are read behind a head that is not refused.
-- Assumes nothing.
use mathlib.Core.Path.{sym, ◌∙◌}
use Rattle.params.proofs.Answers.{given_ok}
use Rattle.circuit.specs.Private.{head_answer}
use Rattle.circuit.proofs.Accept.{head_good}
use Rattle.circuit.proofs.form.check.Goals as goal

pub all_gates-requires : goal.all_gates-requires
all_gates-requires c = let b = c.args.bytes.now in head_good b (given_ok (head_answer b) tt (sym c.head.ensures ∙ c.in_ok-head.was))
