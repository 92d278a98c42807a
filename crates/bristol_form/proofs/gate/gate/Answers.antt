-- `bristol_form::gate::gate` meets its contract: the first part that is refused refuses the gate.
-- Assumes nothing.
use mathlib.Core.Path.{◌≡◌, sym, ◌∙◌}
use Rattle.std.specs.Prelude.{Err}
use Rattle.std.proofs.Common.{rules}
use Rattle.bristol_form.proofs.GateParts.{refused_counts, refused_operands, refused_results, holds_after, on_ok}
use Rattle.bristol_form.proofs.gate.gate.Goals as goal

pub returns-in_err-c-clause-said : goal.returns-in_err-c-clause-said
returns-in_err-c-clause-said c =
    let f : c.from_residual.result ≡ Err c.in_err-c.field-0.0 = search rules in
    f ∙ refused_counts c.args.text.now c.args.j (sym c.read_counts.ensures ∙ c.in_err-c.was)

pub returns-in_err-r-clause-said : goal.returns-in_err-r-clause-said
returns-in_err-r-clause-said c =
    let f : c.from_residual-in_err-r.result ≡ Err c.in_err-r.field-0.0 = search rules in
    f ∙ refused_operands c.args.text.now c.args.j c.in_ok-c.c (sym c.read_counts.ensures ∙ c.in_ok-c.was) (sym c.operands.ensures ∙ c.in_err-r.was)

pub returns-in_err-n-clause-said : goal.returns-in_err-n-clause-said
returns-in_err-n-clause-said c =
    let f : c.from_residual-in_err-n.result ≡ Err c.in_err-n.field-0.0 = search rules in
    f ∙ refused_results c.args.text.now c.args.j c.in_ok-c.c (sym c.read_counts.ensures ∙ c.in_ok-c.was) c.in_ok-r.r (sym c.operands.ensures ∙ c.in_ok-r.was) (sym c.results.ensures.said ∙ c.in_err-n.was)

pub returns-clause-holds : goal.returns-clause-holds
returns-clause-holds c =
    on_ok c.named.result
    (holds_after c.args.text.now c.args.j c.in_ok-c.c (sym c.read_counts.ensures ∙ c.in_ok-c.was) c.in_ok-r.r (sym c.operands.ensures ∙ c.in_ok-r.was) c.in_ok-n.n (sym c.results.ensures.said ∙ c.in_ok-n.was) c.results.new.bits c.in_ok-n.ensures.holds)
