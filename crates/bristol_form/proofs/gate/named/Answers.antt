-- `bristol_form::gate::named` meets its contract: the name goes with the operands, or it is refused.
-- Assumes nothing.
use mathlib.Core.Path.{◌≡◌, sym, ap, ◌∙◌}
use Rattle.std.specs.Prelude.{Err}
use Rattle.std.proofs.Common.{rules}
use Rattle.params.specs.declared.refusal.Refusal.TheVariants.{Text}
use Rattle.tokens.specs.Tokens.{name_at, place_at}
use Rattle.bristol_form.specs.Form.{name_good}
use Rattle.bristol_form.specs.Private.{name_answer, named_of}
use Rattle.bristol_form.proofs.Tells.{unless_text, unless_held, fails_at, holds_at, given_value}
use Rattle.bristol_form.proofs.GateParts.{name_number_is, name_start_is, name_end_is}
use Rattle.bristol_form.proofs.gate.named.Goals as goal

pub returns-in_err-unless : goal.returns-in_err-unless
unfolding name_answer
returns-in_err-unless c =
    let a = c.args in
    let text = a.text.now in
    let n = c.name-n in
    let f : c.from_residual.result ≡ Err c.in_err-unless.field-0.0 = search rules in
    f ∙ unless_text c.name_good.result n.result.start (name_answer text a.k a.constant a.set a.at) (named_of text a.results a.at) (place_at text a.at 0) (sym c.unless.ensures ∙ c.in_err-unless.was)
    (name_start_is text a.at n.result n.ensures)
    (λ z. fails_at (name_good a.k a.constant a.set (name_at text a.at 0)) 11 (place_at text a.at 0) (ap (name_good a.k a.constant a.set) (sym (name_number_is text a.at n.result n.ensures)) ∙ sym c.name_good.ensures ∙ z))

pub returns : goal.returns
unfolding name_answer named_of
returns c =
    let a = c.args in
    let text = a.text.now in
    let n = c.name-n in
    let t = unless_held c.name_good.result (Text n.result.start) (sym c.unless.ensures ∙ c.in_ok-unless.was) in
    given_value (name_answer text a.k a.constant a.set a.at) (named_of text a.results a.at)
    (holds_at (name_good a.k a.constant a.set (name_at text a.at 0)) 11 (place_at text a.at 0) (ap (name_good a.k a.constant a.set) (sym (name_number_is text a.at n.result n.ensures)) ∙ sym c.name_good.ensures ∙ t))
    (λ i. record { results = a.results; name = name_number_is text a.at n.result n.ensures i; named = name_start_is text a.at n.result n.ensures i; at = name_end_is text a.at n.result n.ensures i })
