-- `bristol_form::numbers::read_counts` meets its contract: the two numbers in order, each read by the next token.
-- Assumes nothing.
use mathlib.Core.Path.{◌≡◌, sym, ap, ◌∙◌}
use borrow.Author.Tests.{eqb-true, eqb-false, eq-eqb, ne_eqb}
use lib.Dec.{eqb}
use Rattle.std.specs.Prelude.{Err}
use Rattle.std.proofs.Common.{rules}
use Rattle.params.specs.declared.refusal.Refusal.TheVariants.{Text}
use Rattle.tokens.specs.Tokens.{token_at, place_at}
use Rattle.tokens.proofs.Laws.{past_none}
use Rattle.tokens.proofs.Reading.{reading}
use Rattle.bristol_form.specs.Says.{gate_at, operand_count, result_count}
use Rattle.bristol_form.specs.Form.{results_for}
use Rattle.bristol_form.specs.Private.{counts_answer, counts_of}
use Rattle.bristol_form.proofs.Tells.{unless_text, unless_held, given_value}
use Rattle.bristol_form.proofs.Lookup.{operands_are, results_are, operands_at}
use Rattle.bristol_form.proofs.GateTests.{count_good_is}
use Rattle.bristol_form.proofs.GateParts.{counts_first, counts_second, counts_done}
use Rattle.bristol_form.proofs.numbers.read_counts.Goals as goal

pub returns-in_err-unless : goal.returns-in_err-unless
returns-in_err-unless c =
    let a = c.args in
    let text = a.text.now in
    let g = gate_at text a.j in
    let s = c.requires.says in
    let k = c.next-k in
    let e = k.ensures ∙ ap (token_at text) c.requires.j_lt_gates.1 in
    let r = reading text g 0 (sym (past_none text g)) e in
    let f : c.from_residual.result ≡ Err c.in_err-unless.field-0.0 = search rules in
    f ∙ unless_text c.count_fits.result k.result.start (counts_answer text a.j) (counts_of text a.j) (place_at text g 0) (sym c.unless.ensures ∙ c.in_err-unless.was) r.start_is
    (λ z. counts_first text a.j (sym (count_good_is text a.j k.result.number (operand_count text g) a.set a.h.gates a.h.wires r.number_is c.requires.j_lt_gates.2 s.gates_are s.wires_are) ∙ sym c.count_fits.ensures ∙ z))

pub returns-in_err-unless-2 : goal.returns-in_err-unless-2
returns-in_err-unless-2 c =
    let a = c.args in
    let text = a.text.now in
    let g = gate_at text a.j in
    let s = c.requires.says in
    let k = c.next-k in
    let r = c.next-r in
    let e = k.ensures ∙ ap (token_at text) c.requires.j_lt_gates.1 in
    let n = operands_are text g k.result r.result e r.ensures in
    let m = results_are text g k.result r.result e r.ensures in
    let held = unless_held c.count_fits.result (Text k.result.start) (sym c.unless.ensures ∙ c.in_ok-unless.was) in
    let counted = sym (count_good_is text a.j k.result.number (operand_count text g) a.set a.h.gates a.h.wires n c.requires.j_lt_gates.2 s.gates_are s.wires_are) ∙ sym c.count_fits.ensures ∙ held in
    let f : c.from_residual-in_err-unless-2.result ≡ Err c.in_err-unless-2.field-0.0 = search rules in
    let same : results_for k.result.number ≡ results_for (operand_count text g) = ap results_for n in
    f ∙ unless_text (eqb r.result.number c.results_for.result) r.result.start (counts_answer text a.j) (counts_of text a.j) (place_at text g 1) (sym c.unless-2.ensures ∙ c.in_err-unless-2.was)
    (reading text g 1 (reading text g 0 (sym (past_none text g)) e).end_is r.ensures).start_is
    (λ z. counts_second text a.j counted (ne_eqb (result_count text g) (results_for (operand_count text g)) (λ y. eqb-false r.result.number c.results_for.result z (m ∙ y ∙ sym same ∙ sym c.results_for.ensures.value))))

pub returns : goal.returns
unfolding counts_of
returns c =
    let a = c.args in
    let text = a.text.now in
    let g = gate_at text a.j in
    let s = c.requires.says in
    let k = c.next-k in
    let r = c.next-r in
    let e = k.ensures ∙ ap (token_at text) c.requires.j_lt_gates.1 in
    let n = operands_are text g k.result r.result e r.ensures in
    let m = results_are text g k.result r.result e r.ensures in
    let held = unless_held c.count_fits.result (Text k.result.start) (sym c.unless.ensures ∙ c.in_ok-unless.was) in
    let counted = sym (count_good_is text a.j k.result.number (operand_count text g) a.set a.h.gates a.h.wires n c.requires.j_lt_gates.2 s.gates_are s.wires_are) ∙ sym c.count_fits.ensures ∙ held in
    let same = eqb-true r.result.number c.results_for.result (unless_held (eqb r.result.number c.results_for.result) (Text r.result.start) (sym c.unless-2.ensures ∙ c.in_ok-unless-2.was)) in
    let at = operands_at text g k.result r.result e r.ensures in
    given_value (counts_answer text a.j) (counts_of text a.j)
    (counts_done text a.j counted (eq-eqb (result_count text g) (results_for (operand_count text g)) (sym m ∙ same ∙ c.results_for.ensures.value ∙ ap results_for n)))
    (λ i. record { operands = n i; results = m i; at = at i })
