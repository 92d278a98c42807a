-- `bristol_form::rows::operands` meets its contract. The loop's invariant: p is the place after so many operands, and the row's answer is that of the operands from there on.
-- Assumes nothing.
use mathlib.Core.Path.{◌≡◌, sym, ap, ◌∙◌}
use mathlib.Core.Bool.{◌&&◌, ◌||◌}
use native.Mathlib.Omega.{arith}
use lib.Dec.{leb, eqb}
use Rattle.std.specs.Prelude.{Err}
use Rattle.std.proofs.Common.{rules}
use Rattle.params.specs.declared.refusal.Refusal.TheVariants.{Text}
use Rattle.circuit.specs.Form.{first}
use Rattle.circuit.proofs.Steps.{first_start}
use Rattle.tokens.specs.Tokens.{past, place_at}
use Rattle.tokens.proofs.Laws.{past_none}
use Rattle.tokens.proofs.Reading.{reading}
use Rattle.bristol_form.specs.Says.{is_set}
use Rattle.bristol_form.specs.Form.{operand_answer}
use Rattle.bristol_form.proofs.GateParts.{operand_asks}
use Rattle.bristol_form.proofs.Tells.{unless_text, unless_held, given_value, row_fails, row_holds, row_done}
use Rattle.bristol_form.proofs.rows.operands.Goals as goal

pub loop-init : goal.loop-init
loop-init c = let a = c.args in (sym (past_none a.text.now a.at), first_start (operand_answer a.text.now a.j) a.count)

pub returns-in_err-unless : goal.returns-in_err-unless
returns-in_err-unless c =
    let a = c.args in
    let text = a.text.now in
    let l = c.loop in
    let i = l.counter in
    let w = c.next-t.result.number in
    let r = reading text a.at i l.invariant.0 c.next-t.ensures in
    let f : c.from_residual.result ≡ Err c.in_err-unless.field-0.0 = search rules in
    f ∙ unless_text c.operand_good.result c.next-t.result.start (first (operand_answer text a.j) 0 a.count) (past text a.at a.count) (place_at text a.at i) (sym c.unless.ensures ∙ c.in_err-unless.was) r.start_is
    (λ z. row_fails (operand_answer text a.j) i a.count l.invariant.1 (is_set text a.j w || eqb a.count 1 && leb w 1) (place_at text a.at i)
    (operand_asks text a.j a.at a.count i w c.requires.at_value.0 c.requires.at_value.1 r.number_is) (omega arith) (sym c.operand_good.ensures ∙ z))

pub loop-preserved : goal.loop-preserved
loop-preserved c =
    let a = c.args in
    let text = a.text.now in
    let l = c.loop in
    let i = l.counter in
    let w = c.next-t.result.number in
    let r = reading text a.at i l.invariant.0 c.next-t.ensures in
    let t = unless_held c.operand_good.result (Text c.next-t.result.start) (sym c.unless.ensures ∙ c.in_ok-unless.was) in (
      r.end_is,
      row_holds (operand_answer text a.j) i a.count l.invariant.1 (is_set text a.j w || eqb a.count 1 && leb w 1) (place_at text a.at i)
          (operand_asks text a.j a.at a.count i w c.requires.at_value.0 c.requires.at_value.1 r.number_is) (omega arith) (sym c.operand_good.ensures ∙ t),
    )

pub returns : goal.returns
returns c =
    let a = c.args in
    let text = a.text.now in
    let l = c.loop in
    let e : l.counter ≡ a.count = omega arith in
    given_value (first (operand_answer text a.j) 0 a.count) (past text a.at a.count) (row_done (operand_answer text a.j) l.counter a.count l.invariant.1 (omega arith))
    (l.invariant.0 ∙ ap (past text a.at) e)
