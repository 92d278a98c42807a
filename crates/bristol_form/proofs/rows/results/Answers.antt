-- `bristol_form::rows::results` meets its contract. The loop's invariant: p is the place after y results, whose bits are set, and the row's answer is that of the results from y on.
-- Assumes nothing.
use mathlib.Core.Path.{◌≡◌, sym, ap, ◌∙◌}
use mathlib.Core.Bool.{not, ◌&&◌}
use Prim.Native.Nat.{ℕ}
use native.Mathlib.Omega.{arith}
use lib.Dec.{ltb}
use Rattle.std.specs.Prelude.{Err}
use Rattle.std.proofs.Common.{rules}
use Rattle.params.specs.declared.refusal.Refusal.TheVariants.{Text}
use Rattle.circuit.specs.Form.{first}
use Rattle.circuit.proofs.Steps.{first_start}
use Rattle.tokens.specs.Tokens.{past, number_at, place_at}
use Rattle.tokens.proofs.Laws.{past_none}
use Rattle.tokens.proofs.Reading.{reading}
use Rattle.bristol_form.specs.Says.{gate_at, is_set, set_by}
use Rattle.bristol_form.specs.Form.{result_answer}
use Rattle.bristol_form.proofs.GateParts.{result_asks}
use Rattle.bristol_form.proofs.Tells.{unless_text, unless_held, given_value, row_fails, row_holds, row_done}
use Rattle.bristol_form.proofs.Holding.{holds_more}
use Rattle.bristol_form.proofs.rows.results.Goals as goal

pub loop-y-init : goal.loop-y-init
loop-y-init c =
    let a = c.args in
    (sym (past_none a.text.now a.at), first_start (result_answer a.text.now a.j) a.count, c.requires.says.1)

pub returns-in_err-unless-clause-said : goal.returns-in_err-unless-clause-said
returns-in_err-unless-clause-said c =
    let a = c.args in
    let text = a.text.now in
    let l = c.loop-y in
    let w = c.next-t.result.number in
    let r = reading text a.at l.y l.invariant.0 c.next-t.ensures in
    let f : c.from_residual.result ≡ Err c.in_err-unless.field-0.0 = search rules in
    f ∙ unless_text c.result_good.result c.next-t.result.start (first (result_answer text a.j) 0 a.count) (past text a.at a.count) (place_at text a.at l.y) (sym c.unless.ensures ∙ c.in_err-unless.was) r.start_is
    (λ z. row_fails (result_answer text a.j) l.y a.count l.invariant.1 (ltb w a.h.wires && not (is_set text a.j w) && not (set_by text (gate_at text a.j) l.y w)) (place_at text a.at l.y)
    (result_asks text a.j a.at a.h.wires l.y w c.requires.at_value.0 c.requires.says.0.wires_are r.number_is) (omega arith) (sym c.result_good.ensures ∙ z))

pub loop-y-preserved : goal.loop-y-preserved
loop-y-preserved c =
    let a = c.args in
    let text = a.text.now in
    let l = c.loop-y in
    let h = c.hold in
    let w = c.next-t.result.number in
    let r = reading text a.at l.y l.invariant.0 c.next-t.ensures in
    let t = unless_held c.result_good.result (Text c.next-t.result.start) (sym c.unless.ensures ∙ c.in_ok-unless.was) in (
      r.end_is,
      row_holds (result_answer text a.j) l.y a.count l.invariant.1 (ltb w a.h.wires && not (is_set text a.j w) && not (set_by text (gate_at text a.j) l.y w)) (place_at text a.at l.y)
          (result_asks text a.j a.at a.h.wires l.y w c.requires.at_value.0 c.requires.says.0.wires_are r.number_is) (omega arith) (sym c.result_good.ensures ∙ t),
      holds_more text l.bits h.new.bits a.j l.y w l.invariant.2 h.ensures.bits_len_unchanged h.ensures.each
          (r.number_is ∙ ap (λ (q : ℕ). number_at text q l.y) c.requires.at_value.0),
    )

pub returns-clause-said : goal.returns-clause-said
returns-clause-said c =
    let a = c.args in
    let text = a.text.now in
    let l = c.loop-y in
    let e : l.y ≡ a.count = omega arith in
    given_value (first (result_answer text a.j) 0 a.count) (past text a.at a.count) (row_done (result_answer text a.j) l.y a.count l.invariant.1 (omega arith))
    (l.invariant.0 ∙ ap (past text a.at) e)
