-- `bristol_form::wires::is_among` meets its contract. The loop's invariant: p is the place after i tokens, and w is not among their numbers.
-- Assumes nothing.
use mathlib.Core.Path.{sym, ◌∙◌}
use native.Mathlib.Omega.{arith}
use Rattle.tokens.proofs.Laws.{past_none}
use Rattle.tokens.proofs.Reading.{reading}
use Rattle.bristol_form.proofs.Lookup.{among_none, among_found, among_passed}
use Rattle.bristol_form.proofs.wires.is_among.Goals as goal

pub loop-init : goal.loop-init
loop-init c = let a = c.args in (sym (past_none a.text.now a.at), among_none a.text.now a.at a.w)

pub returns-then-t-w : goal.returns-then-t-w
returns-then-t-w c =
    let l = c.loop in
    let a = c.args in
    let t = c.next-t in
    sym (among_found a.text.now a.at a.w l.counter a.count (omega arith)
    (sym c.if-t-w.true ∙ (reading a.text.now a.at l.counter l.invariant.0 t.ensures).number_is))

pub loop-preserved : goal.loop-preserved
loop-preserved c =
    let l = c.loop in
    let a = c.args in
    let t = c.next-t in (
      (reading a.text.now a.at l.counter l.invariant.0 t.ensures).end_is,
      among_passed a.text.now a.at a.w l.counter l.invariant.1
          (λ e. c.if-t-w.false ((reading a.text.now a.at l.counter l.invariant.0 t.ensures).number_is ∙ sym e)),
    )
