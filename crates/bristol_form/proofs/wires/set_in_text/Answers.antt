-- `bristol_form::wires::set_in_text` meets its contract. The loop's invariant: p is where gate i begins, and w is not set before that gate.
-- Assumes nothing.
use mathlib.Core.Path.{sym, ap, ◌∙◌}
use native.Mathlib.Omega.{arith}
use Rattle.tokens.specs.Tokens.{token_at}
use Rattle.bristol_form.specs.Says.{gate_at}
use Rattle.bristol_form.proofs.Lookup.{set_input, set_none, set_found, set_passed, gate_first, gate_next, results_among, next_at, token_small}
use Rattle.bristol_form.proofs.wires.set_in_text.Goals as goal

pub returns-then-w-h : goal.returns-then-w-h
returns-then-w-h c = let a = c.args in sym (set_input a.text.now a.w a.j (omega (arith, c.requires.inputs_are)))

pub loop-init : goal.loop-init
loop-init c =
    let a = c.args in
    (c.requires.body_is ∙ sym (gate_first a.text.now), set_none a.text.now a.w (omega (arith, c.requires.inputs_are)))

pub returns-then-is_among : goal.returns-then-is_among
returns-then-is_among c =
    let l = c.loop in
    let a = c.args in
    let text = a.text.now in
    let k = c.next-k in
    let r = c.next-r in
    let q = c.skip-results in
    let f = c.is_among in
    sym (set_found text a.w l.counter a.j (omega arith)
    (sym (results_among text (gate_at text l.counter) k.result r.result (k.ensures ∙ ap (token_at text) l.invariant.0) r.ensures q.result q.ensures a.w f.result f.ensures) ∙ c.if-is_among.true))

pub overflow_add-r : goal.overflow_add-r
overflow_add-r c =
    let r = c.next-r in
    let m = token_small c.args.text.now c.next-k.result.end r.result r.ensures in
    omega arith

pub loop-preserved : goal.loop-preserved
loop-preserved c =
    let l = c.loop in
    let a = c.args in
    let text = a.text.now in
    let k = c.next-k in
    let r = c.next-r in
    let q = c.skip-results in
    let f = c.is_among in
    let g = gate_at text l.counter in
    let e = k.ensures ∙ ap (token_at text) l.invariant.0 in (
      next_at text g k.result r.result e r.ensures q.result q.ensures c.skip-p.result c.skip-p.ensures ∙ sym (gate_next text l.counter),
      set_passed text a.w l.counter l.invariant.1 (sym (results_among text g k.result r.result e r.ensures q.result q.ensures a.w f.result f.ensures) ∙ c.if-is_among.false),
    )
