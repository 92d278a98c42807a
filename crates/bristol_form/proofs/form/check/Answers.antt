-- `bristol_form::form::check` meets its contract: the parts' answers in order, the form before the limits.
-- Assumes nothing.
use mathlib.Core.Path.{◌≡◌, sym, ◌∙◌}
use Rattle.std.specs.Prelude.{Err}
use Rattle.std.proofs.Common.{rules}
use Rattle.bristol_form.proofs.Whole.{refused_head, says, refused_gates, refused_end, head_limited, gates_limited, accepted_as}
use Rattle.bristol_form.proofs.form.check.Goals as goal

pub returns-in_err-h : goal.returns-in_err-h
returns-in_err-h c =
    let f : c.from_residual.result ≡ Err c.in_err-h.field-0.0 = search rules in
    f ∙ refused_head c.args.text.now (sym c.head.ensures ∙ c.in_err-h.was)

pub returns-in_err-g : goal.returns-in_err-g
returns-in_err-g c =
    let f : c.from_residual-in_err-g.result ≡ Err c.in_err-g.field-0.0 = search rules in
    f ∙ refused_gates c.args.text.now c.in_ok-h.h (sym c.head.ensures ∙ c.in_ok-h.was) (sym c.held_gates.ensures ∙ c.in_err-g.was)

pub returns-in_err-unless : goal.returns-in_err-unless
returns-in_err-unless c =
    let f : c.from_residual-in_err-unless.result ≡ Err c.in_err-unless.field-0.0 = search rules in
    f ∙ refused_end c.args.text.now c.in_ok-h.h (sym c.head.ensures ∙ c.in_ok-h.was) c.in_ok-g.g (sym c.held_gates.ensures ∙ c.in_ok-g.was) c.next-end.result c.next-end.ensures (sym c.unless.ensures ∙ c.in_err-unless.was)

pub returns-in_err-h-2 : goal.returns-in_err-h-2
returns-in_err-h-2 c =
    let f : c.from_residual-in_err-h-2.result ≡ Err c.in_err-h-2.field-0.0 = search rules in
    f ∙ head_limited c.args.text.now c.in_ok-h.h (sym c.head.ensures ∙ c.in_ok-h.was) c.in_ok-g.g (sym c.held_gates.ensures ∙ c.in_ok-g.was) c.next-end.result c.next-end.ensures (sym c.unless.ensures ∙ c.in_ok-unless.was) c.in_err-h-2.was

pub returns-in_err-g-2 : goal.returns-in_err-g-2
returns-in_err-g-2 c =
    let f : c.from_residual-in_err-g-2.result ≡ Err c.in_err-g-2.field-0.0 = search rules in
    f ∙ gates_limited c.args.text.now c.in_ok-h.h (sym c.head.ensures ∙ c.in_ok-h.was) c.in_ok-g.g (sym c.held_gates.ensures ∙ c.in_ok-g.was) c.next-end.result c.next-end.ensures (sym c.unless.ensures ∙ c.in_ok-unless.was) c.in_ok-h-2.was c.in_err-g-2.was

pub held_gates-requires : goal.held_gates-requires
held_gates-requires c = says c.args.text.now c.in_ok-h.h (sym c.head.ensures ∙ c.in_ok-h.was)

pub returns : goal.returns
returns c = accepted_as c.args.text.now c.in_ok-h.h (sym c.head.ensures ∙ c.in_ok-h.was) c.in_ok-g.g (sym c.held_gates.ensures ∙ c.in_ok-g.was) c.next-end.result c.next-end.ensures (sym c.unless.ensures ∙ c.in_ok-unless.was) c.in_ok-h-2.was c.in_ok-g-2.was
