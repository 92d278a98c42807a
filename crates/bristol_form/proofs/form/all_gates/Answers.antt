-- `bristol_form::form::all_gates` meets its contract. The loop's invariant: what is carried from gate to gate (proofs/Carried.antt).
-- Assumes nothing.
use mathlib.Core.Path.{◌≡◌, refl, sym, ap, ◌∙◌}
use Prim.Native.Nat.{ℕ, ◌+◌}
use native.Mathlib.Omega.{arith}
use Rattle.std.specs.Prelude.{Err}
use Rattle.std.specs.Result.{result_and}
use Rattle.std.proofs.Common.{rules}
use Rattle.params.specs.Refusal.{given, outcome}
use Rattle.circuit.specs.Form.{first}
use Rattle.bristol_form.specs.Says.{gates, gate_at, made}
use Rattle.bristol_form.specs.Form.{gate_answer, gate_limit}
use Rattle.bristol_form.specs.Private.{gates_of}
use Rattle.bristol_form.proofs.Laws.{made_to}
use Rattle.bristol_form.proofs.Tells.{given_value, row_done}
use Rattle.bristol_form.proofs.Carried.{carried_first, carried_next, stops}
use Rattle.bristol_form.proofs.form.all_gates.Goals as goal

pub loop-j-init : goal.loop-j-init
loop-j-init c =
    let s = c.requires.0 in
    carried_first c.args.text.now c.args.bits.now c.args.h.gates s.body_is s.inputs_are (let a = s.inputs_are in let b = s.wires_are in let e = s.wire_each in omega arith) c.requires.1

pub returns-in_err-g : goal.returns-in_err-g
returns-in_err-g c =
    let b = c.args.text.now in
    let l = c.loop-j in
    let f : c.from_residual.result ≡ Err c.in_err-g.field-0.0 = search rules in
    f ∙ stops b l.bits c.args.h.gates l.j (gates_of b) l.invariant.left (omega arith) (sym c.gate.ensures.said ∙ c.in_err-g.was)
    ∙ ap (λ (n : ℕ). given (first (gate_answer b) 0 n) (gates_of b)) c.requires.0.gates_are

pub overflow_add-set : goal.overflow_add-set
overflow_add-set c =
    let l = c.loop-j in
    let t = carried_next c.args.text.now l.bits c.args.h.gates l.j l.invariant (omega arith) (sym c.gate.ensures.said ∙ c.in_ok-g.was) c.in_ok-g.ensures.holds refl refl in
    let w = t.set_to in
    let s = c.requires.0 in
    let a = s.wires_are in
    let e = s.wires_small in
    omega arith

pub overflow_add-made : goal.overflow_add-made
overflow_add-made c =
    let l = c.loop-j in
    let t = carried_next c.args.text.now l.bits c.args.h.gates l.j l.invariant (omega arith) (sym c.gate.ensures.said ∙ c.in_ok-g.was) c.in_ok-g.ensures.holds (c.and-limit.ensures ∙ ap (λ x. result_and l.limit x) c.gate_limit.ensures) c.weight-made.ensures in
    let m = t.made_is in
    let k = made_to c.args.text.now (l.j + 1) in
    omega arith

pub loop-j-preserved : goal.loop-j-preserved
loop-j-preserved c =
    let l = c.loop-j in
    carried_next c.args.text.now l.bits c.args.h.gates l.j l.invariant (omega arith) (sym c.gate.ensures.said ∙ c.in_ok-g.was) c.in_ok-g.ensures.holds (c.and-limit.ensures ∙ ap (λ x. result_and l.limit x) c.gate_limit.ensures) c.weight-made.ensures

pub returns : goal.returns
unfolding gates_of
returns c =
    let b = c.args.text.now in
    let l = c.loop-j in
    let i = l.invariant in
    let s = c.requires.0 in
    let e : l.j ≡ gates b = omega (arith, s.gates_are) in
    let m = i.made_is ∙ ap (made b) e in
    let t = i.limit_is ∙ ap (λ (n : ℕ). outcome (first (gate_limit b) 0 n)) e in
    let p = i.at_gate ∙ ap (gate_at b) e in
    given_value (first (gate_answer b) 0 (gates b)) (gates_of b)
    (ap (λ (n : ℕ). (first (gate_answer b) 0 n).number) (sym s.gates_are) ∙ row_done (gate_answer b) l.j c.args.h.gates i.left (omega arith))
    (λ k. record { made = m k; limit = t k; at = p k })
