-- `bristol_form::head::sizes` meets its contract. The loop's invariant: p is the place after so many sizes and sum their sum, and the first refusal of all sizes is the first
-- among those from there on, whichever its number. Assumes nothing.
use mathlib.Core.Path.{sym, ◌∙◌}
use Prim.Native.Nat.{◌+◌, ◌≤◌}
use native.Mathlib.Omega.{arith}
use Rattle.circuit.proofs.Steps.{first_start, first_end}
use Rattle.tokens.proofs.Laws.{past_none, number_at_most}
use Rattle.tokens.proofs.Reading.{reading}
use Rattle.bristol_form.specs.Form.{size_answer}
use Rattle.bristol_form.proofs.Summed.{sizes_none, sizes_sum, sizes_stop, sizes_step}
use Rattle.bristol_form.proofs.head.sizes.Goals as goal

pub loop-init : goal.loop-init
loop-init c =
    let a = c.args in
    (sym (past_none a.text.now a.at), sizes_none a.text.now a.at, omega arith, λ n. first_start _ _)

pub overflow_add-sum : goal.overflow_add-sum
overflow_add-sum c =
    let a = c.args in
    let e = reading a.text.now a.at c.loop.counter c.loop.invariant.0 c.next-t.ensures in
    let m = number_at_most a.text.now a.at c.loop.counter in
    omega arith

pub loop-preserved : goal.loop-preserved
loop-preserved c =
    let a = c.args in
    let b = a.text.now in
    let l = c.loop in
    let r = reading b a.at l.counter l.invariant.0 c.next-t.ensures in
    let w : l.sum + c.next-t.result.number ≤ a.bound = omega arith in (
      r.end_is,
      sizes_sum b a.at 11 a.bound a.count l.counter l.sum _ l.invariant.1 r.number_is (omega arith),
      omega arith,
      λ n. l.invariant.3 n ∙ sizes_step b a.at n a.bound a.count l.counter l.sum _ l.invariant.1 r.number_is (omega arith) w,
    )

pub returns-then-bound-sum-clause-told : goal.returns-then-bound-sum-clause-told
returns-then-bound-sum-clause-told c =
    let a = c.args in
    let b = a.text.now in
    let l = c.loop in
    let r = reading b a.at l.counter l.invariant.0 c.next-t.ensures in
    λ n h. l.invariant.3 n ∙ sizes_stop b a.at n a.bound a.count l.counter l.sum _ l.invariant.1 r.number_is (omega arith) h (omega arith)
    ∙ (λ i. record { number = n; place = sym r.start_is i })

pub returns-clause-told : goal.returns-clause-told
returns-clause-told c =
    let a = c.args in
    let l = c.loop in
    λ n h. l.invariant.3 n ∙ first_end (size_answer a.text.now a.at n a.bound) l.counter a.count (omega arith)
