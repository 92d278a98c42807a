-- `encrypted_run::around` meets its contract: the circuit's refusal tells the number and the place of its answer.
-- Assumes nothing.
use mathlib.Core.Path.{◌≡◌, sym, ap, ◌∙◌}
use mathlib.Core.List.{List}
use Prim.Native.Nat.{ℕ}
use native.Mathlib.Omega.{arith}
use Rattle.params.specs.Refusal.{Answer, answer}
use Rattle.params.proofs.Answers.{when_refused}
use Rattle.circuit.specs.Form.{answer_of, or_else}
use Rattle.circuit.proofs.Outcomes.{answer_told, told_err}
use Rattle.encrypted_run.specs.Refusals.{around}
use Rattle.encrypted_run.proofs.around.Goals as goal

-- nothing is refused before the circuit: its own answer
own : (before : ℕ) (bs : List ℕ) (after : ℕ) → before ≡ 0 → ((answer_of bs).number ≡ 0 → ⊥) → around before bs after ≡ answer_of bs
own before bs after e h = ap (λ (n : ℕ). or_else (answer n) (or_else (answer_of bs) (answer after))) e ∙ when_refused (answer_of bs).number (answer after) (answer_of bs) h

pub returns-in-Err-clause-number : goal.returns-in-Err-clause-number
returns-in-Err-clause-number c =
    let g = c.args in
    let told = told_err (answer_of g.bytes.now) (answer_told g.bytes.now) tt (sym c.check.ensures ∙ c.in-Err.is) in
    let none : g.before ≡ 0 = omega (arith, c.if-before-ne0.false) in
    c.number.ensures ∙ told.1 ∙ sym (ap (λ (a : Answer). a.number) (own g.before g.bytes.now g.after none told.0))

pub returns-in-Err-clause-place : goal.returns-in-Err-clause-place
returns-in-Err-clause-place c =
    let g = c.args in
    let told = told_err (answer_of g.bytes.now) (answer_told g.bytes.now) tt (sym c.check.ensures ∙ c.in-Err.is) in
    let none : g.before ≡ 0 = omega (arith, c.if-before-ne0.false) in
    c.place.ensures ∙ told.2 ∙ sym (ap (λ (a : Answer). a.place) (own g.before g.bytes.now g.after none told.0))
