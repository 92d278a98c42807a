-- Answers as outcomes: one after another, and the first refusal of a row, as a loop with `?` finds it.
-- Assumes nothing.
use mathlib.Core.Path.{◌≡◌, refl, sym, ap, ◌∙◌}
use mathlib.Core.Bool.{Bool, true, false, true≢false}
use mathlib.Core.List.{List, [], ◌∷◌}
use Prim.Native.Nat.{ℕ, zero, suc, ◌+◌, ◌-◌, ◌≤◌, ◌<◌}
use borrow.Author.Tests.{eq-eqb}
use lib.Dec.{eqb, ltb}
use Rattle.std.specs.Prelude.{Result, Ok, Err}
use Rattle.std.specs.Result.{result_and}
use Rattle.params.specs.Refusal.{Answer}
use Rattle.params.specs.declared.refusal.Refusal.{Refusal}
use Rattle.params.specs.Refusal.{given, outcome, done, number, place, number_of, place_of, refusal_at}
use Rattle.params.proofs.Answers.{given_ok, given_done}
use Rattle.circuit.specs.Form.{gates, outputs, wires, output_at, output_place, FieldCheck, asks, first_at, or_else, first, head_fields, gate_fields, output_answer, answer_of}
use Rattle.circuit.proofs.Steps.{first_stop, first_step, first_end}

pub outcome_or : (a b : Answer) → outcome (or_else a b) ≡ result_and (outcome a) (outcome b)
outcome_or a b = go (eqb a.number 0) refl
  where
    go : (x : Bool) → eqb a.number 0 ≡ x → outcome (or_else a b) ≡ result_and (outcome a) (outcome b)
    go true h = simp h
    go false h = simp h

module _ (f : ℕ → Answer) (i n : ℕ) where
  -- the loop ends at an answer that refuses, with its refusal
  pub outcome_stop : i < n → {r : Refusal} → outcome (f i) ≡ Err r → outcome (first f i (n - i)) ≡ Err r
  outcome_stop h e = ap outcome (first_stop f i n h (λ z. let d : outcome (f i) ≡ done = given_done (f i) tt z in absurd cc)) ∙ e

  -- it goes on past one that does not
  pub outcome_step : i < n → outcome (f i) ≡ Ok tt → first f i (n - i) ≡ first f (i + 1) (n - (i + 1))
  outcome_step h e = first_step f i n h (given_ok (f i) tt e)

  -- and is done after the last
  pub outcome_end : n ≤ i → outcome (first f i (n - i)) ≡ done
  outcome_end h = ap outcome (first_end f i n h)

-- ---- the number and the place that an outcome tells are those of its answer

abbrev pub Told : Answer → Type 0
Told a = (number_of (outcome a) ≡ a.number) × (place_of (outcome a) ≡ a.place)

pub told_or : (a b : Answer) → Told a → Told b → Told (or_else a b)
told_or a b s t = go (eqb a.number 0) refl
  where
    go : (x : Bool) → eqb a.number 0 ≡ x → Told (or_else a b)
    go true h = rw h t
    go false h = rw h s

-- of a row of checks, each by itself
abbrev pub EachTold : List FieldCheck → Type 0
EachTold [] = Unit {0}
EachTold (asks test n p ∷ checks) = Told (record { number = n; place = p }) × EachTold checks

pub told_checks : (checks : List FieldCheck) → EachTold checks → Told (first_at checks)
told_checks [] t = (refl, refl)
told_checks (asks true n p ∷ checks) t = told_checks checks t.1
told_checks (asks false n p ∷ checks) t = t.0

pub told_first : (f : ℕ → Answer) → ((k : ℕ) → Told (f k)) → (i n : ℕ) → Told (first f i n)
unfolding first
told_first f h i zero = (refl, refl)
told_first f h i (suc n) = told_or (f i) (first f (suc i) n) (h i) (told_first f h (suc i) n)

-- of reading a circuit
pub answer_told : (bs : List ℕ) → Told (answer_of bs)
unfolding answer_of head_fields gate_fields output_answer
answer_told bs =
    told_or (first_at (head_fields bs)) (or_else (first (λ g. first_at (gate_fields bs g)) 0 (gates bs)) (first (output_answer bs) 0 (outputs bs)))
    (told_checks (head_fields bs) ((refl, refl), ((refl, refl), ((refl, refl), ((refl, refl), ((refl, refl), ((refl, refl), ((refl, refl), ((refl, refl), ((refl, refl), ((refl, refl), tt)))))))))))
    (told_or (first (λ g. first_at (gate_fields bs g)) 0 (gates bs)) (first (output_answer bs) 0 (outputs bs))
    (told_first (λ g. first_at (gate_fields bs g)) (λ g. told_checks (gate_fields bs g) ((refl, refl), ((refl, refl), ((refl, refl), ((refl, refl), ((refl, refl), tt)))))) 0 (gates bs))
    (told_first (output_answer bs) (λ o. told_checks (asks (ltb (output_at bs o) (wires bs)) 10 (output_place bs o) ∷ []) ((refl, refl), tt)) 0 (outputs bs)))

-- a call that is refused has its answer's number and place
pub told_err : (a : Answer) → Told a → {A : Type 0} (v : A) {r : Refusal} → given a v ≡ Err r → (a.number ≡ 0 → ⊥) × (number r ≡ a.number) × (place r ≡ a.place)
told_err a t {A} v {r} e = go (eqb a.number 0) refl
  where
    go : (x : Bool) → eqb a.number 0 ≡ x → (a.number ≡ 0 → ⊥) × (number r ≡ a.number) × (place r ≡ a.place)
    go true h = absurd (let d : ◌≡◌ {A = Result A Refusal} (Ok v) (Err r) = rw h at e in let q : ⊥ = cc in q)
    go false h =
        let d : ◌≡◌ {A = Result A Refusal} (Err (refusal_at a.number a.place)) (Err r) = rw h at e in
        let q : refusal_at a.number a.place ≡ r = cc in
        let s : (number (refusal_at a.number a.place) ≡ a.number) × (place (refusal_at a.number a.place) ≡ a.place) = rw h at t in
        (λ z. true≢false (sym (eq-eqb a.number 0 z) ∙ h), ap number (sym q) ∙ s.0, ap place (sym q) ∙ s.1)
