-- The routine's answer and what it leaves, by whether the circuit is refused and whether there is room for the text.
-- Assumes nothing.
use mathlib.Core.Path.{◌≡◌, refl, sym, ap, ◌∙◌}
use mathlib.Core.Bool.{Bool, true, false, cond}
use mathlib.Core.List.{List}
use Prim.Native.Nat.{ℕ, ◌≤◌, ◌<◌}
use native.Mathlib.Omega.{arith}
use borrow.Author.Tests.{le-leb, lt-leb, leb-true}
use lib.Dec.{eqb, leb}
use lib.ListN.{length}
use Rattle.std.specs.Prelude.{Result, Ok, Err}
use Rattle.params.specs.Refusal.{Answer}
use Rattle.params.specs.declared.refusal.Refusal.{Refusal}
use Rattle.params.specs.declared.refusal.Refusal.TheVariants.{Length}
use Rattle.params.specs.Refusal.{answer, check, given, outcome, unless, done, refusal_at}
use Rattle.params.proofs.Answers.{kept, given_ok, given_done}
use Rattle.circuit.specs.Form.{answer_of, or_else}
use Rattle.circuit.specs.Valid.{Valid}
use Rattle.circuit.proofs.Accept.{accepted, not_refused, both_done}
use Rattle.circuit.proofs.Outcomes.{Told, told_or, answer_told}
use Rattle.bristol_export.specs.Private.{laid}
use Rattle.bristol_export.specs.Text.{exported}
use Rattle.bristol_export.specs.Export.{export_answer, export_said, export_out}
use Rattle.bristol_export.proofs.Laid.{laid_front}

-- a refusal is no value
apart : {A : Type 0} (x : Result A Refusal) {r : Refusal} {v : A} → x ≡ Err r → x ≡ Ok v → ⊥
apart x e d = cc

-- a refusal handed back is the answer's
given_err : {A : Type 0} (a : Answer) (v : A) {r : Refusal} → given a v ≡ Err r → (eqb a.number 0 ≡ false) × (r ≡ refusal_at a.number a.place)
given_err {A} a v {r} e = go (eqb a.number 0) refl e
  where
    go : (t : Bool) → eqb a.number 0 ≡ t → cond t (Ok v) (Err (refusal_at a.number a.place)) ≡ Err r → (eqb a.number 0 ≡ false) × (r ≡ refusal_at a.number a.place)
    go true h e = absurd cc
    go false h e = (h, cc)

given_refused : {A : Type 0} (a : Answer) (v : A) → eqb a.number 0 ≡ false → given a v ≡ Err (refusal_at a.number a.place)
given_refused a v h = rw h

-- the room's test
pub failed : (test : Bool) (q : Refusal) {r : Refusal} → unless test q done ≡ Err r → (test ≡ false) × (r ≡ q)
failed true q e = absurd cc
failed false q e = (refl, cc)

pub held : (test : Bool) (q : Refusal) {u : Unit {0}} → unless test q done ≡ Ok u → test ≡ true
held true q e = refl
held false q e = absurd cc

module _ (bs : List ℕ) where
  -- a circuit that is refused
  module _ {r : Refusal} (e : outcome (answer_of bs) ≡ Err r) where
    none_done : (answer_of bs).number ≡ 0 → ⊥
    none_done z = let d = given_done (answer_of bs) tt z in apart (outcome (answer_of bs)) e d

    refused : (room : ℕ) → answer_of bs ≡ export_answer bs room
    unfolding export_answer
    refused room = kept (answer_of bs).number _ (answer_of bs) none_done

    pub said_refused : (room : ℕ) → Err r ≡ export_said bs room
    unfolding export_said
    said_refused room =
        let i = given_err (answer_of bs) tt e in
        ap (λ (x : Refusal). Err x) i.1 ∙ sym (given_refused (answer_of bs) (length (exported bs)) i.0) ∙ ap (λ (a : Answer). given a (length (exported bs))) (refused room)

    pub out_refused : (out : List ℕ) → out ≡ export_out bs out
    unfolding export_out
    out_refused out = kept (export_answer bs (length out)).number _ out (λ z. none_done (ap (λ (a : Answer). a.number) (refused (length out)) ∙ z))

  -- a circuit that is not refused is valid
  pub valid : {u : Unit {0}} → outcome (answer_of bs) ≡ Ok u → Valid bs
  valid e = accepted bs (given_ok (answer_of bs) tt e)

  -- a circuit that is valid, and a slice that is too short or not
  module _ (v : Valid bs) where
    short : (room : ℕ) → room < length (exported bs) → answer 2 ≡ export_answer bs room
    unfolding export_answer
    short room h = sym (rw (not_refused bs v, lt-leb (length (exported bs)) room h))

    fits : (room : ℕ) → length (exported bs) ≤ room → answer 0 ≡ export_answer bs room
    unfolding export_answer
    fits room h = sym (rw (not_refused bs v, le-leb (length (exported bs)) room h))

    pub said_short : (room : ℕ) → room < length (exported bs) → Err Length ≡ export_said bs room
    unfolding export_said
    said_short room h = rw (sym (short room h))

    pub said_fits : (room : ℕ) → length (exported bs) ≤ room → Ok (length (exported bs)) ≡ export_said bs room
    unfolding export_said
    said_fits room h = rw (sym (fits room h))

    pub out_short : (out : List ℕ) → length out < length (exported bs) → out ≡ export_out bs out
    unfolding export_out
    out_short out h = rw (sym (short (length out) h))

    pub out_fits : (out : List ℕ) → length (exported bs) ≤ length out → laid out 0 (exported bs) ≡ export_out bs out
    unfolding export_out
    out_fits out h = laid_front out (exported bs) h ∙ rw (sym (fits (length out) h))

-- what a call that is not refused hands back: the text's length, which is within the slice
module _ (bs : List ℕ) (room : ℕ) {n : ℕ} (e : export_said bs room ≡ Ok n) where
  answered : (export_answer bs room).number ≡ 0
  unfolding export_said
  answered = given_ok (export_answer bs room) (length (exported bs)) e

  pub length_is : n ≡ length (exported bs)
  unfolding export_said
  length_is = let d = given_done (export_answer bs room) (length (exported bs)) answered in cc

  within_by : (b : Bool) → leb (length (exported bs)) room ≡ b → (or_else (answer_of bs) (answer (check b 2 0))).number ≡ 0 → length (exported bs) ≤ room
  within_by true h z = leb-true (length (exported bs)) room h
  within_by false h z = let s = both_done (answer_of bs) (answer 2) z in absurd (let q : ⊥ = omega (arith, s.1) in q)

  pub length_told : n ≤ room
  unfolding export_answer
  length_told = let w = within_by (leb (length (exported bs)) room) refl answered in let l = length_is in omega arith

-- the number and the place that a refused call's refusal tells are those of its answer
pub export_told : (bs : List ℕ) (room : ℕ) → Told (export_answer bs room)
unfolding export_answer
export_told bs room = told_or (answer_of bs) (answer (check (leb (length (exported bs)) room) 2 0)) (answer_told bs) (go (leb (length (exported bs)) room))
  where
    go : (t : Bool) → Told (answer (check t 2 0))
    go true = (refl, refl)
    go false = (refl, refl)
