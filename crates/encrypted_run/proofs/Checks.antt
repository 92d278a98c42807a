-- The refusals taken apart: what each answer of 0 tells, that good arguments are not refused, and how far a place goes. An answer has three parts, the middle one the circuit's.
-- Assumes nothing.
use mathlib.Core.Path.{◌≡◌, refl, sym, ap, ◌∙◌}
use mathlib.Core.Bool.{Bool, true, false}
use mathlib.Core.List.{List, [], ◌∷◌}
use Prim.Native.Nat.{ℕ, ◌+◌, ◌*◌, ◌<◌}
use borrow.Author.Tests.{eqb-true}
use lib.Dec.{eqb}
use Rattle.std.specs.Prelude.{Ok}
use Rattle.params.specs.declared.refusal.Refusal.{Refusal}
use Rattle.params.specs.declared.Params.{Params}
use Rattle.params.specs.Refusal.{Answer}
use Rattle.params.specs.Refusal.{answer, given, unless, Outcome, done as finished}
use Rattle.params.specs.Sizes.{switching_words, bootstrapping_words}
use Rattle.params.proofs.Answers.{when_done, given_ok, given_done}
use Rattle.refusals.specs.Table.{Check, is}
use Rattle.refusals.proofs.Table.{good, done, facts, none}
use Rattle.circuit.specs.Form.{inputs, outputs, wires, longest, answer_of, or_else}
use Rattle.circuit.specs.Valid.{Valid}
use Rattle.circuit.proofs.Accept.{accepted, not_refused, both_done}
use Rattle.circuit.proofs.Places.{within_none, within_or, place_within}
use Rattle.encrypted_run.specs.Refusals.{around, material_number, encrypted_answer, step_answer}
use Rattle.encrypted_run.specs.Private.{KeysGood, StepGood, RunGood}

-- ---- the three parts of an answer

module _ (before : ℕ) (bs : List ℕ) (after : ℕ) where
  pub around_good : (around before bs after).number ≡ 0 → (before ≡ 0) × Valid bs × (after ≡ 0)
  around_good e =
      let s = both_done (answer before) (or_else (answer_of bs) (answer after)) e in
      let t = both_done (answer_of bs) (answer after) s.1 in
      (s.0, accepted bs t.0, t.1)

  pub around_done : before ≡ 0 → Valid bs → after ≡ 0 → around before bs after ≡ answer 0
  around_done b v a = when_done before _ _ b ∙ when_done (answer_of bs).number _ _ (ap (λ (x : Answer). x.number) (not_refused bs v)) ∙ ap answer a

  -- its place lies within the longest circuit
  pub around_within : (around before bs after).place < longest
  around_within = within_or (answer before) _ (within_none before) (λ e. within_or (answer_of bs) (answer after) (place_within bs) (λ u. within_none after))

-- ---- the code's checks

-- a length that was asked for and not refused
pub asked : (x y : ℕ) (r : Refusal) (v : Unit {0}) {o : Outcome} → o ≡ unless (eqb x y) r finished → o ≡ Ok v → x ≡ y
asked x y r v e d = go (eqb x y) refl (sym e ∙ d)
  where
    go : (b : Bool) → eqb x y ≡ b → unless b r finished ≡ Ok v → x ≡ y
    go true h q = eqb-true x y h
    go false h q = absurd (let z : ⊥ = cc in z)

-- what is handed back is the value, and then nothing was refused
pub given_back : {A : Type 0} (a : Answer) (v : A) {w : A} → given a v ≡ Ok w → (a.number ≡ 0) × (w ≡ v)
given_back a v {w} e =
    let z = given_ok a v e in
    let q : Ok w ≡ Ok v = sym e ∙ given_done a v z in
    (z, cc)

-- ---- the keys

pub keys_good : (p : Params) (lk ls : ℕ) → material_number p lk ls ≡ 0 → KeysGood p lk ls
unfolding material_number
keys_good p lk ls e = let f = good p (is lk (switching_words p) 2 ∷ is ls (bootstrapping_words p) 2 ∷ []) refl e in record { good = f.0; switching = f.1.0; bootstrapping = f.1.1.0 }

keys_done : (p : Params) (lk ls : ℕ) → KeysGood p lk ls → material_number p lk ls ≡ 0
unfolding material_number
keys_done p lk ls k = done p (is lk (switching_words p) 2 ∷ is ls (bootstrapping_words p) 2 ∷ []) (k.good, (k.switching, (k.bootstrapping, tt)))

-- ---- the answers

module _ (p : Params) (lk ls : ℕ) (bs : List ℕ) where
  -- the lengths that depend on the circuit: those of one gate, and of a run
  abbrev step_lengths : ℕ → List Check
  step_lengths lw = is lw (wires bs * (p.n + 1)) 2 ∷ []

  abbrev run_lengths : ℕ → ℕ → ℕ → List Check
  run_lengths li lw lo = is li (inputs bs * (p.n + 1)) 2 ∷ is lo (outputs bs * (p.n + 1)) 2 ∷ is lw (wires bs * (p.n + 1)) 2 ∷ []

  pub step_good : (lw : ℕ) → (step_answer p lk ls bs lw).number ≡ 0 → StepGood p lk ls bs lw
  unfolding step_answer
  step_good lw e =
      let s = around_good (material_number p lk ls) bs _ e in
      record { keys = keys_good p lk ls s.0; valid = s.1; wires_length = (facts (step_lengths lw) refl s.2).0 }

  pub run_good : (li lw lo : ℕ) → (encrypted_answer p lk ls bs li lw lo).number ≡ 0 → RunGood p lk ls bs li lw lo
  unfolding encrypted_answer
  run_good li lw lo e =
      let s = around_good (material_number p lk ls) bs _ e in
      let f = facts (run_lengths li lw lo) refl s.2 in
      record { step = record { keys = keys_good p lk ls s.0; valid = s.1; wires_length = f.1.1.0 }; ins_length = f.0; outs_length = f.1.0 }

  -- for callers: good arguments are not refused
  pub step_done : (lw : ℕ) → StepGood p lk ls bs lw → step_answer p lk ls bs lw ≡ answer 0
  unfolding step_answer
  step_done lw g = around_done (material_number p lk ls) bs _ (keys_done p lk ls g.keys) g.valid (none (step_lengths lw) (g.wires_length, tt))

  pub run_done : (li lw lo : ℕ) → RunGood p lk ls bs li lw lo → encrypted_answer p lk ls bs li lw lo ≡ answer 0
  unfolding encrypted_answer
  run_done li lw lo g =
      around_done (material_number p lk ls) bs _ (keys_done p lk ls g.step.keys) g.step.valid
      (none (run_lengths li lw lo) (g.ins_length, (g.outs_length, (g.step.wires_length, tt))))
