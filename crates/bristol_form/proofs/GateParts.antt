-- The answer to a gate, part by part, as the routines find it: each part's test is true and the next part answers, or it is false and its place is the answer's.
-- Assumes nothing.
use mathlib.Core.Path.{◌≡◌, refl, sym, ap, ◌∙◌}
use mathlib.Core.Bool.{Bool, true, false, not, ◌&&◌, ◌||◌}
use mathlib.Core.List.{List, [], ◌∷◌}
use Prim.Native.Nat.{ℕ, suc}
use lib.Dec.{leb, ltb, eqb}
use Rattle.std.specs.Prelude.{Result, Ok, Err, OnOk}
use Rattle.params.specs.Refusal.{Answer}
use Rattle.params.specs.declared.refusal.Refusal.{Refusal}
use Rattle.params.specs.Refusal.{given}
use Rattle.circuit.specs.Form.{asks, first_at, first, or_else}
use Rattle.circuit.proofs.Accept.{or_done}
use Rattle.tokens.specs.declared.Token.{Token}
use Rattle.tokens.specs.Tokens.{past, number_at, place_at, name_at, token_at, name_token_at}
use Rattle.tokens.proofs.Laws.{past_none}
use Rattle.tokens.proofs.Reading.{reading}
use Rattle.bristol_form.specs.declared.Counts.{Counts}
use Rattle.bristol_form.specs.Says.{wires, set_by, is_set, gate_at, operand_count, result_count, operands_place, results_place, name_place, operand}
use Rattle.bristol_form.specs.Form.{results_for, count_good, operand_answer, result_answer, gate_answer}
use Rattle.bristol_form.specs.Private.{Holds, counts_answer, counts_of, name_answer, named_of, gate_of}
use Rattle.bristol_form.proofs.GateTests.{ask_one}
use Rattle.bristol_form.proofs.Tells.{or_first, refused_by, passed}
use Rattle.bristol_form.proofs.Lookup.{past_operands, past_results}
use Rattle.bristol_form.proofs.Holding.{holds_next}

-- ---- the numbers of operands and results

module _ (text : List ℕ) (j : ℕ) where
  abbrev count_test : Bool
  count_test = count_good text j (operand_count text (gate_at text j))

  abbrev result_test : Bool
  result_test = eqb (result_count text (gate_at text j)) (results_for (operand_count text (gate_at text j)))

  abbrev both : Bool → Bool → Answer
  both s t = first_at (asks s 11 (place_at text (gate_at text j) 0) ∷ asks t 11 (place_at text (gate_at text j) 1) ∷ [])

  pub counts_first : count_test ≡ false → counts_answer text j ≡ record { number = 11; place = place_at text (gate_at text j) 0 }
  unfolding counts_answer
  counts_first e = ap (λ (s : Bool). both s result_test) e

  pub counts_second : count_test ≡ true → result_test ≡ false → counts_answer text j ≡ record { number = 11; place = place_at text (gate_at text j) 1 }
  unfolding counts_answer
  counts_second e f = ap (λ (s : Bool). both s result_test) e ∙ ap (both true) f

  pub counts_done : count_test ≡ true → result_test ≡ true → (counts_answer text j).number ≡ 0
  unfolding counts_answer
  counts_done e f = ap (λ (a : Answer). a.number) (ap (λ (s : Bool). both s result_test) e ∙ ap (both true) f)

-- ---- operands and results as the routines read them

pub operand_asks : (text : List ℕ) (j p count x w : ℕ) → p ≡ operands_place text (gate_at text j) → count ≡ operand_count text (gate_at text j) → w ≡ number_at text p x → operand_answer text j x ≡ first_at (asks (is_set text j w || eqb count 1 && leb w 1) 11 (place_at text p x) ∷ [])
unfolding operand_answer
operand_asks text j p count x w P C W =
    ap (λ (q : ℕ). first_at (asks (is_set text j (number_at text q x) || eqb (operand_count text (gate_at text j)) 1 && leb (number_at text q x) 1) 11 (place_at text q x) ∷ [])) (sym P)
    ∙ ap (λ (k : ℕ). first_at (asks (is_set text j (number_at text p x) || eqb k 1 && leb (number_at text p x) 1) 11 (place_at text p x) ∷ [])) (sym C)
    ∙ ap (λ (v : ℕ). first_at (asks (is_set text j v || eqb count 1 && leb v 1) 11 (place_at text p x) ∷ [])) (sym W)

pub result_asks : (text : List ℕ) (j p most y w : ℕ) → p ≡ results_place text (gate_at text j) → most ≡ wires text → w ≡ number_at text p y → result_answer text j y ≡ first_at (asks (ltb w most && not (is_set text j w) && not (set_by text (gate_at text j) y w)) 11 (place_at text p y) ∷ [])
unfolding result_answer
result_asks text j p most y w P M W =
    let g = gate_at text j in
    ap (λ (q : ℕ). first_at (asks (ltb (number_at text q y) (wires text) && not (is_set text j (number_at text q y)) && not (set_by text g y (number_at text q y))) 11 (place_at text q y) ∷ [])) (sym P)
    ∙ ap (λ (k : ℕ). first_at (asks (ltb (number_at text p y) k && not (is_set text j (number_at text p y)) && not (set_by text g y (number_at text p y))) 11 (place_at text p y) ∷ [])) (sym M)
    ∙ ap (λ (v : ℕ). first_at (asks (ltb v most && not (is_set text j v) && not (set_by text g y v)) 11 (place_at text p y) ∷ [])) (sym W)

-- ---- the name

module _ (text : List ℕ) (p : ℕ) (t : Token) (T : t ≡ name_token_at text p) where
  pub name_number_is : t.number ≡ name_at text p 0
  unfolding name_token_at name_at past
  name_number_is = ap (λ (u : Token). u.number) T

  pub name_start_is : t.start ≡ place_at text p 0
  unfolding name_token_at place_at past
  name_start_is = ap (λ (u : Token). u.start) T

  pub name_end_is : t.end ≡ past text p 1
  unfolding name_token_at past
  name_end_is = ap (λ (u : Token). u.end) T

-- ---- the whole gate

module _ (text : List ℕ) (j : ℕ) where
  abbrev g : ℕ
  g = gate_at text j

  abbrev after_results : Answer
  after_results = name_answer text (operand_count text g) (operand text g 0) (is_set text j (operand text g 0)) (name_place text g)

  abbrev after_operands : Answer
  after_operands = or_else (first (result_answer text j) 0 (result_count text g)) after_results

  abbrev after_counts : Answer
  after_counts = or_else (first (operand_answer text j) 0 (operand_count text g)) after_operands

  parts : gate_answer text j ≡ or_else (counts_answer text j) after_counts
  unfolding gate_answer counts_answer name_answer
  parts = refl

  pub gate_counts : ((counts_answer text j).number ≡ 0 → ⊥) → gate_answer text j ≡ counts_answer text j
  gate_counts d = parts ∙ or_first (counts_answer text j) after_counts d

  module _ (c0 : (counts_answer text j).number ≡ 0) where
    beyond_counts : gate_answer text j ≡ after_counts
    beyond_counts = parts ∙ or_done (counts_answer text j) after_counts c0

    pub gate_operands : ((first (operand_answer text j) 0 (operand_count text g)).number ≡ 0 → ⊥) → gate_answer text j ≡ first (operand_answer text j) 0 (operand_count text g)
    gate_operands d = beyond_counts ∙ or_first (first (operand_answer text j) 0 (operand_count text g)) after_operands d

    module _ (o0 : (first (operand_answer text j) 0 (operand_count text g)).number ≡ 0) where
      beyond_operands : gate_answer text j ≡ after_operands
      beyond_operands = beyond_counts ∙ or_done (first (operand_answer text j) 0 (operand_count text g)) after_operands o0

      pub gate_results : ((first (result_answer text j) 0 (result_count text g)).number ≡ 0 → ⊥) → gate_answer text j ≡ first (result_answer text j) 0 (result_count text g)
      gate_results d = beyond_operands ∙ or_first (first (result_answer text j) 0 (result_count text g)) after_results d

      module _ (r0 : (first (result_answer text j) 0 (result_count text g)).number ≡ 0) (k w : ℕ) (set : Bool) (p : ℕ) (K : k ≡ operand_count text g) (W : w ≡ operand text g 0) (S : set ≡ eqb k 1 && is_set text j w) (P : p ≡ name_place text g) where
        name_same : after_results ≡ name_answer text k w set p
        unfolding name_answer
        name_same =
            ap (λ (x : ℕ). name_answer text x (operand text g 0) (is_set text j (operand text g 0)) (name_place text g)) (sym K)
            ∙ ap (λ (x : ℕ). name_answer text k x (is_set text j x) (name_place text g)) (sym W)
            ∙ ap (λ (x : ℕ). name_answer text k w (is_set text j w) x) (sym P)
            ∙ ap (λ (t : Bool). first_at (asks t 11 (place_at text p 0) ∷ [])) (sym (ask_one k w (is_set text j w) (name_at text p 0)))
            ∙ ap (λ (t : Bool). name_answer text k w t p) (sym S)

        pub gate_named : name_answer text k w set p ≡ gate_answer text j
        gate_named = sym (beyond_operands ∙ or_done (first (result_answer text j) 0 (result_count text g)) after_results r0 ∙ name_same)

-- ---- the whole gate, as its parts were handed back

module _ (text : List ℕ) (j : ℕ) where
  -- the numbers of operands and results are refused
  pub refused_counts : {r : Refusal} → given (counts_answer text j) (counts_of text j) ≡ Err r → Err r ≡ given (gate_answer text j) (gate_of text j)
  refused_counts e = refused_by (counts_answer text j) (gate_answer text j) (counts_of text j) (gate_of text j) e (gate_counts text j)

  module _ (x : Counts) (C : given (counts_answer text j) (counts_of text j) ≡ Ok x) where
    abbrev at_gate : ℕ
    at_gate = gate_at text j

    counted : ((counts_answer text j).number ≡ 0) × (x ≡ counts_of text j)
    counted = passed (counts_answer text j) (counts_of text j) C

    operands_read : x.operands ≡ operand_count text at_gate
    unfolding counts_of
    operands_read = ap (λ (y : Counts). y.operands) counted.1

    results_read : x.results ≡ result_count text at_gate
    unfolding counts_of
    results_read = ap (λ (y : Counts). y.results) counted.1

    place_read : x.at ≡ operands_place text at_gate
    unfolding counts_of
    place_read = ap (λ (y : Counts). y.at) counted.1

    pub operands_begin : (x.at ≡ operands_place text at_gate) × (x.operands ≡ operand_count text at_gate)
    operands_begin = (place_read, operands_read)

    -- the operands are refused
    pub refused_operands : {r : Refusal} → given (first (operand_answer text j) 0 x.operands) (past text x.at x.operands) ≡ Err r → Err r ≡ given (gate_answer text j) (gate_of text j)
    refused_operands e =
        refused_by (first (operand_answer text j) 0 x.operands) (gate_answer text j) (past text x.at x.operands) (gate_of text j) e
        (λ d. let same = ap (first (operand_answer text j) 0) operands_read in gate_operands text j counted.0 (λ z. d (ap (λ (a : Answer). a.number) same ∙ z)) ∙ sym same)

    module _ (o : ℕ) (O : given (first (operand_answer text j) 0 x.operands) (past text x.at x.operands) ≡ Ok o) where
      operands_passed : ((first (operand_answer text j) 0 x.operands).number ≡ 0) × (o ≡ past text x.at x.operands)
      operands_passed = passed (first (operand_answer text j) 0 x.operands) (past text x.at x.operands) O

      operands_none : (first (operand_answer text j) 0 (operand_count text at_gate)).number ≡ 0
      operands_none = ap (λ (k : ℕ). (first (operand_answer text j) 0 k).number) (sym operands_read) ∙ operands_passed.0

      after_operands_is : o ≡ results_place text at_gate
      after_operands_is = past_operands text at_gate x.at x.operands o place_read operands_read operands_passed.1

      pub results_begin : (o ≡ results_place text at_gate) × (x.results ≡ result_count text at_gate)
      results_begin = (after_operands_is, results_read)

      -- the results are refused
      pub refused_results : {r : Refusal} → given (first (result_answer text j) 0 x.results) (past text o x.results) ≡ Err r → Err r ≡ given (gate_answer text j) (gate_of text j)
      refused_results e =
          refused_by (first (result_answer text j) 0 x.results) (gate_answer text j) (past text o x.results) (gate_of text j) e
          (λ d. let same = ap (first (result_answer text j) 0) results_read in gate_results text j counted.0 operands_none (λ z. d (ap (λ (a : Answer). a.number) same ∙ z)) ∙ sym same)

      module _ (n : ℕ) (R : given (first (result_answer text j) 0 x.results) (past text o x.results) ≡ Ok n) where
        results_passed : ((first (result_answer text j) 0 x.results).number ≡ 0) × (n ≡ past text o x.results)
        results_passed = passed (first (result_answer text j) 0 x.results) (past text o x.results) R

        results_none : (first (result_answer text j) 0 (result_count text at_gate)).number ≡ 0
        results_none = ap (λ (k : ℕ). (first (result_answer text j) 0 k).number) (sym results_read) ∙ results_passed.0

        name_begins : n ≡ name_place text at_gate
        name_begins = past_results text at_gate o x.results n after_operands_is results_read results_passed.1

        -- the name decides
        pub gate_ends : (t : Token) (set : Bool) → t ≡ token_at text x.at → set ≡ eqb x.operands 1 && is_set text j t.number
            → given (name_answer text x.operands t.number set n) (named_of text x.results n) ≡ given (gate_answer text j) (gate_of text j)
        unfolding gate_of
        gate_ends t set T S =
            let w : t.number ≡ operand text at_gate 0 = (reading text x.at 0 (sym (past_none text x.at)) T).number_is ∙ ap (λ (p : ℕ). number_at text p 0) place_read in
            ap (λ (a : Answer). given a (named_of text x.results n)) (gate_named text j counted.0 operands_none results_none x.operands t.number set n operands_read w S name_begins)
            ∙ ap (λ (k : ℕ). given (gate_answer text j) (named_of text k n)) results_read
            ∙ ap (λ (p : ℕ). given (gate_answer text j) (named_of text (result_count text at_gate) p)) name_begins

        -- and the bits are those before the gate after it
        pub holds_after : (bits : List ℕ) → Holds text bits j x.results → Holds text bits (suc j) 0
        holds_after bits h = holds_next text bits j x.results results_read h

-- what holds anyhow holds of a value handed back
pub on_ok : {A E P : Type 0} (r : Result A E) → P → OnOk r P
on_ok (Ok v) h = h
on_ok (Err e) h = tt
