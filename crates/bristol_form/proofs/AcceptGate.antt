-- A gate of a text: its checks, token by token, are that its counts fit its name and what is left to set, its operands are set, its results new.
-- Assumes nothing.
use mathlib.Core.Path.{◌≡◌, ◌∙◌}
use mathlib.Core.Logic.{◌⊎◌, inl, inr, ⊎_elim}
use mathlib.Core.Bool.{Bool, true, false, not, ◌&&◌, ◌||◌}
use mathlib.Core.List.{List, [], ◌∷◌}
use Prim.Native.Nat.{ℕ, suc, ◌+◌, ◌-◌, ◌≤◌, ◌<◌}
use native.Mathlib.Omega.{arith}
use borrow.Author.Tests.{ltb-true, eqb-true, not-true, le-leb, lt-ltb, eq-eqb}
use lib.Dec.{leb, ltb, eqb}
use Rattle.params.specs.Refusal.{answer}
use Rattle.circuit.specs.Form.{FieldCheck, asks, first_at, first}
use Rattle.circuit.proofs.Accept.{all_passed, both_done, or_done, first_good, first_done}
use Rattle.tokens.specs.Tokens.{place_at, eq_name}
use Rattle.bristol_form.specs.Says.{gates, wires, gate_at, operand_count, result_count, operands_place, results_place, name_place, operand, result, gate_name, set_by, is_set, set_count}
use Rattle.bristol_form.specs.Form.{results_for, count_good, operand_answer, result_answer, name_good, gate_answer}
use Rattle.bristol_form.specs.Valid.{GoodGate}
use Rattle.bristol_form.proofs.AcceptTests.{both_true, one_true, right_true, none_fails}
use Rattle.bristol_form.proofs.AcceptHead.{number_done}
use Rattle.bristol_form.proofs.Laws.{some_set}
use Rattle.bristol_form.proofs.AcceptCounts.{CountFits, count_good_lem, count_done}
use Rattle.bristol_form.proofs.AcceptNames.{Named, with_wire, with_none, with_more, name_good_lem, name_done, results_fit, constant_to, counts_fit, fits_of, operands_some}

module _ (text : List ℕ) (j : ℕ) where
  abbrev place : ℕ
  place = gate_at text j

  abbrev operand_test : ℕ → Bool
  operand_test x = is_set text j (operand text place x) || eqb (operand_count text place) 1 && leb (operand text place x) 1

  abbrev result_test : ℕ → Bool
  result_test y = ltb (result text place y) (wires text) && not (is_set text j (result text place y)) && not (set_by text place y (result text place y))

  -- what the checks of gate j say together
  pub record ReadGate : Type 0 where
    pub good : GoodGate text j
    pub count : CountFits text j (operand_count text (gate_at text j))
    pub results : result_count text (gate_at text j) ≡ results_for (operand_count text (gate_at text j))

  operand_good : (x : ℕ) → (operand_answer text j x).number ≡ 0 → operand_test x ≡ true
  unfolding operand_answer
  operand_good x h = (all_passed (asks (operand_test x) 11 (place_at text (operands_place text place) x) ∷ []) tt h).0

  operand_set : Named text place (is_set text j (operand text place 0)) → (x : ℕ) → x < operand_count text place → operand_test x ≡ true → (is_set text j (operand text place x) ≡ true) ⊎ (gate_name text place ≡ eq_name)
  operand_set named x l h = ⊎_elim (λ s. inl s) (λ s. other named (eqb-true (operand_count text place) 1 (both_true (eqb (operand_count text place) 1) _ s).0)) (one_true (is_set text j (operand text place x)) _ h)
    where
      other : Named text place (is_set text j (operand text place 0)) → operand_count text place ≡ 1 → (is_set text j (operand text place x) ≡ true) ⊎ (gate_name text place ≡ eq_name)
      other (with_wire f s) e = let z : x ≡ 0 = omega arith in inl (rw z s)
      other (with_none f s) e = inr s
      other (with_more f m) e = absurd (omega arith)

  -- what the checks of a result say
  record NewResult (y : ℕ) : Type 0 where
    wire : result text (gate_at text j) y < wires text
    new : is_set text j (result text (gate_at text j) y) ≡ false
    apart : set_by text (gate_at text j) y (result text (gate_at text j) y) ≡ false

  result_good : (y : ℕ) → (result_answer text j y).number ≡ 0 → NewResult y
  unfolding result_answer
  result_good y h =
      let w = result text place y in
      let t = (all_passed (asks (result_test y) 11 (place_at text (results_place text place) y) ∷ []) tt h).0 in
      let a = both_true (ltb w (wires text) && not (is_set text j w)) _ t in
      let b = both_true (ltb w (wires text)) _ a.0 in
      record {
        wire = ltb-true _ _ b.0;
        new = not-true _ b.1;
        apart = not-true _ a.1;
      }

  abbrev count_checks : List FieldCheck
  count_checks =
      asks (count_good text j (operand_count text place)) 11 (place_at text place 0)
      ∷ asks (eqb (result_count text place) (results_for (operand_count text place))) 11 (place_at text place 1)
      ∷ []

  abbrev name_checks : List FieldCheck
  name_checks =
      asks (name_good (operand_count text place) (operand text place 0) (is_set text j (operand text place 0)) (gate_name text place)) 11 (place_at text (name_place text place) 0)
      ∷ []

  pub gate_good : (gate_answer text j).number ≡ 0 → ReadGate
  unfolding gate_answer
  gate_good h =
      let k = operand_count text place in
      let r = result_count text place in
      let s = both_done (first_at count_checks) _ h in
      let t = both_done (first (operand_answer text j) 0 k) _ s.1 in
      let u = both_done (first (result_answer text j) 0 r) _ t.1 in
      let c = all_passed count_checks tt s.0 in
      let n = all_passed name_checks tt u.1 in
      let fit = count_good_lem text j k c.0 in
      let half = eqb-true r (results_for k) c.1.0 in
      let named = name_good_lem text place (is_set text j (operand text place 0)) (set_count text j) fit.counts half n.0 in
      let operands = first_good (operand_answer text j) 0 k t.0 in
      let results = first_good (result_answer text j) 0 r u.0 in
      record {
        good = record {
          counted = fit.number;
          fits = fits_of text place named;
          operands_set = λ x l. operand_set named x l (operand_good x (operands x (omega arith) (omega arith)));
          results_wires = λ y l. (result_good y (results y (omega arith) (omega arith))).wire;
          results_new = λ y l. (result_good y (results y (omega arith) (omega arith))).new;
          results_apart = λ y l. (result_good y (results y (omega arith) (omega arith))).apart;
        };
        count = fit;
        results = half;
      }

  -- ---- a good gate is not refused

  module _ (g : GoodGate text j) where
    operand_done : (x : ℕ) → x < operand_count text place → (operand_answer text j x).number ≡ 0
    unfolding operand_answer
    operand_done x l =
        number_done
        (none_fails (asks (operand_test x) 11 (place_at text (operands_place text place) x) ∷ []) (
          ⊎_elim
              (λ s. rw s)
              (λ s.
              let c = constant_to text place g.fits s in
              let z : x ≡ 0 = omega arith in
              right_true (is_set text j (operand text place x)) _ (rw (eq-eqb (operand_count text place) 1 c.0, z) (le-leb (operand text place 0) 1 c.1)))
              (g.operands_set x l),
          tt,
        ))

    result_done : (y : ℕ) → y < result_count text place → (result_answer text j y).number ≡ 0
    unfolding result_answer
    result_done y l =
        number_done
        (none_fails (asks (result_test y) 11 (place_at text (results_place text place) y) ∷ [])
        (rw (lt-ltb (result text place y) (wires text) (g.results_wires y l), g.results_new y l, g.results_apart y l), tt))

    -- what is left to set being enough, and all of it where the gate is the last
    pub gate_done : set_count text (suc j) + (gates text - suc j) ≤ wires text → (suc j < gates text) ⊎ (set_count text (suc j) ≡ wires text) → gate_answer text j ≡ answer 0
    unfolding gate_answer set_count
    gate_done room last =
        let k = operand_count text place in
        let r = result_count text place in
        let half = results_fit text place g.fits in
        let zeroth = g.operands_set 0 (operands_some text place g.fits) in
        let counts = counts_fit text place (set_count text j) g.fits (⊎_elim (λ s. inl (some_set text j (operand text place 0) s)) (λ s. inr s) zeroth) in
        let fit : CountFits text j k = record { number = g.counted; counts = counts; room = omega arith; last = ⊎_elim (λ l. inl l) (λ l. inr (omega arith)) last } in
        or_done (first_at count_checks) _ (number_done (none_fails count_checks (count_done text j k fit, (eq-eqb r (results_for k) half, tt))))
        ∙ or_done (first (operand_answer text j) 0 k) _ (number_done (first_done (operand_answer text j) 0 k (λ x l. operand_done x (omega arith))))
        ∙ or_done (first (result_answer text j) 0 r) _ (number_done (first_done (result_answer text j) 0 r (λ y l. result_done y (omega arith))))
        ∙ none_fails name_checks (name_done text place (is_set text j (operand text place 0)) g.fits zeroth, tt)
