-- A text in the form is what form_answer accepts. The last gate, or without gates the head, says that all wires are set; as each gate sets a wire, every earlier
-- gate leaves enough for those after it.
-- Assumes nothing.
use mathlib.Core.Path.{◌≡◌, refl, ◌∙◌}
use mathlib.Core.Logic.{inl, inr, ⊎_elim}
use mathlib.Core.List.{List, [], ◌∷◌}
use Prim.Native.Nat.{ℕ, zero, suc, ◌≤◌, ◌<◌}
use native.Mathlib.Omega.{arith}
use borrow.Author.Tests.{eqb-true, eq-eqb}
use lib.Dec.{eqb}
use lib.ListN.{length}
use Rattle.params.specs.Refusal.{answer}
use Rattle.circuit.specs.Form.{FieldCheck, asks, first}
use Rattle.circuit.proofs.Accept.{all_passed, both_done, or_done, first_good, first_done, lt_or_ge}
use Rattle.tokens.specs.Tokens.{start_of}
use Rattle.bristol_form.specs.Says.{gates, wires, gate_at, set_count}
use Rattle.bristol_form.specs.Form.{head_answer, gate_answer, end_answer, form_answer}
use Rattle.bristol_form.specs.Valid.{InForm}
use Rattle.bristol_form.proofs.AcceptTests.{none_fails}
use Rattle.bristol_form.proofs.AcceptHead.{number_done, GoodHead, head_good, head_done}
use Rattle.bristol_form.proofs.AcceptGate.{ReadGate, gate_good, gate_done}
use Rattle.bristol_form.proofs.LawsForm.{wires_left, inputs_and_gates}

module _ (text : List ℕ) where
  abbrev end_checks : List FieldCheck
  end_checks = asks (eqb (start_of text (gate_at text (gates text))) (length text)) 11 (start_of text (gate_at text (gates text))) ∷ []

  -- the last gate sets what is left
  all_set : GoodHead text → (g : ℕ) → g ≡ gates text → ((j : ℕ) → j < g → ReadGate text j) → set_count text g ≡ wires text
  unfolding set_count
  all_set h zero e read = ⊎_elim (λ l. absurd (omega arith)) (λ l. l) h.inputs_all
  all_set h (suc j) e read =
      let r = read j (omega arith) in
      ⊎_elim (λ l. absurd (omega arith)) (λ l. omega arith) r.count.last

  pub accepted : (form_answer text).number ≡ 0 → InForm text
  unfolding form_answer end_answer
  accepted a =
      let s = both_done (head_answer text) _ a in
      let t = both_done (first (gate_answer text) 0 (gates text)) _ s.1 in
      let h = head_good text s.0 in
      let gate = first_good (gate_answer text) 0 (gates text) t.0 in
      record {
        gates_number = h.gates_number;
        wires_number = h.wires_number;
        input_values_number = h.input_values_number;
        output_values_number = h.output_values_number;
        outputs_to = h.outputs_to;
        every_gate = λ j l. (gate_good text j (gate j (omega arith) (omega arith))).good;
        all_set = all_set h (gates text) refl (λ j l. gate_good text j (gate j (omega arith) (omega arith)));
        whole = eqb-true _ _ (all_passed end_checks tt t.1).0;
      }

  module _ (f : InForm text) where
    good_head : GoodHead text
    unfolding set_count
    good_head =
        record {
          gates_number = f.gates_number;
          wires_number = f.wires_number;
          input_values_number = f.input_values_number;
          output_values_number = f.output_values_number;
          wire_each = inputs_and_gates text f;
          inputs_all = ⊎_elim (λ (l : 0 < gates text). inl l) (λ (l : gates text ≤ 0). let z : gates text ≡ 0 = omega arith in inr (rw z at f.all_set)) (lt_or_ge 0 (gates text));
          outputs_to = f.outputs_to;
        }

    good_gate : (j : ℕ) → j < gates text → gate_answer text j ≡ answer 0
    good_gate j l =
        gate_done text j (f.every_gate j l) (wires_left text f (suc j) l)
        (⊎_elim (λ (m : suc j < gates text). inl m) (λ (m : gates text ≤ suc j). let z : gates text ≡ suc j = omega arith in inr (rw z at f.all_set)) (lt_or_ge (suc j) (gates text)))

    pub not_refused : form_answer text ≡ answer 0
    unfolding form_answer end_answer
    not_refused =
        or_done (head_answer text) _ (number_done (head_done text good_head))
        ∙ or_done (first (gate_answer text) 0 (gates text)) _ (number_done (first_done (gate_answer text) 0 (gates text) (λ j l. number_done (good_gate j (omega arith)))))
        ∙ none_fails end_checks (eq-eqb (start_of text (gate_at text (gates text))) (length text) f.whole, tt)
