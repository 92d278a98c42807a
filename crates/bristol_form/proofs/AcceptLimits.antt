-- The limits: the sums of sizes are within them where the last is; the gates that are not EQW are counted, and the count grows, so that it is within 1,024 at the end
-- where no gate passes it.
-- Assumes nothing.
use mathlib.Core.Path.{◌≡◌, refl, ◌∙◌}
use mathlib.Core.Bool.{Bool, true, false, not, cond, ◌&&◌, ◌||◌}
use mathlib.Core.List.{List, [], ◌∷◌}
use Prim.Native.Nat.{ℕ, zero, suc, ◌+◌, ◌≤◌, ◌<◌}
use native.Mathlib.Omega.{arith}
use borrow.Author.Tests.{ltb-true, eqb-false, not-true, lt-ltb, ne_eqb}
use lib.Dec.{ltb, eqb}
use Rattle.params.specs.Refusal.{answer}
use Rattle.circuit.specs.Form.{FieldCheck, asks, first}
use Rattle.circuit.proofs.Accept.{all_passed, both_done, or_done, first_good, first_done}
use Rattle.tokens.specs.Tokens.{place_at, eqw_name, mand_name}
use Rattle.bristol_form.specs.Says.{gates, input_values, input_sizes, inputs, output_values, output_sizes, outputs, gate_at, name_place, gate_name, made}
use Rattle.bristol_form.specs.Form.{size_answer, head_limit, gate_limit, limit_answer}
use Rattle.bristol_form.specs.Valid.{InLimits}
use Rattle.bristol_form.proofs.AcceptTests.{both_true, none_fails}
use Rattle.bristol_form.proofs.AcceptHead.{number_done, sizes_good, sizes_done}
use Rattle.bristol_form.proofs.Laws.{made_grows}

module _ (text : List ℕ) where
  abbrev none_checks : List FieldCheck
  none_checks = asks (ltb 0 (outputs text)) 12 (place_at text (input_sizes text) (input_values text + output_values text)) ∷ []

  abbrev name : ℕ → ℕ
  name j = gate_name text (gate_at text j)

  abbrev gate_checks : ℕ → List FieldCheck
  gate_checks j = asks (not (eqb (name j) mand_name) && (eqb (name j) eqw_name || ltb (made text j) 1024)) 12 (place_at text (name_place text (gate_at text j)) 0) ∷ []

  -- ---- what a gate's check says

  gate_test : (j : ℕ) → (gate_limit text j).number ≡ 0 → (not (eqb (name j) mand_name) ≡ true) × ((eqb (name j) eqw_name || ltb (made text j) 1024) ≡ true)
  unfolding gate_limit
  gate_test j h = both_true (not (eqb (name j) mand_name)) _ (all_passed (gate_checks j) tt h).0

  -- a gate within the limit keeps the count within it
  made_within : (j : ℕ) → (eqb (name j) eqw_name || ltb (made text j) 1024) ≡ true → made text j ≤ 1024 → made text (suc j) ≤ 1024
  unfolding made
  made_within j = go (eqb (name j) eqw_name)
    where
      go : (b : Bool) → (b || ltb (made text j) 1024) ≡ true → made text j ≤ 1024 → made text j + cond b 0 1 ≤ 1024
      go true t h = omega arith
      go false t h = let l = ltb-true (made text j) 1024 t in omega arith

  all_within : (g : ℕ) → ((j : ℕ) → j < g → (gate_limit text j).number ≡ 0) → made text g ≤ 1024
  unfolding made
  all_within zero each = omega arith
  all_within (suc j) each = made_within j (gate_test j (each j (omega arith))).1 (all_within j (λ i l. each i (omega arith)))

  pub within : (limit_answer text).number ≡ 0 → InLimits text
  unfolding limit_answer head_limit inputs outputs
  within a =
      let s = both_done (head_limit text) _ a in
      let t = both_done (first (size_answer text (input_sizes text) 12 256) 0 (input_values text)) _ s.0 in
      let u = both_done (first (size_answer text (output_sizes text) 12 64) 0 (output_values text)) _ t.1 in
      let gate = first_good (gate_limit text) 0 (gates text) s.1 in
      record {
        inputs_to = sizes_good text (input_sizes text) 12 256 (input_values text) tt t.0;
        outputs_from = ltb-true 0 (outputs text) (all_passed none_checks tt u.1).0;
        outputs_most = sizes_good text (output_sizes text) 12 64 (output_values text) tt u.0;
        gates_most = all_within (gates text) (λ j l. gate j (omega arith) (omega arith));
        no_mand = λ j l. eqb-false (name j) mand_name (not-true _ (gate_test j (gate j (omega arith) (omega arith))).0);
      }

  -- ---- back

  module _ (w : InLimits text) where
    gate_counted : (j : ℕ) → j < gates text → (eqb (name j) eqw_name || ltb (made text j) 1024) ≡ true
    unfolding made
    gate_counted j l = go (eqb (name j) eqw_name) (let g = made_grows text (suc j) (gates text) l in let m = w.gates_most in omega arith)
      where
        go : (b : Bool) → made text j + cond b 0 1 ≤ 1024 → (b || ltb (made text j) 1024) ≡ true
        go true h = refl
        go false h = lt-ltb (made text j) 1024 (omega arith)

    gate_within : (j : ℕ) → j < gates text → gate_limit text j ≡ answer 0
    unfolding gate_limit
    gate_within j l = none_fails (gate_checks j) (rw (ne_eqb (name j) mand_name (w.no_mand j l), gate_counted j l), tt)

    pub not_limited : limit_answer text ≡ answer 0
    unfolding limit_answer head_limit inputs outputs
    not_limited =
        or_done (head_limit text) _
        (number_done
        (or_done (first (size_answer text (input_sizes text) 12 256) 0 (input_values text)) _ (number_done (sizes_done text (input_sizes text) 12 256 (input_values text) w.inputs_to))
        ∙ or_done (first (size_answer text (output_sizes text) 12 64) 0 (output_values text)) _ (number_done (sizes_done text (output_sizes text) 12 64 (output_values text) w.outputs_most))
        ∙ none_fails none_checks (lt-ltb 0 (outputs text) w.outputs_from, tt)))
        ∙ first_done (gate_limit text) 0 (gates text) (λ j l. number_done (gate_within j (omega arith)))
