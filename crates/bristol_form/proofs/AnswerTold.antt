-- The number and the place that a refused text's refusal tells are those of its answer: each check gives 11 or 12 with its place.
-- Assumes nothing.
use mathlib.Core.Path.{refl}
use mathlib.Core.Bool.{not, ◌&&◌, ◌||◌}
use mathlib.Core.List.{List, [], ◌∷◌}
use Prim.Native.Nat.{ℕ, suc, ◌+◌, ◌-◌}
use lib.Dec.{leb, ltb, eqb}
use lib.ListN.{length}
use Rattle.circuit.specs.Form.{asks, first_at, first, or_else}
use Rattle.circuit.proofs.Outcomes.{Told, told_or, told_checks, told_first}
use Rattle.tokens.specs.Tokens.{start_of, place_at, eqw_name, mand_name}
use Rattle.bristol_form.specs.Says.{gates, wires, input_values, sizes_to, input_sizes, output_values, output_sizes, outputs, gate_at, operand_count, result_count, operands_place, results_place, name_place, operand, result, gate_name, set_by, is_set, made}
use Rattle.bristol_form.specs.Form.{size_answer, count_fields, value_fields, head_answer, results_for, count_good, operand_answer, result_answer, name_good, gate_answer, end_answer, form_answer, gate_limit, head_limit, limit_answer, text_answer}

module _ (text : List ℕ) where
  sizes_formed : (p bound n : ℕ) → Told (first (size_answer text p 11 bound) 0 n)
  unfolding size_answer
  sizes_formed p bound n = told_first (size_answer text p 11 bound) (λ i. told_checks (asks (leb (sizes_to text p (suc i)) bound) 11 (place_at text p i) ∷ []) ((refl, refl), tt)) 0 n

  sizes_limited : (p bound n : ℕ) → Told (first (size_answer text p 12 bound) 0 n)
  unfolding size_answer
  sizes_limited p bound n = told_first (size_answer text p 12 bound) (λ i. told_checks (asks (leb (sizes_to text p (suc i)) bound) 12 (place_at text p i) ∷ []) ((refl, refl), tt)) 0 n

  counts_told : Told (first_at (count_fields text))
  unfolding count_fields
  counts_told = told_checks (count_fields text) ((refl, refl), ((refl, refl), ((refl, refl), tt)))

  values_told : Told (first_at (value_fields text))
  unfolding value_fields
  values_told = told_checks (value_fields text) ((refl, refl), ((refl, refl), tt))

  head_told : Told (head_answer text)
  unfolding head_answer
  head_told =
      told_or (first_at (count_fields text)) (or_else (first (size_answer text (input_sizes text) 11 (wires text - gates text)) 0 (input_values text)) (or_else (first_at (value_fields text)) (first (size_answer text (output_sizes text) 11 (wires text)) 0 (output_values text)))) counts_told
      (told_or (first (size_answer text (input_sizes text) 11 (wires text - gates text)) 0 (input_values text)) (or_else (first_at (value_fields text)) (first (size_answer text (output_sizes text) 11 (wires text)) 0 (output_values text))) (sizes_formed (input_sizes text) (wires text - gates text) (input_values text))
      (told_or (first_at (value_fields text)) (first (size_answer text (output_sizes text) 11 (wires text)) 0 (output_values text)) values_told (sizes_formed (output_sizes text) (wires text) (output_values text))))

  operands_told : (j n : ℕ) → Told (first (operand_answer text j) 0 n)
  unfolding operand_answer
  operands_told j n =
      told_first (operand_answer text j)
      (λ x. told_checks (asks (is_set text j (operand text (gate_at text j) x) || eqb (operand_count text (gate_at text j)) 1 && leb (operand text (gate_at text j) x) 1) 11 (place_at text (operands_place text (gate_at text j)) x) ∷ []) ((refl, refl), tt)) 0 n

  results_told : (j n : ℕ) → Told (first (result_answer text j) 0 n)
  unfolding result_answer
  results_told j n =
      told_first (result_answer text j)
      (λ y. told_checks (asks (ltb (result text (gate_at text j) y) (wires text) && not (is_set text j (result text (gate_at text j) y)) && not (set_by text (gate_at text j) y (result text (gate_at text j) y))) 11 (place_at text (results_place text (gate_at text j)) y) ∷ []) ((refl, refl), tt)) 0 n

  gate_told : (j : ℕ) → Told (gate_answer text j)
  unfolding gate_answer
  gate_told j =
      let g = gate_at text j in
      let counts = asks (count_good text j (operand_count text g)) 11 (place_at text g 0) ∷ asks (eqb (result_count text g) (results_for (operand_count text g))) 11 (place_at text g 1) ∷ [] in
      let name = asks (name_good (operand_count text g) (operand text g 0) (is_set text j (operand text g 0)) (gate_name text g)) 11 (place_at text (name_place text g) 0) ∷ [] in
      told_or (first_at counts) (or_else (first (operand_answer text j) 0 (operand_count text g)) (or_else (first (result_answer text j) 0 (result_count text g)) (first_at name))) (told_checks counts ((refl, refl), ((refl, refl), tt)))
      (told_or (first (operand_answer text j) 0 (operand_count text g)) (or_else (first (result_answer text j) 0 (result_count text g)) (first_at name)) (operands_told j (operand_count text g))
      (told_or (first (result_answer text j) 0 (result_count text g)) (first_at name) (results_told j (result_count text g)) (told_checks name ((refl, refl), tt))))

  end_told : Told (end_answer text)
  unfolding end_answer
  end_told = told_checks (asks (eqb (start_of text (gate_at text (gates text))) (length text)) 11 (start_of text (gate_at text (gates text))) ∷ []) ((refl, refl), tt)

  form_told : Told (form_answer text)
  unfolding form_answer
  form_told =
      told_or (head_answer text) (or_else (first (gate_answer text) 0 (gates text)) (end_answer text)) head_told
      (told_or (first (gate_answer text) 0 (gates text)) (end_answer text) (told_first (gate_answer text) gate_told 0 (gates text)) end_told)

  gates_limited : Told (first (gate_limit text) 0 (gates text))
  unfolding gate_limit
  gates_limited =
      told_first (gate_limit text)
      (λ j. told_checks (asks (not (eqb (gate_name text (gate_at text j)) mand_name) && (eqb (gate_name text (gate_at text j)) eqw_name || ltb (made text j) 1024)) 12 (place_at text (name_place text (gate_at text j)) 0) ∷ []) ((refl, refl), tt)) 0 (gates text)

  limit_told : Told (head_limit text)
  unfolding head_limit
  limit_told =
      let none = asks (ltb 0 (outputs text)) 12 (place_at text (input_sizes text) (input_values text + output_values text)) ∷ [] in
      told_or (first (size_answer text (input_sizes text) 12 256) 0 (input_values text)) (or_else (first (size_answer text (output_sizes text) 12 64) 0 (output_values text)) (first_at none)) (sizes_limited (input_sizes text) 256 (input_values text))
      (told_or (first (size_answer text (output_sizes text) 12 64) 0 (output_values text)) (first_at none) (sizes_limited (output_sizes text) 64 (output_values text)) (told_checks none ((refl, refl), tt)))

  pub text_told : Told (text_answer text)
  unfolding text_answer limit_answer
  text_told =
      told_or (form_answer text) (or_else (head_limit text) (first (gate_limit text) 0 (gates text))) form_told
      (told_or (head_limit text) (first (gate_limit text) 0 (gates text)) limit_told gates_limited)
