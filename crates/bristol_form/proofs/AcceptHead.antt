-- The head of a text: each check is a fact, and the facts are what a text in the form has. The last sum of sizes is the greatest, so it is within a bound where all are.
-- Assumes nothing.
use mathlib.Core.Path.{◌≡◌, ap, ◌∙◌}
use mathlib.Core.Logic.{◌⊎◌}
use mathlib.Core.List.{List, [], ◌∷◌}
use Prim.Native.Nat.{ℕ, zero, suc, ◌+◌, ◌-◌, ◌≤◌, ◌<◌}
use native.Mathlib.Omega.{arith}
use borrow.Author.Tests.{leb-true, ltb-true, le-leb, lt-ltb}
use lib.Dec.{T, leb, ltb}
use Rattle.params.specs.Refusal.{Answer}
use Rattle.params.specs.Refusal.{answer}
use Rattle.ring.specs.Sums.{sum_to}
use Rattle.circuit.specs.Form.{FieldCheck, asks, first_at, first}
use Rattle.circuit.proofs.Accept.{numbered, all_passed, both_done, or_done, first_good, first_done}
use Rattle.tokens.specs.Tokens.{place_at, no_number}
use Rattle.bristol_form.specs.Says.{gates, wires, input_values, sizes_to, input_sizes, inputs, output_values, output_sizes, outputs}
use Rattle.bristol_form.specs.Form.{size_answer, count_fields, value_fields, head_answer}
use Rattle.bristol_form.proofs.AcceptTests.{both_true, less_or_equal, is_less_or_equal, none_fails}
use Rattle.bristol_form.proofs.Laws.{sizes_grow}

-- an answer that is done refuses nothing
pub number_done : {a : Answer} → a ≡ answer 0 → a.number ≡ 0
number_done e = ap (λ (a : Answer). a.number) e

-- ---- sizes within a bound

module _ (text : List ℕ) (p number bound : ℕ) where
  abbrev check : ℕ → List FieldCheck
  check i = asks (leb (sizes_to text p (suc i)) bound) number (place_at text p i) ∷ []

  pub sizes_good : (n : ℕ) → T (numbered (check 0)) → (first (size_answer text p number bound) 0 n).number ≡ 0 → sizes_to text p n ≤ bound
  unfolding sizes_to sum_to size_answer
  sizes_good zero t h = omega arith
  sizes_good (suc n) t h =
      let last = first_good (size_answer text p number bound) 0 (suc n) h n (omega arith) (omega arith) in
      leb-true (sizes_to text p (suc n)) bound (all_passed (check n) t last).0

  pub sizes_done : (n : ℕ) → sizes_to text p n ≤ bound → first (size_answer text p number bound) 0 n ≡ answer 0
  unfolding size_answer
  sizes_done n h =
      first_done (size_answer text p number bound) 0 n
      (λ i l. let g = sizes_grow text p (suc i) n (omega arith) in number_done (none_fails (check i) (le-leb (sizes_to text p (suc i)) bound (omega arith), tt)))

-- ---- the head

pub record GoodHead (text : List ℕ) : Type 0 where
  pub gates_number : gates text < no_number
  pub wires_number : wires text < no_number
  pub input_values_number : input_values text < no_number
  pub output_values_number : output_values text < no_number
  pub wire_each : inputs text + gates text ≤ wires text
  pub inputs_all : (0 < gates text) ⊎ (inputs text ≡ wires text)
  pub outputs_to : outputs text ≤ wires text

module _ (text : List ℕ) where
  pub head_good : (head_answer text).number ≡ 0 → GoodHead text
  unfolding head_answer count_fields value_fields inputs outputs
  head_good h =
      let s = both_done (first_at (count_fields text)) _ h in
      let t = both_done (first (size_answer text (input_sizes text) 11 (wires text - gates text)) 0 (input_values text)) _ s.1 in
      let u = both_done (first_at (value_fields text)) _ t.1 in
      let c = all_passed (count_fields text) tt s.0 in
      let v = all_passed (value_fields text) tt u.0 in
      let w = both_true (ltb (wires text) no_number) (leb (gates text) (wires text)) c.1.0 in
      let i = sizes_good text (input_sizes text) 11 (wires text - gates text) (input_values text) tt t.0 in
      let l = leb-true (gates text) (wires text) w.1 in
      record {
        gates_number = ltb-true _ _ c.0;
        wires_number = ltb-true _ _ w.0;
        input_values_number = ltb-true _ _ c.1.1.0;
        output_values_number = ltb-true _ _ v.1.0;
        wire_each = omega arith;
        inputs_all = less_or_equal 0 (gates text) (inputs text) (wires text) v.0;
        outputs_to = sizes_good text (output_sizes text) 11 (wires text) (output_values text) tt u.1;
      }

  pub head_done : GoodHead text → head_answer text ≡ answer 0
  unfolding head_answer count_fields value_fields inputs outputs
  head_done g =
      or_done (first_at (count_fields text)) _
      (number_done
      (none_fails (count_fields text)
      (lt-ltb (gates text) no_number g.gates_number, (rw (lt-ltb (wires text) no_number g.wires_number) (le-leb (gates text) (wires text) (omega arith)), (lt-ltb (input_values text) no_number g.input_values_number, tt)))))
      ∙ or_done (first (size_answer text (input_sizes text) 11 (wires text - gates text)) 0 (input_values text)) _
      (number_done (sizes_done text (input_sizes text) 11 (wires text - gates text) (input_values text) (omega arith)))
      ∙ or_done (first_at (value_fields text)) _
      (number_done
      (none_fails (value_fields text)
      (is_less_or_equal 0 (gates text) (inputs text) (wires text) g.inputs_all, (lt-ltb (output_values text) no_number g.output_values_number, tt))))
      ∙ sizes_done text (output_sizes text) 11 (wires text) (output_values text) g.outputs_to
