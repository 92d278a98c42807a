-- Importing the text of an exported circuit gives a circuit with the same meaning on every input, where the circuit's gates have at most 1,024 lines: the two meanings
-- meet in the text's. With more lines than that the text passes a limit.
-- Assumes nothing.
use mathlib.Core.Path.{◌≡◌, ◌∙◌}
use mathlib.Core.List.{List}
use Prim.Native.Nat.{ℕ, ◌≤◌, ◌<◌}
use native.Mathlib.Omega.{arith}
use Rattle.circuit.specs.Form.{gates}
use Rattle.circuit.specs.Valid.{Valid}
use Rattle.circuit.specs.Plain.{output_bits}
use Rattle.bristol_form.specs.Form.{text_answer}
use Rattle.bristol_form.proofs.Accept.{takes, taken}
use Rattle.bristol.specs.Import.{imported}
use Rattle.bristol.proofs.Laws.{imported_valid, imported_means}
use Rattle.params.specs.Refusal.{answer}
use Rattle.bristol_export.specs.Text.{lines_to, exported}
use Rattle.export_meaning.proofs.Exported.{exported_in_form}
use Rattle.export_meaning.proofs.Meaning.{exported_means}
use Rattle.export_meaning.proofs.Counts.{made_are, exported_in_limits}

module _ (bs : List ℕ) (v : Valid bs) (few : lines_to bs (gates bs) ≤ 1024) where
  -- the text is taken
  pub back_taken : text_answer (exported bs) ≡ answer 0
  back_taken = takes (exported bs) (exported_in_form bs v) (exported_in_limits bs v few)

  -- what is made of it is a circuit
  pub back_valid : Valid (imported (exported bs))
  back_valid = imported_valid (exported bs) (exported_in_form bs v) (exported_in_limits bs v few)

  -- with the same meaning
  pub back_means : (ins : List ℕ) → output_bits (imported (exported bs)) ins ≡ output_bits bs ins
  back_means ins = imported_means (exported bs) (exported_in_form bs v) (exported_in_limits bs v few) ins ∙ exported_means bs v ins

-- with more lines the text is refused
pub back_refused : (bs : List ℕ) → Valid bs → 1024 < lines_to bs (gates bs) → (text_answer (exported bs)).number ≡ 0 → ⊥
back_refused bs v many h =
    let l = (taken (exported bs) h).1.gates_most in
    let m = made_are bs v in
    let q : ⊥ = omega (arith, l, m, many) in q
