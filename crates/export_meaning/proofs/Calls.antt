-- What a call of an export leaves: one that is not refused writes in front a text that is in the form and means what the circuit means. The answer is taken apart into
-- the circuit's and the room.
-- Assumes nothing.
use mathlib.Core.Path.{◌≡◌, sym, ap, subst, ◌∙◌}
use mathlib.Core.List.{List, ◌++◌}
use Prim.Native.Nat.{ℕ}
use lib.Dec.{leb}
use lib.ListN.{length, take, drop}
use lib.Seq.{take_at}
use Rattle.params.specs.Refusal.{answer, check}
use Rattle.params.proofs.Answers.{when_done, given_ok}
use Rattle.std.specs.Prelude.{Ok}
use Rattle.bristol_export.proofs.Answers.{length_is}
use Rattle.circuit.specs.Form.{answer_of}
use Rattle.circuit.specs.Valid.{Valid}
use Rattle.circuit.specs.Plain.{output_bits}
use Rattle.circuit.proofs.Accept.{accepted, both_done}
use Rattle.bristol_form.specs.Valid.{InForm}
use Rattle.bristol_form.specs.Meaning.{meaning_of}
use Rattle.bristol_export.specs.Text.{exported}
use Rattle.bristol_export.specs.Export.{export_answer, export_said, export_out}
use Rattle.export_meaning.proofs.Exported.{exported_in_form}
use Rattle.export_meaning.proofs.Meaning.{exported_means}

module _ (bs out : List ℕ) {n : ℕ} (said : export_said bs (length out) ≡ Ok n) where
  done : (export_answer bs (length out)).number ≡ 0
  unfolding export_said
  done = given_ok (export_answer bs (length out)) (length (exported bs)) said

  pub circuit_valid : Valid bs
  unfolding export_answer
  circuit_valid = accepted bs (both_done (answer_of bs) (answer (check (leb (length (exported bs)) (length out)) 2 0)) done).0

  -- what was written is the text
  pub written_front : take n (export_out bs out) ≡ exported bs
  unfolding export_out
  written_front =
      ap (take n) (when_done (export_answer bs (length out)).number (exported bs ++ drop (length (exported bs)) out) out done)
      ∙ take_at (exported bs) (drop (length (exported bs)) out) n (sym (length_is bs (length out) said))

  pub written_in_form : InForm (take n (export_out bs out))
  written_in_form = subst (λ (t : List ℕ). InForm t) (sym written_front) (exported_in_form bs circuit_valid)

  pub written_means : (ins : List ℕ) → meaning_of (take n (export_out bs out)) ins ≡ output_bits bs ins
  written_means ins = ap (λ (t : List ℕ). meaning_of t ins) written_front ∙ exported_means bs circuit_valid ins
