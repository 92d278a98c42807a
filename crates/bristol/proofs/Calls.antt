-- What a call of an import leaves: one that is not refused writes the circuit's bytes in front, and they are a valid circuit that means what the text means; one that is
-- refused keeps what was lent. The answer is taken apart into the text's and the room.
-- Assumes nothing.
use mathlib.Core.Path.{◌≡◌, refl, ap, ◌∙◌}
use mathlib.Core.Bool.{Bool, true, false}
use mathlib.Core.List.{List, ◌++◌}
use Prim.Native.Nat.{ℕ, ◌≤◌, ◌<◌}
use native.Mathlib.Omega.{arith}
use borrow.Author.Tests.{leb-true, le-leb, lt-leb}
use lib.Dec.{lit<, leb}
use lib.ListN.{length, take, drop}
use lib.Seq.{take_at}
use Rattle.params.specs.Refusal.{Answer}
use Rattle.params.specs.Refusal.{answer, check}
use Rattle.params.proofs.Answers.{passed, when_done, when_refused, given_done, given_ok}
use Rattle.std.specs.Prelude.{Ok}
use Rattle.circuit.specs.Form.{longest}
use Rattle.circuit.specs.Valid.{Valid}
use Rattle.circuit.specs.Plain.{output_bits}
use Rattle.circuit.proofs.Accept.{both_done, or_done}
use Rattle.bristol_form.specs.Form.{text_answer}
use Rattle.bristol_form.specs.Valid.{InForm, InLimits}
use Rattle.bristol_form.specs.Meaning.{meaning_of}
use Rattle.bristol_form.proofs.Accept.{taken, takes}
use Rattle.bristol_form.proofs.AnswerTold.{text_told}
use Rattle.circuit.proofs.Outcomes.{Told, told_or}
use Rattle.bristol.specs.Import.{imported, imported_length, import_answer, import_said, import_out}
use Rattle.bristol.proofs.ImportedBytes.{length_is}
use Rattle.bristol.proofs.Laws.{imported_valid, imported_means}

-- What holds where an import into so many bytes is not refused.
pub record ImportGood (text : List ℕ) (room : ℕ) : Type 0 where
  pub form : InForm text
  pub limits : InLimits text
  pub fits : imported_length text ≤ room

pub import_good : (text : List ℕ) (room : ℕ) → (import_answer text room).number ≡ 0 → ImportGood text room
unfolding import_answer
import_good text room h =
    let s = both_done (text_answer text) _ h in
    let t = taken text s.0 in
    record {
      form = t.0;
      limits = t.1;
      fits = leb-true _ _ (passed _ _ _ (lit< tt) s.1).0;
    }

pub import_done : (text : List ℕ) (room : ℕ) → ImportGood text room → import_answer text room ≡ answer 0
unfolding import_answer
import_done text room g = or_done (text_answer text) _ (ap (λ (a : Answer). a.number) (takes text g.form g.limits)) ∙ rw (le-leb (imported_length text) room g.fits)

-- a text that is taken and does not fit gets 2
pub import_short : (text : List ℕ) (room : ℕ) → InForm text → InLimits text → room < imported_length text → import_answer text room ≡ answer 2
unfolding import_answer
import_short text room form limits h = or_done (text_answer text) _ (ap (λ (a : Answer). a.number) (takes text form limits)) ∙ rw (lt-leb (imported_length text) room h)

-- and one as long as the longest circuit fits each
pub longest_fits : (text : List ℕ) → InLimits text → imported_length text ≤ longest
unfolding imported_length
longest_fits text limits = let a = limits.gates_most in let b = limits.outputs_most in omega arith

module _ (text out : List ℕ) where
  -- a refused call keeps what was lent
  pub refused_kept : ((import_answer text (length out)).number ≡ 0 → ⊥) → import_out text out ≡ out
  unfolding import_out
  refused_kept h = when_refused (import_answer text (length out)).number (imported text ++ drop (imported_length text) out) out h

  -- the circuit in front, and the lent bytes behind it
  pub written : (import_answer text (length out)).number ≡ 0 → import_out text out ≡ imported text ++ drop (imported_length text) out
  unfolding import_out
  written done = when_done (import_answer text (length out)).number (imported text ++ drop (imported_length text) out) out done

  -- a call that is not refused hands back the circuit's length
  pub said_length : (import_answer text (length out)).number ≡ 0 → import_said text (length out) ≡ Ok (imported_length text)
  unfolding import_said
  said_length done = given_done (import_answer text (length out)) (imported_length text) done

  module _ {n : ℕ} (said : import_said text (length out) ≡ Ok n) where
    pub done : (import_answer text (length out)).number ≡ 0
    unfolding import_said
    done = given_ok (import_answer text (length out)) (imported_length text) said

    pub length_is_said : n ≡ imported_length text
    length_is_said = let e = said_length done in cc

    -- which is that of the circuit in front
    pub written_front : take n (import_out text out) ≡ imported text
    written_front =
        ap (λ (m : ℕ). take m (import_out text out)) length_is_said
        ∙ ap (take (imported_length text)) (written done)
        ∙ take_at (imported text) (drop (imported_length text) out) (imported_length text) (length_is text)

    -- what is written is a valid circuit
    pub written_valid : Valid (take n (import_out text out))
    written_valid = let g = import_good text (length out) done in rw written_front (imported_valid text g.form g.limits)

    -- and it means what the text means
    pub written_means : (ins : List ℕ) → output_bits (take n (import_out text out)) ins ≡ meaning_of text ins
    written_means ins =
        let g = import_good text (length out) done in
        ap (λ (bs : List ℕ). output_bits bs ins) written_front ∙ imported_means text g.form g.limits ins

-- the number and the place that a refused call's refusal tells are those of its answer
pub import_told : (text : List ℕ) (room : ℕ) → Told (import_answer text room)
unfolding import_answer
import_told text room = told_or (text_answer text) (answer (check (leb (imported_length text) room) 2 0)) (text_told text) (go (leb (imported_length text) room))
  where
    go : (t : Bool) → Told (answer (check t 2 0))
    go true = (refl, refl)
    go false = (refl, refl)
