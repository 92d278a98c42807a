-- With room for any circuit an import answers what the text gets: so what it leaves, and the line of its refusal, is what the program writes.
-- Assumes nothing.
use mathlib.Core.Path.{◌≡◌, sym, ap, ap₂, ◌∙◌}
use mathlib.Core.List.{List, [], ◌++◌}
use Prim.Native.Nat.{ℕ, ◌≤◌}
use native.Mathlib.Decide.{ℕ_discrete}
use native.Mathlib.Omega.{arith}
use borrow.Author.Tests.{ne_eqb}
use lib.ListN.{length, take, drop}
use lib.Seq.{take_at}
use Rattle.params.specs.Refusal.{Answer}
use Rattle.params.proofs.Answers.{when_done, when_refused, given_ok}
use Rattle.params.specs.declared.refusal.Refusal.{Refusal}
use Rattle.params.specs.Refusal.{given, number, place}
use Rattle.std.specs.Prelude.{Result, Ok, Err}
use Rattle.circuit.proofs.Outcomes.{told_err}
use Rattle.bristol_form.proofs.AnswerTold.{text_told}
use Rattle.circuit.specs.Form.{longest}
use Rattle.report.specs.Text.{refused_text, refused_line}
use Rattle.bristol_form.specs.Form.{text_answer}
use Rattle.bristol_form.proofs.Accept.{taken, answer_done}
use Rattle.bristol.specs.Import.{imported, imported_length, import_answer, import_said, import_out}
use Rattle.bristol.proofs.Calls.{import_done, longest_fits, length_is_said, written_front}
use Rattle.from_bristol.specs.Written.{circuit_of, line_of}

-- there is room, so 2 is not given
as_text : (text : List ℕ) (room : ℕ) → longest ≤ room → import_answer text room ≡ text_answer text
unfolding import_answer
as_text text room h = go (ℕ_discrete (text_answer text).number 0)
  where
    go : Dec ((text_answer text).number ≡ 0) → import_answer text room ≡ text_answer text
    go (yes z) =
        let t = taken text z in
        let f = longest_fits text t.1 in
        import_done text room (record { form = t.0; limits = t.1; fits = omega arith }) ∙ sym (answer_done text z)
    go (no d) = rw (ne_eqb (text_answer text).number 0 d)

-- what an import into these bytes handed back, and left
module _ (text out : List ℕ) (h : longest ≤ length out) where
  said_by : import_said text (length out) ≡ given (text_answer text) (imported_length text)
  unfolding import_said
  said_by = ap (λ (a : Answer). given a (imported_length text)) (as_text text (length out) h)

  module _ {made : Result ℕ Refusal} (e : made ≡ import_said text (length out)) {n : ℕ} (is : made ≡ Ok n) where
    said : import_said text (length out) ≡ Ok n
    said = sym e ∙ is

    text_done : (text_answer text).number ≡ 0
    text_done = given_ok (text_answer text) (imported_length text) (sym said_by ∙ said)

    pub circuit_within : n ≤ length out
    circuit_within = let l = length_is_said text out said in let f = longest_fits text (taken text text_done).1 in omega arith

    pub circuit_told : {last : List ℕ} → last ≡ import_out text out → take n last ≡ circuit_of text
    unfolding circuit_of
    circuit_told {last} f = ap (take n) f ∙ written_front text out said ∙ sym (when_done (text_answer text).number (imported text) [] text_done)

    pub no_line : [] ≡ line_of text
    unfolding line_of
    no_line = sym (when_done (text_answer text).number [] (refused_text (text_answer text)) text_done)

  module _ {made : Result ℕ Refusal} (e : made ≡ import_said text (length out)) {r : Refusal} (is : made ≡ Err r) where
    told : ((text_answer text).number ≡ 0 → ⊥) × (number r ≡ (text_answer text).number) × (place r ≡ (text_answer text).place)
    told = told_err (text_answer text) (text_told text) (imported_length text) (sym said_by ∙ sym e ∙ is)

    pub no_circuit : [] ≡ circuit_of text
    unfolding circuit_of
    no_circuit = sym (when_refused (text_answer text).number (imported text) [] told.0)

    pub line_told : (line : List ℕ) {m p n : ℕ} {last : List ℕ} → m ≡ number r → p ≡ place r → n ≡ length (refused_line m p) → last ≡ refused_line m p ++ drop (length (refused_line m p)) line → take n last ≡ line_of text
    unfolding line_of
    line_told line {m} {p} {n} {last} a b z f =
        let l = refused_line m p in
        ap (take n) f
        ∙ take_at l (drop (length l) line) n (sym z)
        ∙ ap₂ refused_line (a ∙ told.1) (b ∙ told.2)
        ∙ sym (when_refused (text_answer text).number [] (refused_text (text_answer text)) told.0)
