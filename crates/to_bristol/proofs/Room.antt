-- With room for any text an export answers what the circuit gets, and bytes past one more than the longest circuit change nothing: so what is left, and the line of its
-- refusal, is what the program writes.
-- Assumes nothing.
use mathlib.Core.Path.{◌≡◌, sym, ap, ap₂, ◌∙◌}
use mathlib.Core.Bool.{true}
use lib.Dec.{leb}
use borrow.Author.Tests.{ne_eqb, le-leb}
use mathlib.Core.List.{List, [], ◌++◌}
use Prim.Native.Nat.{ℕ, ◌≤◌, ◌<◌}
use native.Mathlib.Decide.{ℕ_discrete}
use native.Mathlib.Omega.{arith}
use lib.ListN.{length, take, drop}
use lib.Seq.{take_at}
use Rattle.params.specs.Refusal.{Answer}
use Rattle.params.proofs.Answers.{when_done, when_refused, given_ok}
use Rattle.params.specs.declared.refusal.Refusal.{Refusal}
use Rattle.params.specs.Refusal.{given, number, place}
use Rattle.std.specs.Prelude.{Result, Ok, Err}
use Rattle.circuit.proofs.Outcomes.{told_err, answer_told}
use Rattle.circuit.specs.Form.{answer_of, longest}
use Rattle.circuit.proofs.Accept.{accepted, answer_done}
use Rattle.circuit.proofs.Longest.{answer_cut, accepted_whole}
use Rattle.report.specs.Text.{refused_text, refused_line}
use Rattle.bristol_export.specs.Text.{exported, longest_text}
use Rattle.bristol_export.specs.Export.{export_answer, export_said, export_out}
use Rattle.bristol_export.proofs.Answers.{length_is, length_told}
use Rattle.bristol_export.proofs.Lengths.{never_longer}
use Rattle.to_bristol.specs.Written.{text_of, line_of}

-- ---- the whole input

-- what was read is as much of the input as the slice lent for it takes
module _ (input bs : List ℕ) (n : ℕ) (h : longest < length input) (e : take (length input) bs ≡ take n input) where
  same_answer : answer_of (take n input) ≡ answer_of bs
  same_answer = ap answer_of (sym e) ∙ answer_cut bs (length input) h

  pub read_text : text_of (take n input) ≡ text_of bs
  unfolding text_of
  read_text = go (ℕ_discrete (answer_of bs).number 0)
    where
      go : Dec ((answer_of bs).number ≡ 0) → text_of (take n input) ≡ text_of bs
      go (yes z) = ap text_of (sym e ∙ accepted_whole bs (length input) h z)
      go (no d) =
          when_refused (answer_of (take n input)).number (exported (take n input)) [] (λ z. d (sym (ap (λ (a : Answer). a.number) same_answer) ∙ z))
          ∙ sym (when_refused (answer_of bs).number (exported bs) [] d)

  pub read_line : line_of (take n input) ≡ line_of bs
  unfolding line_of
  read_line = rw (same_answer)

-- ---- what an export into these bytes handed back, and left

module _ (rs out : List ℕ) (h : longest_text ≤ length out) where
  -- there is room, so 2 is not given
  as_circuit : export_answer rs (length out) ≡ answer_of rs
  unfolding export_answer
  as_circuit = go (ℕ_discrete (answer_of rs).number 0)
    where
      go : Dec ((answer_of rs).number ≡ 0) → export_answer rs (length out) ≡ answer_of rs
      go (yes z) =
          let l = never_longer rs (accepted rs z) in
          let e = answer_done rs z in
          let f : leb (length (exported rs)) (length out) ≡ true = le-leb (length (exported rs)) (length out) (omega arith) in
          rw (e, f)
      go (no d) = rw (ne_eqb (answer_of rs).number 0 d)

  said_by : export_said rs (length out) ≡ given (answer_of rs) (length (exported rs))
  unfolding export_said
  said_by = ap (λ (a : Answer). given a (length (exported rs))) as_circuit

  module _ {made : Result ℕ Refusal} (e : made ≡ export_said rs (length out)) {n : ℕ} (is : made ≡ Ok n) where
    said : export_said rs (length out) ≡ Ok n
    said = sym e ∙ is

    circuit_done : (answer_of rs).number ≡ 0
    circuit_done = given_ok (answer_of rs) (length (exported rs)) (sym said_by ∙ said)

    pub text_within : n ≤ length out
    text_within = length_told rs (length out) said

    pub text_told : {last : List ℕ} → last ≡ export_out rs out → take n last ≡ text_of rs
    unfolding export_out text_of
    text_told {last} f =
        ap (take n) (f ∙ when_done (export_answer rs (length out)).number (exported rs ++ drop (length (exported rs)) out) out (ap (λ (a : Answer). a.number) as_circuit ∙ circuit_done))
        ∙ take_at (exported rs) (drop (length (exported rs)) out) n (sym (length_is rs (length out) said))
        ∙ sym (when_done (answer_of rs).number (exported rs) [] circuit_done)

    pub no_line : [] ≡ line_of rs
    unfolding line_of
    no_line = sym (when_done (answer_of rs).number [] (refused_text (answer_of rs)) circuit_done)

  module _ {made : Result ℕ Refusal} (e : made ≡ export_said rs (length out)) {r : Refusal} (is : made ≡ Err r) where
    told : ((answer_of rs).number ≡ 0 → ⊥) × (number r ≡ (answer_of rs).number) × (place r ≡ (answer_of rs).place)
    told = told_err (answer_of rs) (answer_told rs) (length (exported rs)) (sym said_by ∙ sym e ∙ is)

    pub no_text : [] ≡ text_of rs
    unfolding text_of
    no_text = sym (when_refused (answer_of rs).number (exported rs) [] told.0)

    pub line_told : (o : List ℕ) {m p n : ℕ} {last : List ℕ} → m ≡ number r → p ≡ place r → n ≡ length (refused_line m p) → last ≡ refused_line m p ++ drop (length (refused_line m p)) o → take n last ≡ line_of rs
    unfolding line_of
    line_told o {m} {p} {n} {last} a b z f =
        let l = refused_line m p in
        ap (take n) f
        ∙ take_at l (drop (length l) o) n (sym z)
        ∙ ap₂ refused_line (a ∙ told.1) (b ∙ told.2)
        ∙ sym (when_refused (answer_of rs).number [] (refused_text (answer_of rs)) told.0)
