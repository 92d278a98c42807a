-- The whole text by cases, its length, and the routine's answer where there is room.
-- Assumes nothing.
use mathlib.Core.Path.{◌≡◌, sym, ap, ap₂, ◌∙◌}
use mathlib.Core.List.{List, [], ◌∷◌, ◌++◌, append-nil}
use Prim.Native.Nat.{ℕ, ◌^◌, ◌≤◌, ◌<◌}
use native.Mathlib.Omega.{arith}
use borrow.Author.Tests.{leb-true, le-leb, lt-leb}
use lib.Dec.{lit<}
use lib.ListN.{length, take, drop, length-append}
use lib.Seq.{take_at}
use Rattle.std.specs.Prelude.{Ok, Err}
use Rattle.params.specs.declared.refusal.Refusal.{Refusal}
use Rattle.params.specs.Refusal.{answer, number, place}
use Rattle.params.proofs.Answers.{passed, kept, when_done, given_ok, given_done}
use Rattle.circuit.specs.Form.{inputs, outputs, answer_of}
use Rattle.circuit.specs.Valid.{Valid}
use Rattle.circuit.specs.Plain.{work_of, work_answer}
use Rattle.circuit.proofs.Outcomes.{told_err, answer_told}
use Rattle.report.specs.Private.{splice}
use Rattle.report.specs.Text.{outputs_word, work_word, named, counts_text, head_text, rows_to, refused_text, text_of, refused_line, describe_number, describe_out, describe_answer}
use Rattle.report.proofs.Spliced.{splice_front}
use Rattle.report.proofs.Pieces.{length-named, length_counts, work_small}

-- ---- what `circuit::work` tells

pub work_good : (bs : List ℕ) {w : ℕ} → work_answer bs ≡ Ok w → ((answer_of bs).number ≡ 0) × (w ≡ work_of bs)
work_good bs {w} e =
    let z = given_ok (answer_of bs) (work_of bs) e in
    let d : work_answer bs ≡ Ok (work_of bs) = given_done (answer_of bs) (work_of bs) z in
    let q : Ok w ≡ Ok (work_of bs) = sym e ∙ d in
    (z, cc)

-- ---- the text by cases

pub text_refused : (bs : List ℕ) → ((answer_of bs).number ≡ 0 → ⊥) → refused_text (answer_of bs) ≡ text_of bs
unfolding text_of
text_refused bs h = kept _ _ _ h

-- the line of the refusal that `circuit::work` hands back
pub text_of_refusal : (bs : List ℕ) {r : Refusal} → work_answer bs ≡ Err r → refused_line (number r) (place r) ≡ text_of bs
text_of_refusal bs e =
    let t = told_err (answer_of bs) (answer_told bs) (work_of bs) e in
    ap₂ refused_line t.1 t.2 ∙ text_refused bs t.0

pub text_long : (bs : List ℕ) → (answer_of bs).number ≡ 0 → 4 < inputs bs → head_text bs ≡ text_of bs
unfolding text_of
text_long bs z h = sym (when_done _ _ _ z ∙ rw (lt-leb (inputs bs) 4 h, append-nil (head_text bs)))

pub text_table : (bs : List ℕ) → (answer_of bs).number ≡ 0 → inputs bs ≤ 4 → head_text bs ++ rows_to bs (2 ^ inputs bs) ≡ text_of bs
unfolding text_of
text_table bs z h = sym (when_done _ _ _ z ∙ rw (le-leb (inputs bs) 4 h))

-- ---- its length

pub length_head : (bs : List ℕ) → Valid bs → length (head_text bs) ≤ 85
unfolding head_text
length_head bs v =
    let l = length_counts bs v.head in
    let o = length-named outputs_word (outputs bs) (let h = v.head.outputs_to in omega arith) in
    let w = length-named work_word (work_of bs) (let h = work_small bs v in omega arith) in
    let e = length-append (counts_text bs) (named outputs_word (outputs bs)) in
    let f = length-append (counts_text bs ++ named outputs_word (outputs bs)) (named work_word (work_of bs)) in
    let g = length-append (counts_text bs ++ named outputs_word (outputs bs) ++ named work_word (work_of bs)) (10 ∷ []) in
    omega arith

-- ---- the routine

module _ (bs : List ℕ) where
  pub describe_fits : (room : ℕ) → length (text_of bs) ≤ room → describe_number bs room ≡ 0
  unfolding describe_number
  describe_fits room h = rw (le-leb (length (text_of bs)) room h)

  pub answer_fits : (room : ℕ) → length (text_of bs) ≤ room → describe_answer bs room ≡ Ok (length (text_of bs))
  answer_fits room h = given_done (answer (describe_number bs room)) (length (text_of bs)) (describe_fits room h)

  pub out_fits : (out : List ℕ) → length (text_of bs) ≤ length out → text_of bs ++ drop (length (text_of bs)) out ≡ describe_out bs out
  unfolding describe_out
  out_fits out h = rw (describe_fits (length out) h)

-- the front of the scratch is the text
pub front_text : (o t : List ℕ) {last : List ℕ} {n : ℕ} → last ≡ splice o 0 t → n ≡ length t → take n last ≡ t
front_text o t {last} {n} e z = ap (take n) (e ∙ splice_front o t) ∙ take_at t (drop (length t) o) n (sym z)

-- the length that is told is the text's, and within the slice
pub length_told : (bs : List ℕ) (room : ℕ) {n : ℕ} → describe_answer bs room ≡ Ok n → (n ≡ length (text_of bs)) × (n ≤ room)
unfolding describe_number
length_told bs room {n} e =
    let z = given_ok (answer (describe_number bs room)) (length (text_of bs)) e in
    let l = leb-true (length (text_of bs)) room (passed _ _ _ (lit< tt) z).0 in
    let q : Ok n ≡ Ok (length (text_of bs)) = sym e ∙ answer_fits bs room l in
    let h : n ≡ length (text_of bs) = cc in
    (h, omega arith)
