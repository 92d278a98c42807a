-- An import put together: what the check of the text told, the three parts of the circuit one behind the other, and the answer by the check's and the room.
-- Assumes nothing.
use mathlib.Core.Path.{◌≡◌, refl, sym, ap, ◌∙◌}
use mathlib.Core.List.{List, ◌++◌}
use Prim.Native.Nat.{ℕ, ◌+◌, ◌*◌, ◌≤◌, ◌<◌}
use native.Mathlib.Omega.{arith}
use lib.ListN.{length, drop}
use Rattle.ring.specs.Lists.{joined}
use Rattle.ring.specs.Sums.{tab}
use Rattle.ring.proofs.Tab.{at-tab, length-tab}
use Rattle.ring.specs.Word.{at}
use Rattle.params.specs.Refusal.{Answer}
use Rattle.params.proofs.Answers.{when_refused, given_done, given_ok}
use Rattle.bristol_form.specs.declared.Contents.{Contents}
use Rattle.bristol_form.specs.Says.{gates, wires, inputs, outputs, body, gate_at, made}
use Rattle.bristol_form.specs.Form.{text_answer, checked_of}
use Rattle.bristol_form.proofs.Accept.{taken}
use Rattle.bristol_form.proofs.Tells.{passed, refused_by}
use Rattle.std.specs.Prelude.{Result, Ok, Err}
use Rattle.params.specs.declared.refusal.Refusal.{Refusal}
use Rattle.params.specs.declared.refusal.Refusal.TheVariants.{Length}
use Rattle.bristol.specs.Import.{ours_to, gate_bytes, field_bytes, output_for, head_bytes, imported, imported_length, import_answer, import_said, import_out}
use Rattle.report.specs.Private.{splice}
use Rattle.bristol.specs.Private.{tabled, Tabled, Taken}
use Rattle.bristol.proofs.ImportedBytes.{gates_length, length_is}
use Rattle.report.proofs.Spliced.{splice_next, splice_front}
use Rattle.bristol.proofs.Calls.{import_done, import_short, refused_kept, written}

-- ---- what the check told

-- a refusal is no value
apart : {A : Type 0} (x : Result A Refusal) {r : Refusal} {v : A} → x ≡ Err r → x ≡ Ok v → ⊥
apart x e d = cc

-- A text that is not refused, and what the check told of it.
pub record CheckedGood (text : List ℕ) (c : Contents) : Type 0 where
  pub good : Taken text
  pub gates_are : c.gates ≡ gates text
  pub wires_are : c.wires ≡ wires text
  pub inputs_are : c.inputs ≡ inputs text
  pub outputs_are : c.outputs ≡ outputs text
  pub made_is : c.made ≡ made text (gates text)
  pub body_is : c.body ≡ body text

module _ (text : List ℕ) (c : Contents) (e : checked_of text ≡ Ok c) where
  pub told_done : (text_answer text).number ≡ 0
  unfolding checked_of
  told_done = given_ok (text_answer text) _ e

  pub checked_good : CheckedGood text c
  unfolding checked_of
  checked_good =
      let t = taken text told_done in
      let k = passed (text_answer text) _ e in
      record {
        good = record { form = t.0; limits = t.1 };
        gates_are = ap (λ (x : Contents). x.gates) k.1;
        wires_are = ap (λ (x : Contents). x.wires) k.1;
        inputs_are = ap (λ (x : Contents). x.inputs) k.1;
        outputs_are = ap (λ (x : Contents). x.outputs) k.1;
        made_is = ap (λ (x : Contents). x.made) k.1;
        body_is = ap (λ (x : Contents). x.body) k.1;
      }

-- the length, as the code sums it up, and that its parts are small
module _ (text : List ℕ) (c : Contents) (g : CheckedGood text c) where
  pub length_sum : 11 + 8 * c.made + 2 * c.outputs ≡ imported_length text
  unfolding imported_length
  length_sum = let a = g.made_is in let b = g.outputs_are in omega arith

  pub parts_small : (c.inputs ≤ 256) × (c.made ≤ 1024) × (c.outputs ≤ 64)
  parts_small =
      let a = g.inputs_are in
      let b = g.made_is in
      let d = g.outputs_are in
      let l = g.good.limits in
      (omega arith, omega arith, omega arith)

  -- what is known after all gates, by the number of gates that was told
  pub after_all : (table : List ℕ) (p : ℕ) → Tabled text table (gates text) → p ≡ gate_at text (gates text)
      → (p ≡ gate_at text c.gates) × (c.made ≡ made text c.gates) × Tabled text table c.gates
  after_all table p t e = rw g.gates_are (e, g.made_is, t)

-- ---- the circuit

-- the table before the first gate
pub table_first : (text table : List ℕ) → table ≡ tab tabled (λ w. w) → Tabled text table 0
unfolding ours_to
table_first text table e =
    record {
      long = ap length e ∙ length-tab tabled (λ w. w);
      each = λ m w b. ap (λ (t : List ℕ). at t w) e ∙ at-tab tabled (λ i. i) w b;
    }

-- the head, the gates and the outputs
pub whole : (text : List ℕ) (c : Contents) → CheckedGood text c → (o o₁ o₂ o₃ : List ℕ) → imported_length text ≤ length o
    → o₁ ≡ splice o 0 (head_bytes c.inputs c.made c.outputs) → o₂ ≡ splice o₁ 11 (joined (gates text) (gate_bytes text))
    → o₃ ≡ splice o₂ (11 + 8 * c.made) (joined (outputs text) (λ i. field_bytes (output_for text i))) → o₃ ≡ imported text ++ drop (imported_length text) o
unfolding imported head_bytes imported_length
whole text c g o o₁ o₂ o₃ h e f k =
    let i = g.inputs_are in
    let m = g.made_is in
    let n = g.outputs_are in
    let head = head_bytes (inputs text) (made text (gates text)) (outputs text) in
    let middle = joined (gates text) (gate_bytes text) in
    let last = joined (outputs text) (λ x. field_bytes (output_for text x)) in
    let q = gates_length text (gates text) in
    let start : o₁ ≡ splice o 0 head = e ∙ (λ x. splice o 0 (head_bytes (i x) (m x) (n x))) in
    splice_next o 0 (head ++ middle) last (omega arith) (splice_next o 0 head middle (omega arith) start refl f) (omega arith) k
    ∙ splice_front o (imported text)
    ∙ ap (λ (x : ℕ). imported text ++ drop x o) (length_is text)

-- ---- the answer

module _ (text : List ℕ) (room : ℕ) where
  -- a refused text has its own answer
  answer_refused : ((text_answer text).number ≡ 0 → ⊥) → import_answer text room ≡ text_answer text
  unfolding import_answer
  answer_refused d = when_refused (text_answer text).number _ (text_answer text) d

  pub said_refused : {r : Refusal} → checked_of text ≡ Err r → Err r ≡ import_said text room
  unfolding checked_of import_said
  said_refused e = refused_by (text_answer text) (import_answer text room) _ (imported_length text) e answer_refused

  module _ (t : Taken text) where
    pub said_short : room < imported_length text → Err Length ≡ import_said text room
    unfolding import_said
    said_short h = rw (import_short text room t.form t.limits h)

    pub said_done : (n : ℕ) → n ≡ imported_length text → imported_length text ≤ room → Ok n ≡ import_said text room
    unfolding import_said
    said_done n e h = rw (import_done text room (record { form = t.form; limits = t.limits; fits = h }), e)

-- ---- what the lent slice holds

module _ (text out : List ℕ) where
  pub out_refused : {r : Refusal} → checked_of text ≡ Err r → out ≡ import_out text out
  unfolding checked_of
  out_refused e =
      let z : (text_answer text).number ≡ 0 → ⊥ = λ y. let d = given_done (text_answer text) _ y in absurd (let q : ⊥ = apart _ e d in q) in
      sym (refused_kept text out (λ y. z (sym (ap (λ (a : Answer). a.number) (answer_refused text (length out) z)) ∙ y)))

  module _ (t : Taken text) where
    pub out_short : length out < imported_length text → out ≡ import_out text out
    out_short h =
        let n = ap (λ (a : Answer). a.number) (import_short text (length out) t.form t.limits h) in
        sym (refused_kept text out (λ y. let q : ⊥ = omega arith in q))

    pub out_done : (o : List ℕ) → imported_length text ≤ length out → o ≡ imported text ++ drop (imported_length text) out → o ≡ import_out text out
    out_done o h e =
        e ∙ sym (written text out (ap (λ (a : Answer). a.number) (import_done text (length out) (record { form = t.form; limits = t.limits; fits = h }))))
