-- The fields of the imported bytes, for any text: the head's computes; the bytes of the gates before gate j are eight for each that is not EQW, so those of gate j stand at
-- our gate's place; the outputs' pairs follow. A field's two bytes are its number's.
-- Assumes nothing.
use mathlib.Core.Path.{◌≡◌, refl, sym, ap, ◌∙◌}
use mathlib.Core.Logic.{⊎_elim}
use mathlib.Core.Bool.{Bool, true, false, cond}
use mathlib.Core.List.{List, [], ◌++◌}
use Prim.Native.Nat.{ℕ, zero, suc, ◌+◌, ◌*◌, ◌/◌, ◌%◌, ◌≤◌, ◌<◌}
use native.Mathlib.Omega.{arith}
use borrow.Author.Tests.{le-ltb, eq-eqb, ne_eqb}
use native.Mathlib.Decide.{ℕ_discrete}
use lib.Dec.{eqb, lit<}
use lib.ListN.{length, length-append, get_or-append}
use lib.Seq.{get_or-append-add}
use Rattle.ring.specs.Word.{at}
use Rattle.ring.specs.Lists.{joined}
use Rattle.ring.proofs.Joins.{length-joined, joined-part}
use Rattle.ring.proofs.Parts.{part_at}
use Rattle.circuit.proofs.Accept.{lt_or_ge}
use Rattle.circuit.specs.Form.{field_at, version, gate_place, kind_at, operand_at, output_at}
use Rattle.circuit.specs.Form as circuit
use Rattle.tokens.specs.Tokens.{xor_name, and_name, inv_name, eqw_name}
use Rattle.bristol_form.specs.Says.{gates, inputs, outputs, made}
use Rattle.bristol_form.proofs.Laws.{made_grows}
use Rattle.bristol.specs.Import.{kind_for, needs, operand_for, field_bytes, eight_bytes, gate_bytes, head_bytes, output_for, imported, imported_length}
use Rattle.bristol.proofs.TextGates.{named, reads, Makes, made_eqw, made_own}

-- a place of a list behind another of n words
at_after : (p q : List ℕ) (n k : ℕ) → length p ≡ n → at (p ++ q) (n + k) ≡ at q k
at_after p q n k e = ap (λ (m : ℕ). at (p ++ q) (m + k)) (sym e) ∙ get_or-append-add p q k 0

-- a number's two bytes
two_bytes : (v : ℕ) → v % 256 + 256 * (v / 256) ≡ v
two_bytes v = omega arith

-- a gate of ours needs two operands at most
pub needs_to : (name : ℕ) → needs name ≤ 2
unfolding needs
needs_to name = go (eqb name xor_name) (eqb name and_name) (eqb name inv_name)
  where
    go : (a b c : Bool) → cond a 2 (cond b 2 (cond c 1 0)) ≤ 2
    go true b c = omega arith
    go false true c = omega arith
    go false false true = omega arith
    go false false false = omega arith

module _ (text : List ℕ) where
  -- ---- the gates' bytes

  pub gate_own : (j : ℕ) → Makes text j → gate_bytes text j ≡ eight_bytes (kind_for (named text j) (reads text j 0)) (operand_for text j 0) (operand_for text j 1)
  unfolding gate_bytes
  gate_own j d = rw (ne_eqb (named text j) 5 d)

  pub gate_eqw : (j : ℕ) → named text j ≡ eqw_name → gate_bytes text j ≡ []
  unfolding gate_bytes
  gate_eqw j e = rw (eq-eqb (named text j) 5 e)

  -- eight for each of the first n gates that is not EQW
  pub gates_length : (n : ℕ) → length (joined n (gate_bytes text)) ≡ 8 * made text n
  unfolding joined made
  gates_length zero = refl
  gates_length (suc n) = go (gates_length n) (ℕ_discrete (named text n) 5)
    where
      go : length (joined n (gate_bytes text)) ≡ 8 * made text n → Dec (named text n ≡ eqw_name) → length (joined n (gate_bytes text) ++ gate_bytes text n) ≡ 8 * made text (suc n)
      go ih (yes e) = let a = length-append (joined n (gate_bytes text)) (gate_bytes text n) in let b = ap length (gate_eqw n e) in let c = made_eqw text n e in omega arith
      go ih (no d) = let a = length-append (joined n (gate_bytes text)) (gate_bytes text n) in let b = ap length (gate_own n d) in let c = made_own text n d in omega arith

  -- gate j's stand behind those of the gates before it
  gates_at : (n j i : ℕ) → j < n → Makes text j → i < 8 → at (joined n (gate_bytes text)) (8 * made text j + i) ≡ at (gate_bytes text j) i
  unfolding joined
  gates_at zero j i l d h = absurd (let q : ⊥ = omega arith in q)
  gates_at (suc n) j i l d h = ⊎_elim (before (gates_at n j i)) here (lt_or_ge j n)
    where
      before : (j < n → Makes text j → i < 8 → at (joined n (gate_bytes text)) (8 * made text j + i) ≡ at (gate_bytes text j) i) → j < n
          → at (joined n (gate_bytes text) ++ gate_bytes text n) (8 * made text j + i) ≡ at (gate_bytes text j) i
      before ih k =
          let a = made_own text j d in
          let b = made_grows text (suc j) n k in
          let c = gates_length n in
          get_or-append (joined n (gate_bytes text)) (gate_bytes text n) 0 (8 * made text j + i) (omega arith) ∙ ih k d h

      here : n ≤ j → at (joined n (gate_bytes text) ++ gate_bytes text n) (8 * made text j + i) ≡ at (gate_bytes text j) i
      here k =
          let e : j ≡ n = omega arith in
          rw e (at_after (joined n (gate_bytes text)) (gate_bytes text n) (8 * made text n) i (gates_length n))

  -- ---- the whole

  abbrev gates_part : List ℕ
  gates_part = joined (gates text) (gate_bytes text)

  abbrev outputs_part : List ℕ
  outputs_part = joined (outputs text) (λ o. field_bytes (output_for text o))

  outputs-length : length outputs_part ≡ 2 * outputs text
  outputs-length = let e = length-joined 2 (λ o. field_bytes (output_for text o)) (outputs text) (λ r l. refl) in omega arith

  pub length_is : length (imported text) ≡ imported_length text
  unfolding imported imported_length head_bytes
  length_is = let a = length-append gates_part outputs_part in let b = gates_length (gates text) in let c = outputs-length in omega arith

  after_head : (k : ℕ) → at (imported text) (11 + k) ≡ at (gates_part ++ outputs_part) k
  unfolding imported head_bytes
  after_head k = at_after (head_bytes (inputs text) (made text (gates text)) (outputs text)) (gates_part ++ outputs_part) 11 k refl

  pub mark_is : (at (imported text) 0 ≡ 69) × (at (imported text) 1 ≡ 71) × (at (imported text) 2 ≡ 76)
  unfolding imported head_bytes
  mark_is = (refl, refl, refl)

  pub version_is : version (imported text) ≡ 1
  unfolding imported head_bytes field_at
  version_is = refl

  pub inputs_is : circuit.inputs (imported text) ≡ inputs text
  unfolding imported head_bytes field_at
  inputs_is = two_bytes (inputs text)

  pub gates_is : circuit.gates (imported text) ≡ made text (gates text)
  unfolding imported head_bytes field_at
  gates_is = two_bytes (made text (gates text))

  pub outputs_is : circuit.outputs (imported text) ≡ outputs text
  unfolding imported head_bytes field_at
  outputs_is = two_bytes (outputs text)

  -- ---- the gate for gate j of the text

  module _ (j : ℕ) (l : j < gates text) (d : named text j ≡ eqw_name → ⊥) where
    gate_byte : (i k : ℕ) → i < 8 → k ≡ 11 + (8 * made text j + i)
        → at (imported text) k ≡ at (eight_bytes (kind_for (named text j) (reads text j 0)) (operand_for text j 0) (operand_for text j 1)) i
    gate_byte i k h e =
        let a = made_own text j d in
        let b = made_grows text (suc j) (gates text) l in
        let c = gates_length (gates text) in
        ap (at (imported text)) e
        ∙ after_head (8 * made text j + i)
        ∙ get_or-append gates_part outputs_part 0 (8 * made text j + i) (omega arith)
        ∙ gates_at (gates text) j i l d h
        ∙ ap (λ (bs : List ℕ). at bs i) (gate_own j d)

    pub kind_is : kind_at (imported text) (made text j) ≡ kind_for (named text j) (reads text j 0)
    kind_is = gate_byte 0 (gate_place (made text j)) (lit< tt) (omega arith)

    pub zero_is : at (imported text) (gate_place (made text j) + 1) ≡ 0
    zero_is = gate_byte 1 (gate_place (made text j) + 1) (lit< tt) (omega arith)

    pub operand_is : (x : ℕ) → x < 3 → operand_at (imported text) (made text j) x ≡ operand_for text j x
    unfolding field_at operand_for
    operand_is zero h =
        let a = gate_byte 2 (gate_place (made text j) + 2 + 2 * 0) (lit< tt) (omega arith) in
        let b = gate_byte 3 (gate_place (made text j) + 2 + 2 * 0 + 1) (lit< tt) (omega arith) in
        omega arith
    operand_is (suc zero) h =
        let a = gate_byte 4 (gate_place (made text j) + 2 + 2 * 1) (lit< tt) (omega arith) in
        let b = gate_byte 5 (gate_place (made text j) + 2 + 2 * 1 + 1) (lit< tt) (omega arith) in
        omega arith
    operand_is (suc (suc zero)) h =
        let a = gate_byte 6 (gate_place (made text j) + 2 + 2 * 2) (lit< tt) (omega arith) in
        let b = gate_byte 7 (gate_place (made text j) + 2 + 2 * 2 + 1) (lit< tt) (omega arith) in
        rw (le-ltb 2 (needs (named text j)) (needs_to (named text j))) (omega arith)
    operand_is (suc (suc (suc x))) h = absurd (let q : ⊥ = omega arith in q)

  -- ---- the outputs

  module _ (o : ℕ) (l : o < outputs text) where
    output_byte : (i k : ℕ) → i < 2 → k ≡ 11 + (8 * made text (gates text) + (o * 2 + i)) → at (imported text) k ≡ at (field_bytes (output_for text o)) i
    output_byte i k h e =
        ap (at (imported text)) e
        ∙ after_head (8 * made text (gates text) + (o * 2 + i))
        ∙ at_after gates_part outputs_part (8 * made text (gates text)) (o * 2 + i) (gates_length (gates text))
        ∙ sym (part_at outputs_part (o * 2) 2 i h)
        ∙ ap (λ (bs : List ℕ). at bs i) (joined-part 2 (λ r. field_bytes (output_for text r)) (outputs text) (λ r k. refl) o l)

    output_field : field_at (imported text) (gate_place (made text (gates text)) + 2 * o) ≡ output_for text o
    unfolding field_at
    output_field =
        let a = output_byte 0 (gate_place (made text (gates text)) + 2 * o) (lit< tt) (omega arith) in
        let b = output_byte 1 (gate_place (made text (gates text)) + 2 * o + 1) (lit< tt) (omega arith) in
        omega arith

    pub output_is : output_at (imported text) o ≡ output_for text o
    output_is = ap (λ (g : ℕ). field_at (imported text) (gate_place g + 2 * o)) gates_is ∙ output_field
