-- The text of a valid circuit means what the circuit means: after a gate's lines its wire has its kind's meaning on the bits of its operands' wires.
-- An induction on the gates passed; the outputs' lines hand on the bits.
-- Assumes nothing.
use mathlib.Core.Path.{◌≡◌, refl, sym, ap, subst, ◌∙◌}
use mathlib.Core.Logic.{◌⊎◌, inl, inr, ⊎_elim}
use mathlib.Core.Bool.{Bool, true, false, cond}
use mathlib.Core.List.{List}
use Prim.Native.Nat.{ℕ, zero, suc, ◌+◌, ◌-◌, ◌≤◌, ◌<◌}
use native.Mathlib.Nat.{le_refl, add-zero}
use native.Mathlib.Omega.{arith}
use borrow.Author.Tests.{lt-ltb, le-ltb, eq-eqb, ne_eqb}
use lib.Dec.{eqb, lit<}
use lib.ListN.{length}
use Rattle.ring.specs.Word.{at}
use Rattle.ring.specs.Bit.{truth, bit_number}
use Rattle.ring.specs.Sums.{tab}
use Rattle.ring.proofs.Tab.{tab_ext}
use Rattle.kinds.specs.Kinds.{kind_of, bit_meaning}
use Rattle.circuit.specs.Form.{inputs, gates, outputs, wires, kind_at, operand_at, output_at}
use Rattle.circuit.specs.Valid.{Valid}
use Rattle.circuit.specs.Plain.{wires_of, output_bits}
use Rattle.circuit.proofs.Accept.{lt_or_ge}
use Rattle.circuit.proofs.Laws.{input_wire, gate_wire}
use Rattle.bristol_form.specs.Says as says
use Rattle.bristol_form.specs.Meaning.{name_meaning, wire_bit, meaning_of}
use Rattle.bristol_export.specs.Steps.{count, step_at}
use Rattle.bristol_export.specs.Text.{lines_to, first_wire, last_wire, text_wire, lines, exported}
use Rattle.bristol_export.proofs.Columns.{count_to, name_entry}
use Rattle.bristol_export.proofs.Wires.{lines_none, lines_suc, lines_up, wire_below}
use Rattle.export_meaning.proofs.Lines.{Line, line_at}
use Rattle.export_meaning.proofs.Values.{own_bit, kept_bit}
use Rattle.export_meaning.proofs.KindLines.{step_bit, bit_one, bit_two, bit_three, last_bit, last_means, step_bit_lem}
use Rattle.export_meaning.proofs.Exported.{gate_line, output_line, all_lines, length_all, gate_line_lem, output_line_lem, wire_before, head_read, bodied}

-- a bit that is handed back is lent as it was
truth_number : (b : Bool) → truth (bit_number b) ≡ b
truth_number true = refl
truth_number false = refl

module _ (bs : List ℕ) (v : Valid bs) (ins : List ℕ) where
  -- wire w's bit after j lines
  abbrev after : ℕ → ℕ → Bool
  after j w = wire_bit (exported bs) ins j w

  -- the circuit's bit of wire w
  abbrev bit_of : ℕ → Bool
  bit_of w = truth (at (wires_of bs ins) w)

  -- how many lines there are
  lines_are : length (all_lines bs) ≡ lines_to bs (gates bs) + outputs bs
  unfolding lines
  lines_are = length_all bs

  own : (j : ℕ) → j < length (all_lines bs) → (l : Line) → line_at (all_lines bs) j ≡ l → after (suc j) (inputs bs + j) ≡ name_meaning l.name l.first (after j l.first) (after j l.second)
  own j h l e = own_bit (exported bs) (inputs bs) (all_lines bs) (bodied bs v) ins j h ∙ ap (λ (x : Line). name_meaning x.name x.first (after j x.first) (after j x.second)) e

  stays : (j m w : ℕ) → j + m ≤ length (all_lines bs) → w < inputs bs + j → after (j + m) w ≡ after j w
  stays j m w h l = kept_bit (exported bs) (inputs bs) (all_lines bs) (bodied bs v) ins j m w h l

  -- ---- one gate

  module _ (g : ℕ) (h : g < gates bs) (before : (w : ℕ) → w < inputs bs + g → after (lines_to bs g) (text_wire bs w) ≡ bit_of w) where
    -- a line of the gate is one of the text
    there : (s : ℕ) → s ≤ count (kind_at bs g) → lines_to bs g + s ≤ lines_to bs (gates bs)
    there s l =
        let e = lines_suc bs g in
        let u = lines_up bs v (suc g) (gates bs - suc g) (omega arith) in
        let z = ap (lines_to bs) (let q : suc g + (gates bs - suc g) ≡ gates bs = omega arith in q) in
        omega arith

    -- an operand that is needed keeps its bit
    operand_bit : (x s : ℕ) → x < 3 → s ≤ count (kind_at bs g) → x < (kind_of (kind_at bs g)).operands → after (lines_to bs g + s) (text_wire bs (operand_at bs g x)) ≡ bit_of (operand_at bs g x)
    operand_bit x s b l n =
        let m = (v.every_gate g h).needed x b n in
        let t = there s l in
        let a = lines_are in
        stays (lines_to bs g) s (text_wire bs (operand_at bs g x)) (omega arith) (wire_before bs v g (operand_at bs g x) (omega arith) m) ∙ before (operand_at bs g x) m

    -- line s's own bit, those of the earlier lines being given
    line_value : (s : ℕ) (y z : Bool) → s < count (kind_at bs g) → (0 < s → after (lines_to bs g + s) (first_wire bs g) ≡ y) → (1 < s → after (lines_to bs g + s) (first_wire bs g + 1) ≡ z)
        → after (suc (lines_to bs g + s)) (inputs bs + (lines_to bs g + s)) ≡ step_bit (step_at (kind_at bs g) s) (bit_of (operand_at bs g 0)) (bit_of (operand_at bs g 1)) (bit_of (operand_at bs g 2)) y z
    unfolding gate_line
    line_value s y z l e f =
        let t = gate_line_lem bs g s h l in
        let a = lines_are in
        let hk = (v.every_gate g h).kind_to in
        let n = name_entry (kind_at bs g) s hk l in
        let t0 = t.0 in
        own (lines_to bs g + s) (omega arith) (gate_line bs g s) t.1
        ∙ step_bit_lem (kind_at bs g) s (text_wire bs (operand_at bs g 0)) (text_wire bs (operand_at bs g 1)) (text_wire bs (operand_at bs g 2)) (first_wire bs g) (after (lines_to bs g + s))
        (bit_of (operand_at bs g 0)) (bit_of (operand_at bs g 1)) (bit_of (operand_at bs g 2)) y z hk l (omega arith)
        (record {
          of_a = λ m. operand_bit 0 s (lit< tt) (omega arith) m;
          of_b = λ m. operand_bit 1 s (lit< tt) (omega arith) m;
          of_c = λ m. operand_bit 2 s (lit< tt) (omega arith) m;
          of_first = e;
          of_second = f;
        })

    -- an earlier line's wire, read before line r
    line_kept : (s r : ℕ) → s < r → r ≤ count (kind_at bs g) → after (lines_to bs g + r) (first_wire bs g + s) ≡ after (suc (lines_to bs g + s)) (inputs bs + (lines_to bs g + s))
    line_kept s r l m =
        let t = there r m in
        let a = lines_are in
        let e : lines_to bs g + r ≡ suc (lines_to bs g + s) + (r - suc s) = omega arith in
        let f : first_wire bs g + s ≡ inputs bs + (lines_to bs g + s) = omega arith in
        ap (λ (j : ℕ). after j (first_wire bs g + s)) e
        ∙ ap (after (suc (lines_to bs g + s) + (r - suc s))) f
        ∙ stays (suc (lines_to bs g + s)) (r - suc s) (inputs bs + (lines_to bs g + s)) (omega arith) (omega arith)

    value_one : 0 < count (kind_at bs g) → after (suc (lines_to bs g + 0)) (inputs bs + (lines_to bs g + 0)) ≡ bit_one (kind_at bs g) (bit_of (operand_at bs g 0)) (bit_of (operand_at bs g 1)) (bit_of (operand_at bs g 2))
    unfolding bit_one
    value_one l = line_value 0 false false l (λ m. absurd (let q : ⊥ = omega arith in q)) (λ m. absurd (let q : ⊥ = omega arith in q))

    -- the first line's wire, read later
    first_kept : (r : ℕ) → 0 < r → r ≤ count (kind_at bs g) → after (lines_to bs g + r) (first_wire bs g) ≡ bit_one (kind_at bs g) (bit_of (operand_at bs g 0)) (bit_of (operand_at bs g 1)) (bit_of (operand_at bs g 2))
    first_kept r l m = ap (after (lines_to bs g + r)) (sym (add-zero (first_wire bs g))) ∙ line_kept 0 r l m ∙ value_one (omega arith)

    value_two : 1 < count (kind_at bs g) → after (suc (lines_to bs g + 1)) (inputs bs + (lines_to bs g + 1)) ≡ bit_two (kind_at bs g) (bit_of (operand_at bs g 0)) (bit_of (operand_at bs g 1)) (bit_of (operand_at bs g 2))
    unfolding bit_two
    value_two l =
        line_value 1 (bit_one (kind_at bs g) (bit_of (operand_at bs g 0)) (bit_of (operand_at bs g 1)) (bit_of (operand_at bs g 2))) false l (λ m. first_kept 1 m (omega arith)) (λ m. absurd (let q : ⊥ = omega arith in q))

    value_three : 2 < count (kind_at bs g) → after (suc (lines_to bs g + 2)) (inputs bs + (lines_to bs g + 2)) ≡ bit_three (kind_at bs g) (bit_of (operand_at bs g 0)) (bit_of (operand_at bs g 1)) (bit_of (operand_at bs g 2))
    unfolding bit_three
    value_three l =
        line_value 2 (bit_one (kind_at bs g) (bit_of (operand_at bs g 0)) (bit_of (operand_at bs g 1)) (bit_of (operand_at bs g 2))) (bit_two (kind_at bs g) (bit_of (operand_at bs g 0)) (bit_of (operand_at bs g 1)) (bit_of (operand_at bs g 2))) l
        (λ m. first_kept 2 m (omega arith)) (λ m. line_kept 1 2 m (omega arith) ∙ value_two (omega arith))

    -- the wire of the last line
    last_place : (s : ℕ) → suc s ≡ count (kind_at bs g) → after (lines_to bs (suc g)) (last_wire bs g) ≡ after (suc (lines_to bs g + s)) (inputs bs + (lines_to bs g + s))
    unfolding last_wire
    last_place s e =
        let n = lines_suc bs g in
        let a : lines_to bs (suc g) ≡ suc (lines_to bs g + s) = omega arith in
        let b : first_wire bs (suc g) - 1 ≡ inputs bs + (lines_to bs g + s) = omega arith in
        ap (λ (j : ℕ). after j (first_wire bs (suc g) - 1)) a ∙ ap (after (suc (lines_to bs g + s))) b

    last_value : after (lines_to bs (suc g)) (last_wire bs g) ≡ last_bit (kind_at bs g) (bit_of (operand_at bs g 0)) (bit_of (operand_at bs g 1)) (bit_of (operand_at bs g 2))
    unfolding last_bit
    last_value = go (lt_or_ge (count (kind_at bs g)) 2) (lt_or_ge (count (kind_at bs g)) 3) (count_to (kind_at bs g) (v.every_gate g h).kind_to)
      where
        one : Bool
        one = bit_one (kind_at bs g) (bit_of (operand_at bs g 0)) (bit_of (operand_at bs g 1)) (bit_of (operand_at bs g 2))

        two : Bool
        two = bit_two (kind_at bs g) (bit_of (operand_at bs g 0)) (bit_of (operand_at bs g 1)) (bit_of (operand_at bs g 2))

        three : Bool
        three = bit_three (kind_at bs g) (bit_of (operand_at bs g 0)) (bit_of (operand_at bs g 1)) (bit_of (operand_at bs g 2))

        go : (count (kind_at bs g) < 2) ⊎ (2 ≤ count (kind_at bs g)) → (count (kind_at bs g) < 3) ⊎ (3 ≤ count (kind_at bs g)) → (1 ≤ count (kind_at bs g)) × (count (kind_at bs g) ≤ 3)
            → after (lines_to bs (suc g)) (last_wire bs g) ≡ cond (eqb (count (kind_at bs g)) 1) one (cond (eqb (count (kind_at bs g)) 2) two three)
        go (inl a) q c =
            let e : count (kind_at bs g) ≡ 1 = omega arith in
            last_place 0 (sym e) ∙ value_one (omega arith) ∙ sym (ap (λ (t : Bool). cond t one (cond (eqb (count (kind_at bs g)) 2) two three)) (eq-eqb (count (kind_at bs g)) 1 e))
        go (inr a) (inl b) c =
            let e : count (kind_at bs g) ≡ 2 = omega arith in
            last_place 1 (sym e)
            ∙ value_two (omega arith)
            ∙ sym
            (ap (λ (t : Bool). cond t one (cond (eqb (count (kind_at bs g)) 2) two three)) (ne_eqb (count (kind_at bs g)) 1 (λ z. let q : ⊥ = omega arith in q))
            ∙ ap (λ (t : Bool). cond t two three) (eq-eqb (count (kind_at bs g)) 2 e))
        go (inr a) (inr b) c =
            let e : count (kind_at bs g) ≡ 3 = omega arith in
            last_place 2 (sym e)
            ∙ value_three (omega arith)
            ∙ sym
            (ap (λ (t : Bool). cond t one (cond (eqb (count (kind_at bs g)) 2) two three)) (ne_eqb (count (kind_at bs g)) 1 (λ z. let q : ⊥ = omega arith in q))
            ∙ ap (λ (t : Bool). cond t two three) (ne_eqb (count (kind_at bs g)) 2 (λ z. let q : ⊥ = omega arith in q)))

    -- and so the circuit's bit of the gate
    gate_value : after (lines_to bs (suc g)) (last_wire bs g) ≡ bit_of (inputs bs + g)
    unfolding bit_meaning
    gate_value =
        last_value
        ∙ last_means (kind_at bs g) (v.every_gate g h).kind_to (bit_of (operand_at bs g 0)) (bit_of (operand_at bs g 1)) (bit_of (operand_at bs g 2))
        ∙ sym (ap truth (gate_wire bs ins v g h) ∙ truth_number ((kind_of (kind_at bs g)).meaning (bit_of (operand_at bs g 0)) (bit_of (operand_at bs g 1)) (bit_of (operand_at bs g 2))))

  -- ---- all gates

  start : (w : ℕ) → after 0 w ≡ truth (at ins w)
  unfolding wire_bit
  start w = refl

  text_input : (w : ℕ) → w < inputs bs → text_wire bs w ≡ w
  unfolding text_wire
  text_input w h = rw (lt-ltb w (inputs bs) h)

  text_gate : (g : ℕ) → text_wire bs (inputs bs + g) ≡ last_wire bs g
  unfolding text_wire
  text_gate g = rw (le-ltb (inputs bs + g) (inputs bs) (omega arith)) (ap (last_wire bs) (let q : inputs bs + g - inputs bs ≡ g = omega arith in q))

  -- after the lines of g gates the text's wires have the bits of the circuit's
  pub wires_agree : (g : ℕ) → g ≤ gates bs → (w : ℕ) → w < inputs bs + g → after (lines_to bs g) (text_wire bs w) ≡ bit_of w
  wires_agree zero h w l =
      let b : w < inputs bs = omega arith in
      ap (λ (j : ℕ). after j (text_wire bs w)) (sym (lines_none bs))
      ∙ ap (after 0) (text_input w b)
      ∙ start w
      ∙ sym (ap truth (input_wire bs ins w b) ∙ truth_number (truth (at ins w)))
  wires_agree (suc g) h w l =
      ⊎_elim
      (λ (b : w < inputs bs + g).
      let e = lines_suc bs g in
      let u = lines_up bs v (suc g) (gates bs - suc g) (omega arith) in
      let z = ap (lines_to bs) (let q : suc g + (gates bs - suc g) ≡ gates bs = omega arith in q) in
      let a = lines_are in
      ap (λ (j : ℕ). after j (text_wire bs w)) e
      ∙ stays (lines_to bs g) (count (kind_at bs g)) (text_wire bs w) (omega arith) (wire_before bs v g w (omega arith) b)
      ∙ wires_agree g (omega arith) w b)
      (λ (b : inputs bs + g ≤ w).
      let e : w ≡ inputs bs + g = omega arith in
      ap (λ (x : ℕ). after (lines_to bs (suc g)) (text_wire bs x)) e
      ∙ ap (after (lines_to bs (suc g))) (text_gate g)
      ∙ gate_value g h (wires_agree g (omega arith))
      ∙ ap bit_of (sym e))
      (lt_or_ge w (inputs bs + g))

  -- ---- the outputs

  -- EQW hands its operand's bit on
  handed : (x : ℕ) (a b : Bool) → name_meaning 5 x a b ≡ a
  unfolding name_meaning
  handed x a b = refl

  output_value : (o : ℕ) → o < outputs bs → after (suc (lines_to bs (gates bs) + o)) (inputs bs + (lines_to bs (gates bs) + o)) ≡ bit_of (output_at bs o)
  unfolding output_line
  output_value o h =
      let n = lines_to bs (gates bs) in
      let a = lines_are in
      let x = text_wire bs (output_at bs o) in
      let w = v.every_output o h in
      own (n + o) (omega arith) (output_line bs o) (output_line_lem bs o h)
      ∙ handed x (after (n + o) x) (after (n + o) 0)
      ∙ stays n o x (omega arith) (wire_below bs v (output_at bs o) w)
      ∙ wires_agree (gates bs) (le_refl (gates bs)) (output_at bs o) w

  -- a wire of the circuit holds 0 or 1
  bit_itself : (w : ℕ) → w < wires bs → bit_number (bit_of w) ≡ at (wires_of bs ins) w
  unfolding bit_meaning
  bit_itself w h =
      ⊎_elim
      (λ (b : w < inputs bs). let e = input_wire bs ins w b in again (truth (at ins w)) e)
      (λ (b : inputs bs ≤ w).
      let g = w - inputs bs in
      let l : g < gates bs = omega arith in
      let z : inputs bs + g ≡ w = omega arith in
      subst (λ (x : ℕ). bit_number (bit_of x) ≡ at (wires_of bs ins) x) z (again ((kind_of (kind_at bs g)).meaning (bit_of (operand_at bs g 0)) (bit_of (operand_at bs g 1)) (bit_of (operand_at bs g 2))) (gate_wire bs ins v g l)))
      (lt_or_ge w (inputs bs))
    where
      again : {n : ℕ} (b : Bool) → n ≡ bit_number b → bit_number (truth n) ≡ n
      again b e = ap (λ (m : ℕ). bit_number (truth m)) e ∙ ap bit_number (truth_number b) ∙ sym e

  -- on every input the text of a valid circuit means what the circuit means
  pub exported_means : meaning_of (exported bs) ins ≡ output_bits bs ins
  unfolding meaning_of lines
  exported_means =
      let h = head_read bs v in
      let t = exported bs in
      ap (λ (n : ℕ). tab n (λ o. bit_number (wire_bit t ins (says.gates t) (says.wires t - says.outputs t + o)))) h.outputs_are
      ∙ tab_ext (outputs bs) (λ o. bit_number (wire_bit t ins (says.gates t) (says.wires t - says.outputs t + o))) (λ o. at (wires_of bs ins) (output_at bs o)) each
    where
      each : (o : ℕ) → o < outputs bs → bit_number (wire_bit (exported bs) ins (says.gates (exported bs)) (says.wires (exported bs) - says.outputs (exported bs) + o)) ≡ at (wires_of bs ins) (output_at bs o)
      each o l =
          let h = head_read bs v in
          let n = lines_to bs (gates bs) in
          let a = lines_are in
          let eg = h.gates_are in
          let ew = h.wires_are in
          let eo = h.outputs_are in
          let x : says.gates (exported bs) ≡ suc (n + o) + (outputs bs - suc o) = omega arith in
          let y : says.wires (exported bs) - says.outputs (exported bs) + o ≡ inputs bs + (n + o) = omega arith in
          ap (λ (j : ℕ). bit_number (after j (says.wires (exported bs) - says.outputs (exported bs) + o))) x
          ∙ ap (λ (w : ℕ). bit_number (after (suc (n + o) + (outputs bs - suc o)) w)) y
          ∙ ap bit_number (stays (suc (n + o)) (outputs bs - suc o) (inputs bs + (n + o)) (omega arith) (omega arith) ∙ output_value o l)
          ∙ bit_itself (output_at bs o) (v.every_output o l)
