-- What callers use of an import: the circuit of a text that is not refused is valid, and means what the text means. A wire of the text that is set has the bit of the wire
-- that it stands for, by induction on the gates; each of our gates has its name's meaning, and every output is set in the end.
-- Assumes nothing.
use mathlib.Core.Path.{◌≡◌, refl, sym, ap, ap₂, ◌∙◌}
use mathlib.Core.Bool.{Bool, true, false}
use mathlib.Core.List.{List}
use Prim.Native.Nat.{ℕ, zero, suc, ◌+◌, ◌-◌, ◌≤◌, ◌<◌}
use native.Mathlib.Omega.{arith}
use native.Mathlib.Decide.{ℕ_discrete}
use borrow.Author.Tests.{ltb-true, lt-ltb, eq-eqb, ne_eqb}
use lib.Dec.{lit<}
use Rattle.ring.specs.Word.{at}
use Rattle.ring.specs.Sums.{tab}
use Rattle.ring.specs.Bit.{truth, bit_number}
use Rattle.ring.proofs.Tab.{tab_ext}
use Rattle.params.specs.Refusal.{answer}
use Rattle.kinds.specs.Kinds.{kind_of, bit_meaning}
use Rattle.circuit.specs.Form as circuit
use Rattle.circuit.specs.Valid.{Head, GoodGate, Valid}
use Rattle.circuit.specs.Plain.{gate_bit, wires_of, output_bits}
use Rattle.circuit.proofs.Accept.{not_refused}
use Rattle.circuit.proofs.Laws.{input_wire, gate_wire}
use Rattle.tokens.specs.Tokens.{eqw_name}
use Rattle.bristol_form.specs.Says.{gates, wires, inputs, outputs, gate_at, is_set, made}
use Rattle.bristol_form.specs.Valid.{InForm, InLimits}
use Rattle.bristol_form.specs.Meaning.{name_meaning, result_bit, after_results, wire_bit, meaning_of}
use Rattle.bristol_form.proofs.LawsForm.{one_result}
use Rattle.bristol.specs.Import.{ours_to, needs, operand_for, output_for, imported, imported_length}
use Rattle.bristol.proofs.TextGates.{named, reads, sets, Makes, eqw_set, ByName, xor_gate, and_gate, inv_gate, eqw_gate, eq_gate, gate_is}
use Rattle.bristol.proofs.Set.{outputs_set}
use Rattle.bristol.proofs.OurWires.{ours_other, ours_eqw, ours_own, set_before, operand_below, operand_other, output_below, kind_small}
use Rattle.bristol.proofs.ImportedBytes.{length_is, mark_is, version_is, inputs_is, gates_is, outputs_is, kind_is, zero_is, operand_is, output_is}
use Rattle.bristol.proofs.OneEach.{Source, source, source_order, kind_needs, kind_means}

module _ (text : List ℕ) (form : InForm text) (limits : InLimits text) where
  -- ---- the circuit is valid

  head_valid : Head (imported text)
  unfolding imported_length
  head_valid =
      let m = mark_is text in
      let i = inputs_is text in
      let g = gates_is text in
      let o = outputs_is text in
      let w = length_is text in
      let t = limits.inputs_to in
      let a = limits.gates_most in
      let b = limits.outputs_from in
      let c = limits.outputs_most in
      record {
        long = omega arith;
        e = m.0;
        g = m.1;
        l = m.2;
        version_one = version_is text;
        inputs_to = omega arith;
        gates_to = omega arith;
        outputs_from = omega arith;
        outputs_to = omega arith;
        whole = omega arith;
      }

  -- the gate for gate j of the text
  gate_valid : (j : ℕ) → j < gates text → Makes text j → GoodGate (imported text) (made text j)
  gate_valid j l d =
      let k = kind_is text j l d in
      let n : (kind_of (circuit.kind_at (imported text) (made text j))).operands ≡ needs (named text j) = ap (λ (c : ℕ). (kind_of c).operands) k ∙ kind_needs text form limits j l d in
      let i = inputs_is text in
      let s = kind_small text form limits j l d in
      record {
        kind_to = omega arith;
        zero_byte = zero_is text j l d;
        needed = λ x h r. let a = operand_is text j l d x h in let b = operand_below text form limits j x l (omega arith) in omega arith;
        others = λ x h r. operand_is text j l d x h ∙ operand_other text form limits j x (omega arith);
      }

  pub imported_valid : Valid (imported text)
  imported_valid =
      record {
        head = head_valid;
        every_gate = λ g h. of_source g (source text (gates text) g (let e = gates_is text in omega arith));
        every_output = λ o h.
            let c = outputs_is text in
            let r = output_is text o (omega arith) in
            let b = output_below text form limits o (omega arith) in
            let i = inputs_is text in
            let g = gates_is text in
            omega arith;
      }
    where
      of_source : (g : ℕ) → Source text (gates text) g → GoodGate (imported text) g
      of_source g s = let e = s.place in rw e at (gate_valid s.gate s.before s.own)

  pub imported_taken : circuit.answer_of (imported text) ≡ answer 0
  imported_taken = not_refused (imported text) imported_valid

  -- ---- and means what the text means

  module _ (ins : List ℕ) where
    abbrev ours : List ℕ
    ours = wires_of (imported text) ins

    -- wire w, set before gate j, has the bit of the wire that it stands for
    abbrev Alike : ℕ → ℕ → Type 0
    Alike j w = at ours (ours_to text j w) ≡ bit_number (wire_bit text ins j w)

    truth_bit : (b : Bool) → truth (bit_number b) ≡ b
    truth_bit true = refl
    truth_bit false = refl

    -- after a gate
    bit_other : (j w : ℕ) → j < gates text → (w ≡ sets text j → ⊥) → wire_bit text ins (suc j) w ≡ wire_bit text ins j w
    unfolding wire_bit after_results
    bit_other j w l d = rw (one_result text form limits j l, ne_eqb w (sets text j) d)

    result_bit_lem : (j : ℕ) → j < gates text
        → result_bit text (gate_at text j) (wire_bit text ins j) 0 ≡ name_meaning (named text j) (reads text j 0) (wire_bit text ins j (reads text j 0)) (wire_bit text ins j (reads text j 1))
    unfolding result_bit
    result_bit_lem j l = rw (one_result text form limits j l)

    bit_own : (j w : ℕ) → j < gates text → w ≡ sets text j
        → wire_bit text ins (suc j) w ≡ name_meaning (named text j) (reads text j 0) (wire_bit text ins j (reads text j 0)) (wire_bit text ins j (reads text j 1))
    unfolding wire_bit after_results
    bit_own j w l e = rw (one_result text form limits j l, eq-eqb w (sets text j) e) (result_bit_lem j l)

    -- what our gate reads for operand x
    operand_bit : (j x : ℕ) → j < gates text → Makes text j → x < 3 → x < needs (named text j) → Alike j (reads text j x)
        → truth (at ours (circuit.operand_at (imported text) (made text j) x)) ≡ wire_bit text ins j (reads text j x)
    unfolding operand_for
    operand_bit j x l d h r e =
        ap (λ (w : ℕ). truth (at ours w)) (operand_is text j l d x h ∙ rw (lt-ltb x (needs (named text j)) r))
        ∙ ap truth e
        ∙ truth_bit (wire_bit text ins j (reads text j x))

    -- our gate's bit is its name's meaning
    gate_bit_lem : (j : ℕ) → j < gates text → Makes text j → ((w : ℕ) → is_set text j w ≡ true → Alike j w)
        → gate_bit (imported text) ours (made text j)
        ≡ bit_number (name_meaning (named text j) (reads text j 0) (wire_bit text ins j (reads text j 0)) (wire_bit text ins j (reads text j 1)))
    unfolding bit_meaning name_meaning needs
    gate_bit_lem j l d ih =
        ap bit_number
        (ap (λ (k : ℕ). (kind_of k).meaning (truth (at ours (read 0))) (truth (at ours (read 1))) (truth (at ours (read 2)))) (kind_is text j l d)
        ∙ kind_means text form limits j l d (truth (at ours (read 0))) (truth (at ours (read 1))) (truth (at ours (read 2)))
        ∙ go (gate_is text form limits j l))
      where
        read : ℕ → ℕ
        read x = circuit.operand_at (imported text) (made text j) x

        go : ByName text j
            → name_meaning (named text j) (reads text j 0) (truth (at ours (read 0))) (truth (at ours (read 1)))
            ≡ name_meaning (named text j) (reads text j 0) (wire_bit text ins j (reads text j 0)) (wire_bit text ins j (reads text j 1))
        go (xor_gate n a b) = ap₂ (name_meaning (named text j) (reads text j 0)) (operand_bit j 0 l d (lit< tt) (rw n (lit< tt)) (ih _ a)) (operand_bit j 1 l d (lit< tt) (rw n (lit< tt)) (ih _ b))
        go (and_gate n a b) = ap₂ (name_meaning (named text j) (reads text j 0)) (operand_bit j 0 l d (lit< tt) (rw n (lit< tt)) (ih _ a)) (operand_bit j 1 l d (lit< tt) (rw n (lit< tt)) (ih _ b))
        go (inv_gate n a) = rw (n, operand_bit j 0 l d (lit< tt) (rw n (lit< tt)) (ih _ a))
        go (eqw_gate n a) = absurd (d n)
        go (eq_gate n c) = rw n

    eqw_bit : (j : ℕ) → named text j ≡ eqw_name → (c : ℕ) (a b : Bool) → name_meaning (named text j) c a b ≡ a
    unfolding name_meaning
    eqw_bit j e c a b = rw e

    -- our gate for gate j is one of ours
    gate_there : (j : ℕ) → j < gates text → Makes text j → made text j < circuit.gates (imported text)
    gate_there j l d = let e = gates_is text in let a = source_order text j (gates text) l d in omega arith

    pub wires_alike : (j w : ℕ) → j ≤ gates text → is_set text j w ≡ true → Alike j w
    unfolding is_set ours_to wire_bit
    wires_alike zero w h s = let a = ltb-true w (inputs text) s in let i = inputs_is text in input_wire (imported text) ins w (omega arith)
    wires_alike (suc j) w h s = go (λ v t. wires_alike j v (omega arith) t) (ℕ_discrete w (sets text j)) (ℕ_discrete (named text j) 5)
      where
        go : ((v : ℕ) → is_set text j v ≡ true → Alike j v) → Dec (w ≡ sets text j) → Dec (named text j ≡ eqw_name) → Alike (suc j) w
        go ih (no d) n = ap (at ours) (ours_other text j w d) ∙ ih w (set_before text form limits j w h s d) ∙ sym (ap bit_number (bit_other j w h d))
        go ih (yes e) (yes n) =
            ap (at ours) (ours_eqw text j w e n)
            ∙ ih (reads text j 0) (eqw_set text form limits j h n)
            ∙ sym (ap bit_number (bit_own j w h e ∙ eqw_bit j n _ _ _))
        go ih (yes e) (no n) =
            let i = inputs_is text in
            ap (at ours) (ours_own text j w e n ∙ ap (λ (k : ℕ). k + made text j) (sym i))
            ∙ gate_wire (imported text) ins imported_valid (made text j) (gate_there j h n)
            ∙ gate_bit_lem j h n ih
            ∙ sym (ap bit_number (bit_own j w h e))

    output_alike : (o : ℕ) → o < outputs text → at ours (output_for text o) ≡ bit_number (wire_bit text ins (gates text) (wires text - outputs text + o))
    unfolding output_for
    output_alike o l = wires_alike (gates text) (wires text - outputs text + o) (omega arith) (outputs_set text form limits o l)

    pub imported_means : output_bits (imported text) ins ≡ meaning_of text ins
    unfolding meaning_of
    imported_means =
        ap (λ (n : ℕ). tab n (λ o. at ours (circuit.output_at (imported text) o))) (outputs_is text)
        ∙ tab_ext (outputs text) (λ o. at ours (circuit.output_at (imported text) o)) (λ o. bit_number (wire_bit text ins (gates text) (wires text - outputs text + o))) each
      where
        each : (o : ℕ) → o < outputs text → at ours (circuit.output_at (imported text) o) ≡ bit_number (wire_bit text ins (gates text) (wires text - outputs text + o))
        each o l = ap (at ours) (output_is text o l) ∙ output_alike o l
