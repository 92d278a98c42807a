-- The text of a valid circuit as lines: its head is read as it was printed, its lines set wire after wire, so that it is in the form.
-- Assumes nothing.
use mathlib.Core.Path.{◌≡◌, sym, ap, ap₂, subst, ◌∙◌}
use mathlib.Core.Logic.{inl, inr, ⊎_elim}
use mathlib.Core.List.{List, ◌∷◌, ◌++◌, append_assoc}
use Prim.Native.Nat.{ℕ, suc, ◌+◌, ◌-◌, ◌≤◌, ◌<◌}
use native.Mathlib.Omega.{arith}
use borrow.Author.Tests.{lt-ltb, le-ltb}
use lib.Dec.{lit<, lit≤}
use lib.ListN.{length, length-append, get_or-append}
use lib.Seq.{get_or-append-add}
use Rattle.ring.specs.Lists.{joined}
use Rattle.ring.proofs.SumLaws.{sum_ext}
use Rattle.ring.proofs.Joins.{joined_alike}
use Rattle.kinds.specs.Kinds.{kind_of}
use Rattle.circuit.specs.Form.{inputs, gates, outputs, kind_at, operand_at, output_at}
use Rattle.circuit.specs.Valid.{Valid}
use Rattle.circuit.proofs.Accept.{lt_or_ge}
use Rattle.report.specs.Decimal.{decimal, decimal_to}
use Rattle.bristol_form.specs.Valid.{InForm}
use Rattle.bristol_export.specs.Steps.{count, step_at, source_of}
use Rattle.bristol_export.specs.Text.{ended, lines_to, first_wire, last_wire, text_wire, step_text, steps_text, gate_text, output_text, lines, head_text, exported}
use Rattle.bristol_export.proofs.Columns.{name_entry, first_entry, second_entry, source_below}
use Rattle.bristol_export.proofs.Wires.{lines_up, last_below, wire_below, wire_small, first_small, operand_wire}
use Rattle.bristol_export.proofs.Lengths.{lines_small}
use Rattle.export_meaning.proofs.Before.{Before, at_front}
use Rattle.export_meaning.proofs.Lines.{Line, lines_text, lines_append, no_line, line_at, Ordered, Bodied}
use Rattle.export_meaning.proofs.Formed.{in_form}
use Rattle.export_meaning.proofs.Rows.{row, flat, length-row, row_at, row_text, flat_text, length-flat, flat_at, Chain, chained, chain_append, chain_flat, chain_row}
use Rattle.export_meaning.proofs.Head.{HeadSaid, head_said}
use Rattle.export_meaning.proofs.KindLines.{Below, first_there, second_there}

-- ---- the lines of a circuit

-- line s of gate g
unfoldable pub gate_line : List ℕ → ℕ → ℕ → Line
gate_line bs g s =
    record {
      name = (step_at (kind_at bs g) s).name;
      first = source_of (step_at (kind_at bs g) s).first (text_wire bs (operand_at bs g 0)) (text_wire bs (operand_at bs g 1)) (text_wire bs (operand_at bs g 2)) (first_wire bs g);
      second = source_of (step_at (kind_at bs g) s).second (text_wire bs (operand_at bs g 0)) (text_wire bs (operand_at bs g 1)) (text_wire bs (operand_at bs g 2)) (first_wire bs g);
      result = first_wire bs g + s;
    }

unfoldable pub gate_lines : List ℕ → ℕ → List Line
gate_lines bs g = row (count (kind_at bs g)) (gate_line bs g)

unfoldable pub output_line : List ℕ → ℕ → Line
output_line bs o = record { name = 5; first = text_wire bs (output_at bs o); second = 0; result = first_wire bs (gates bs) + o }

unfoldable pub all_lines : List ℕ → List Line
all_lines bs = flat (gates bs) (gate_lines bs) ++ row (outputs bs) (output_line bs)

module _ (bs : List ℕ) where
  lines_text_lem : lines_text (all_lines bs) ≡ joined (gates bs) (gate_text bs) ++ joined (outputs bs) (output_text bs)
  unfolding all_lines gate_lines gate_line output_line gate_text steps_text step_text output_text
  lines_text_lem =
      lines_append (flat (gates bs) (gate_lines bs)) (row (outputs bs) (output_line bs))
      ∙ ap₂ (λ (a b : List ℕ). a ++ b)
      (flat_text (gates bs) (gate_lines bs) ∙ joined_alike (gates bs) (λ r. lines_text (gate_lines bs r)) (gate_text bs) (λ r l. row_text (count (kind_at bs r)) (gate_line bs r)))
      (row_text (outputs bs) (output_line bs))

  pub length_gates : (g : ℕ) → length (flat g (gate_lines bs)) ≡ lines_to bs g
  unfolding gate_lines lines_to
  length_gates g = length-flat g (gate_lines bs) ∙ sum_ext g (λ r. length (gate_lines bs r)) (λ i. count (kind_at bs i)) (λ r l. length-row (count (kind_at bs r)) (gate_line bs r))

  pub length_all : length (all_lines bs) ≡ lines bs
  unfolding all_lines lines
  length_all =
      let a = length-append (flat (gates bs) (gate_lines bs)) (row (outputs bs) (output_line bs)) in
      let g = length_gates (gates bs) in
      let o = length-row (outputs bs) (output_line bs) in
      omega arith

  -- ---- the line at a place

  pub gate_line_lem : (g s : ℕ) → g < gates bs → s < count (kind_at bs g) → (lines_to bs g + s < lines_to bs (gates bs)) × (line_at (all_lines bs) (lines_to bs g + s) ≡ gate_line bs g s)
  unfolding all_lines gate_lines
  gate_line_lem g s h l =
      let f = gate_lines bs in
      let n = length-row (count (kind_at bs g)) (gate_line bs g) in
      let e = length_gates g in
      let d = length_gates (gates bs) in
      let at = flat_at (gates bs) f g s h (omega arith) in
      let z : lines_to bs g + s ≡ length (flat g f) + s = omega arith in
      (omega (arith, at.0), ap (line_at (flat (gates bs) f ++ row (outputs bs) (output_line bs))) z ∙ get_or-append (flat (gates bs) f) (row (outputs bs) (output_line bs)) no_line (length (flat g f) + s) at.0 ∙ at.1 ∙ row_at (count (kind_at bs g)) (gate_line bs g) s l)

  pub output_line_lem : (o : ℕ) → o < outputs bs → line_at (all_lines bs) (lines_to bs (gates bs) + o) ≡ output_line bs o
  unfolding all_lines
  output_line_lem o h =
      let d = length_gates (gates bs) in
      ap (λ (n : ℕ). line_at (flat (gates bs) (gate_lines bs) ++ row (outputs bs) (output_line bs)) (n + o)) (sym d)
      ∙ get_or-append-add (flat (gates bs) (gate_lines bs)) (row (outputs bs) (output_line bs)) o no_line
      ∙ row_at (outputs bs) (output_line bs) o h

-- ---- wire after wire

module _ (bs : List ℕ) (v : Valid bs) where
  -- the text's wires of the wires before gate g are set before its lines
  pub wire_before : (g w : ℕ) → g ≤ gates bs → w < inputs bs + g → text_wire bs w < first_wire bs g
  unfolding text_wire
  wire_before g w h l =
      ⊎_elim
      (λ (b : w < inputs bs). rw (lt-ltb w (inputs bs) b) (omega arith))
      (λ (b : inputs bs ≤ w). rw (le-ltb w (inputs bs) b) (earlier (w - inputs bs) (omega arith)))
      (lt_or_ge w (inputs bs))
    where
      earlier : (r : ℕ) → r < g → last_wire bs r < first_wire bs g
      earlier r m =
          let e = (last_below bs v r (omega arith)).0 in
          let u = lines_up bs v (suc r) (g - suc r) (omega arith) in
          let z : suc r + (g - suc r) ≡ g = omega arith in
          let y = ap (lines_to bs) z in
          omega arith

  -- a gate's needed operands
  pub operands_below : (g : ℕ) → g < gates bs → Below (kind_of (kind_at bs g)).operands (text_wire bs (operand_at bs g 0)) (text_wire bs (operand_at bs g 1)) (text_wire bs (operand_at bs g 2)) (first_wire bs g)
  operands_below g h =
      let d = v.every_gate g h in
      record {
        a_below = λ n. wire_before g (operand_at bs g 0) (omega arith) (d.needed 0 (lit< tt) n);
        b_below = λ n. wire_before g (operand_at bs g 1) (omega arith) (d.needed 1 (lit< tt) n);
        c_below = λ n. wire_before g (operand_at bs g 2) (omega arith) (d.needed 2 (lit< tt) n);
      }

  gate_ordered : (g s : ℕ) → g < gates bs → s < count (kind_at bs g) → Ordered (inputs bs) (lines_to bs g + s) (gate_line bs g s)
  unfolding gate_line
  gate_ordered g s h l =
      let k = kind_at bs g in
      let hk = (v.every_gate g h).kind_to in
      let a = text_wire bs (operand_at bs g 0) in
      let b = text_wire bs (operand_at bs g 1) in
      let c = text_wire bs (operand_at bs g 2) in
      let n = first_wire bs g in
      let ha = wire_small bs v (operand_at bs g 0) (operand_wire bs v g h 0 (lit< tt)) in
      let hb = wire_small bs v (operand_at bs g 1) (operand_wire bs v g h 1 (lit< tt)) in
      let hc = wire_small bs v (operand_at bs g 2) (operand_wire bs v g h 2 (lit< tt)) in
      let hn = first_small bs v g (omega arith) in
      let e = name_entry k s hk l in
      let f = first_entry k s hk l in
      let d = second_entry k s hk l in
      let below = operands_below g h in
      let x = source_below (step_at k s).first a b c n 10000 (omega arith) (omega arith) (omega arith) (omega arith) (omega arith) in
      let y = source_below (step_at k s).second a b c n 10000 (omega arith) (omega arith) (omega arith) (omega arith) (omega arith) in
      record {
        from = omega arith;
        to = omega arith;
        sets = omega arith;
        first_good = ⊎_elim (λ t. inl t) (λ t. inr (t.0, omega (arith, t.1))) (first_there k s hk l a b c n below);
        first_small = omega arith;
        second_good = λ m. let z = second_there k s hk l a b c n below m in omega arith;
        second_small = omega arith;
      }

  output_ordered : (o : ℕ) → o < outputs bs → Ordered (inputs bs) (lines_to bs (gates bs) + o) (output_line bs o)
  unfolding output_line
  output_ordered o h =
      let w = wire_below bs v (output_at bs o) (v.every_output o h) in
      let s = wire_small bs v (output_at bs o) (v.every_output o h) in
      record {
        from = lit≤ tt;
        to = lit≤ tt;
        sets = omega arith;
        first_good = inr ((λ e. let q : ⊥ = omega (arith, e) in q), omega arith);
        first_small = omega arith;
        second_good = λ m. omega arith;
        second_small = lit< tt;
      }

  all_ordered : (j : ℕ) → j < length (all_lines bs) → Ordered (inputs bs) j (line_at (all_lines bs) j)
  unfolding all_lines gate_lines
  all_ordered =
      chained (inputs bs) (all_lines bs)
      (chain_append (inputs bs) 0 (flat (gates bs) (gate_lines bs)) (row (outputs bs) (output_line bs))
      (chain_flat (inputs bs) (gates bs) (gate_lines bs)
      (λ r l. subst (λ (n : ℕ). Chain (inputs bs) n (gate_lines bs r)) (sym (length_gates bs r)) (chain_row (inputs bs) (lines_to bs r) (count (kind_at bs r)) (gate_line bs r) (λ s m. gate_ordered r s l m))))
      (subst (λ (n : ℕ). Chain (inputs bs) n (row (outputs bs) (output_line bs))) (let d = length_gates bs (gates bs) in let z : lines_to bs (gates bs) ≡ 0 + length (flat (gates bs) (gate_lines bs)) = omega arith in z) (chain_row (inputs bs) (lines_to bs (gates bs)) (outputs bs) (output_line bs) (λ o m. output_ordered o m))))

  -- ---- the whole text

  split : exported bs
      ≡ decimal (lines bs)
      ++ (32 ∷ (decimal (inputs bs + lines bs) ++ (10 ∷ (decimal 1 ++ (32 ∷ (decimal (inputs bs) ++ (10 ∷ (decimal 1 ++ (32 ∷ (decimal (outputs bs) ++ (10 ∷ (10 ∷ lines_text (all_lines bs)))))))))))))
  unfolding exported head_text ended decimal decimal_to
  split = rw (lines_text_lem bs) (simp append_assoc)

  pub head_read : HeadSaid (exported bs) (lines bs) (inputs bs + lines bs) (inputs bs) (outputs bs) (lines_text (all_lines bs))
  head_read =
      let l = lines_small bs v in
      let i = v.head.inputs_to in
      let o = v.head.outputs_to in
      head_said (exported bs) (lines bs) (inputs bs + lines bs) (inputs bs) (outputs bs) (lines_text (all_lines bs)) (omega arith) (omega arith) (omega arith) (omega arith)
      (subst (λ (t : List ℕ). Before (exported bs) 0 t) split (at_front (exported bs)))

  pub bodied : Bodied (exported bs) (inputs bs) (all_lines bs)
  bodied =
      let n = length_all bs in
      let l = lines_small bs v in
      let i = v.head.inputs_to in
      record { printed = head_read.printed; ordered = all_ordered; small = omega arith }

  -- the text of a valid circuit is in the form
  pub exported_in_form : InForm (exported bs)
  unfolding lines
  exported_in_form =
      let h = head_read in
      let n = length_all bs in
      let a = h.one_input in
      let b = h.one_output in
      let w = h.wires_are in
      let o = h.outputs_are in
      in_form (exported bs) (inputs bs) (all_lines bs) bodied h.inputs_are (h.gates_are ∙ sym n) (w ∙ ap (λ (k : ℕ). inputs bs + k) (sym n)) (omega arith) (omega arith) (omega arith)
