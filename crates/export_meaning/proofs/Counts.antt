-- How many text gates of each name there are: line s of gate g has the name that the table of lines gives, and the outputs' lines are EQW. So within 01's limits are the
-- texts of the valid circuits whose gates have at most 1,024 lines.
-- Assumes nothing.
use mathlib.Core.Path.{◌≡◌, refl, ap, ◌∙◌}
use mathlib.Core.Logic.{⊎_elim}
use mathlib.Core.Bool.{cond}
use mathlib.Core.List.{List}
use Prim.Native.Nat.{ℕ, zero, suc, ◌+◌, ◌-◌, ◌≤◌, ◌<◌}
use native.Mathlib.Nat.{le_refl}
use native.Mathlib.Omega.{arith}
use borrow.Author.Tests.{eq-eqb, ne_eqb}
use lib.Dec.{eqb}
use lib.ListN.{length}
use Rattle.circuit.specs.Form.{inputs, gates, outputs, kind_at}
use Rattle.circuit.specs.Valid.{Valid}
use Rattle.circuit.proofs.Accept.{lt_or_ge}
use Rattle.tokens.specs.Tokens.{eqw_name, mand_name}
use Rattle.bristol_form.specs.Says as says
use Rattle.bristol_form.specs.Valid.{InLimits}
use Rattle.bristol_export.specs.Steps.{count, step_at}
use Rattle.bristol_export.specs.Text.{lines_to, lines, exported}
use Rattle.bristol_export.proofs.Columns.{name_entry}
use Rattle.bristol_export.proofs.Wires.{lines_none, lines_suc}
use Rattle.export_meaning.proofs.Lines.{Line, line_at, gate_said}
use Rattle.export_meaning.proofs.Exported.{gate_line, output_line, all_lines, length_all, gate_line_lem, output_line_lem, head_read, bodied}

-- 1 for a name that is not EQW
abbrev other : ℕ → ℕ
other name = cond (eqb name eqw_name) 0 1

module _ (bs : List ℕ) (v : Valid bs) where
  -- the name of the text's gate j
  abbrev name_of_gate : ℕ → ℕ
  name_of_gate j = says.gate_name (exported bs) (says.gate_at (exported bs) j)

  lines_are : length (all_lines bs) ≡ lines_to bs (gates bs) + outputs bs
  unfolding lines
  lines_are = length_all bs

  named : (j : ℕ) → j < length (all_lines bs) → name_of_gate j ≡ (line_at (all_lines bs) j).name
  named j h = (gate_said (exported bs) (inputs bs) (all_lines bs) (bodied bs v) j h).named

  -- the lines of gate g, by its kind
  pub gate_name : (g s : ℕ) → g < gates bs → s < count (kind_at bs g) → name_of_gate (lines_to bs g + s) ≡ (step_at (kind_at bs g) s).name
  unfolding gate_line
  gate_name g s h l =
      let t = gate_line_lem bs g s h l in
      let a = lines_are in
      let t0 = t.0 in
      named (lines_to bs g + s) (omega arith) ∙ ap (λ (x : Line). x.name) t.1

  -- the lines of the outputs
  pub output_name : (o : ℕ) → o < outputs bs → name_of_gate (lines_to bs (gates bs) + o) ≡ eqw_name
  unfolding output_line
  output_name o h = let a = lines_are in named (lines_to bs (gates bs) + o) (omega arith) ∙ ap (λ (x : Line). x.name) (output_line_lem bs o h)

  -- the text's counts
  pub gates_are : says.gates (exported bs) ≡ lines_to bs (gates bs) + outputs bs
  unfolding lines
  gates_are = (head_read bs v).gates_are

  pub wires_are : says.wires (exported bs) ≡ inputs bs + (lines_to bs (gates bs) + outputs bs)
  unfolding lines
  wires_are = (head_read bs v).wires_are

  pub inputs_are : says.inputs (exported bs) ≡ inputs bs
  inputs_are = (head_read bs v).inputs_are

  pub outputs_are : says.outputs (exported bs) ≡ outputs bs
  outputs_are = (head_read bs v).outputs_are

  -- ---- the text gates but EQW

  -- every line of a gate is one of some gate
  which : (g : ℕ) → g ≤ gates bs → (j : ℕ) → j < lines_to bs g → (1 ≤ name_of_gate j) × (name_of_gate j ≤ 4)
  which zero h j l = absurd (let e = lines_none bs in let q : ⊥ = omega arith in q)
  which (suc g) h j l =
      let e = lines_suc bs g in
      ⊎_elim
      (λ (b : j < lines_to bs g). which g (omega arith) j b)
      (λ (b : lines_to bs g ≤ j).
      let s = j - lines_to bs g in
      let z : lines_to bs g + s ≡ j = omega arith in
      let m : s < count (kind_at bs g) = omega arith in
      let n = name_entry (kind_at bs g) s (v.every_gate g h).kind_to m in
      let k = gate_name g s h m in
      let y = ap name_of_gate z in
      (omega arith, omega arith))
      (lt_or_ge j (lines_to bs g))

  made-gates : (j : ℕ) → j ≤ lines_to bs (gates bs) → says.made (exported bs) j ≡ j
  unfolding says.made
  made-gates zero h = refl
  made-gates (suc j) h =
      let w = which (gates bs) (le_refl (gates bs)) j h in
      let e = made-gates j (omega arith) in
      let w1 = w.1 in
      let f : other (name_of_gate j) ≡ 1 = rw (ne_eqb (name_of_gate j) eqw_name (λ z. let q : ⊥ = omega arith in q)) in
      omega arith

  made-outputs : (o : ℕ) → o ≤ outputs bs → says.made (exported bs) (lines_to bs (gates bs) + o) ≡ lines_to bs (gates bs)
  unfolding says.made
  made-outputs zero h = ap (says.made (exported bs)) (let q : lines_to bs (gates bs) + 0 ≡ lines_to bs (gates bs) = omega arith in q) ∙ made-gates (lines_to bs (gates bs)) (le_refl (lines_to bs (gates bs)))
  made-outputs (suc o) h =
      let n = lines_to bs (gates bs) in
      let z : n + suc o ≡ suc (n + o) = omega arith in
      let e = made-outputs o (omega arith) in
      let f : other (name_of_gate (n + o)) ≡ 0 = rw (eq-eqb (name_of_gate (n + o)) eqw_name (output_name o h)) in
      ap (says.made (exported bs)) z ∙ (let q : says.made (exported bs) (n + o) + other (name_of_gate (n + o)) ≡ n = omega arith in q)

  -- as many as the gates have lines
  pub made_are : says.made (exported bs) (says.gates (exported bs)) ≡ lines_to bs (gates bs)
  made_are = ap (says.made (exported bs)) gates_are ∙ made-outputs (outputs bs) (le_refl (outputs bs))

  -- ---- the limits

  pub exported_in_limits : lines_to bs (gates bs) ≤ 1024 → InLimits (exported bs)
  exported_in_limits h =
      let i = inputs_are in
      let o = outputs_are in
      let m = made_are in
      let d = v.head in
      let hi = d.inputs_to in
      let hf = d.outputs_from in
      let ho = d.outputs_to in
      record {
        inputs_to = omega arith;
        outputs_from = omega arith;
        outputs_most = omega arith;
        gates_most = omega arith;
        no_mand = none;
      }
    where
      none : (j : ℕ) → j < says.gates (exported bs) → says.gate_name (exported bs) (says.gate_at (exported bs) j) ≡ mand_name → ⊥
      none j l e =
          let g = gates_are in
          ⊎_elim
          (λ (b : j < lines_to bs (gates bs)). let w = (which (gates bs) (le_refl (gates bs)) j b).1 in let q : ⊥ = omega arith in q)
          (λ (b : lines_to bs (gates bs) ≤ j).
          let o = j - lines_to bs (gates bs) in
          let z : lines_to bs (gates bs) + o ≡ j = omega arith in
          let y = ap name_of_gate z in
          let n = output_name o (omega arith) in
          let q : ⊥ = omega arith in
          q)
          (lt_or_ge j (lines_to bs (gates bs)))
