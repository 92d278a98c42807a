-- The text's wires: how many lines there are after each gate, that the table of last wires holds the text's wires, and that each number of a text is below 10,000.
-- Inductions on the number of gates.
-- Assumes nothing.
use mathlib.Core.Path.{◌≡◌, refl, sym, ap, ◌∙◌}
use mathlib.Core.Bool.{cond}
use mathlib.Core.List.{List}
use mathlib.Core.Logic.{◌⊎◌, inl, inr, ⊎_elim}
use Prim.Native.Nat.{ℕ, zero, suc, ◌+◌, ◌*◌, ◌-◌, ◌≤◌, ◌<◌}
use native.Mathlib.Numerals.{add-one}
use native.Mathlib.Omega.{arith}
use borrow.Author.Tests.{lt-ltb, le-ltb}
use lib.Dec.{ltb}
use lib.ListN.{length, set}
use lib.Seq.{get_or-set_same, get_or-set_other}
use Rattle.ring.specs.Word.{at}
use Rattle.ring.specs.Sums.{sum_to}
use Rattle.kinds.specs.Kinds.{kind_of}
use Rattle.circuit.specs.Form.{inputs, gates, outputs, wires, kind_at, operand_at, output_at}
use Rattle.circuit.specs.Valid.{Valid, GoodGate}
use Rattle.circuit.proofs.Accept.{lt_or_ge}
use Rattle.bristol_export.specs.Steps.{count}
use Rattle.bristol_export.specs.Private.{Wired}
use Rattle.bristol_export.specs.Text.{lines_to, first_wire, last_wire, text_wire}
use Rattle.bristol_export.proofs.Columns.{count_to}

-- ---- lines

pub lines_none : (bs : List ℕ) → 0 ≡ lines_to bs 0
unfolding lines_to sum_to
lines_none bs = refl

pub lines_suc : (bs : List ℕ) (g : ℕ) → lines_to bs (suc g) ≡ lines_to bs g + count (kind_at bs g)
unfolding lines_to sum_to
lines_suc bs g = refl

pub lines_more : (bs : List ℕ) (g : ℕ) → lines_to bs (g + 1) ≡ lines_to bs g + count (kind_at bs g)
lines_more bs g = ap (lines_to bs) (add-one g) ∙ lines_suc bs g

module _ (bs : List ℕ) (v : Valid bs) where
  pub lines_to_lem : (g : ℕ) → g ≤ gates bs → lines_to bs g ≤ 3 * g
  lines_to_lem zero h = let e = lines_none bs in omega arith
  lines_to_lem (suc g) h =
      let e = lines_suc bs g in
      let c = count_to (kind_at bs g) (v.every_gate g h).kind_to in
      let i = lines_to_lem g (omega arith) in
      omega arith

  -- more gates have more lines
  pub lines_up : (g m : ℕ) → g + m ≤ gates bs → lines_to bs g ≤ lines_to bs (g + m)
  lines_up g zero h = let e = ap (lines_to bs) (let q : g + 0 ≡ g = omega arith in q) in omega arith
  lines_up g (suc m) h =
      let e = ap (lines_to bs) (let q : g + suc m ≡ suc (g + m) = omega arith in q) in
      let s = lines_suc bs (g + m) in
      let i = lines_up g m (omega arith) in
      omega arith

  pub last_below : (g : ℕ) → g < gates bs → (last_wire bs g + 1 ≡ first_wire bs (suc g)) × (last_wire bs g < first_wire bs (gates bs))
  unfolding last_wire
  last_below g h =
      let s = lines_suc bs g in
      let c = count_to (kind_at bs g) (v.every_gate g h).kind_to in
      let u = lines_up (suc g) (gates bs - suc g) (omega arith) in
      let e : suc g + (gates bs - suc g) ≡ gates bs = omega arith in
      let z = ap (lines_to bs) e in
      (omega arith, omega arith)

  -- the text's wires of the circuit's wires are below the outputs' lines
  pub wire_below : (w : ℕ) → w < wires bs → text_wire bs w < first_wire bs (gates bs)
  unfolding text_wire
  wire_below w h =
      ⊎_elim
      (λ (l : w < inputs bs). rw (lt-ltb w (inputs bs) l) (omega arith))
      (λ (l : inputs bs ≤ w). rw (le-ltb w (inputs bs) l) (last_below (w - inputs bs) (omega arith)).1)
      (lt_or_ge w (inputs bs))

  pub first_small : (g : ℕ) → g ≤ gates bs → first_wire bs g ≤ 3328
  first_small g h =
      let l = lines_to_lem g h in
      let i = v.head.inputs_to in
      let n = v.head.gates_to in
      omega arith

  pub wire_small : (w : ℕ) → w < wires bs → text_wire bs w < 3328
  wire_small w h = let b = wire_below w h in let f = first_small (gates bs) (omega arith) in omega arith

  -- every operand, needed or 0, is a wire
  pub operand_wire : (g : ℕ) → g < gates bs → (x : ℕ) → x < 3 → operand_at bs g x < wires bs
  operand_wire g h x b = go (v.every_gate g h)
    where
      go : GoodGate bs g → operand_at bs g x < wires bs
      go d = ⊎_elim (λ (n : x < (kind_of (kind_at bs g)).operands). let q = d.needed x b n in omega arith) (λ (n : (kind_of (kind_at bs g)).operands ≤ x). let z = d.others x b n in omega arith) (lt_or_ge x (kind_of (kind_at bs g)).operands)

-- ---- the table

-- a wire looked up
pub looked_up : (bs ws : List ℕ) → Wired bs ws → (i w : ℕ) → i ≡ inputs bs → w < wires bs → cond (ltb w i) w (at ws (w - i)) ≡ text_wire bs w
unfolding text_wire
looked_up bs ws t i w e h = ap (λ (k : ℕ). cond (ltb w k) w (at ws (w - k))) e ∙ go (lt_or_ge w (inputs bs))
  where
    go : (w < inputs bs) ⊎ (inputs bs ≤ w) → cond (ltb w (inputs bs)) w (at ws (w - inputs bs)) ≡ cond (ltb w (inputs bs)) w (last_wire bs (w - inputs bs))
    go (inl l) = rw (lt-ltb w (inputs bs) l)
    go (inr l) = rw (le-ltb w (inputs bs) l) (t.last (w - inputs bs) (omega arith))

-- one more gate in the table
pub table_more : (bs ws : List ℕ) (g x : ℕ) → g < length ws → x ≡ last_wire bs g → ((k : ℕ) → k < g → at ws k ≡ last_wire bs k) → (k : ℕ) → k < g + 1 → at (set ws g x) k ≡ last_wire bs k
table_more bs ws g x h e before k l =
    ⊎_elim
    (λ (b : k < g). get_or-set_other ws g k x 0 (λ z. let q : ⊥ = omega arith in q) ∙ before k b)
    (λ (b : g ≤ k).
    let z : k ≡ g = omega arith in
    ap (at (set ws g x)) z ∙ get_or-set_same ws g x 0 h ∙ e ∙ ap (last_wire bs) (sym z))
    (lt_or_ge k g)

-- the wire that is stored for gate g
pub last_is : (bs : List ℕ) (g i l c : ℕ) → i ≡ inputs bs → l ≡ lines_to bs g → c ≡ count (kind_at bs g) → i + (l + c) - 1 ≡ last_wire bs g
unfolding last_wire
last_is bs g i l c ei el ec = let s = lines_suc bs g in omega arith

-- ---- what the circuit's routines tell

pub kind_there : (bs : List ℕ) (g : ℕ) {k : ℕ} → g < gates bs → k ≡ cond (ltb g (gates bs)) (kind_at bs g) 0 → k ≡ kind_at bs g
kind_there bs g h e = e ∙ rw (lt-ltb g (gates bs) h)

pub output_there : (bs : List ℕ) (o : ℕ) {w : ℕ} → o < outputs bs → w ≡ cond (ltb o (outputs bs)) (output_at bs o) 0 → w ≡ output_at bs o
output_there bs o h e = e ∙ rw (lt-ltb o (outputs bs) h)

module _ (bs ws : List ℕ) (v : Valid bs) (t : Wired bs ws) where
  -- a gate's operand, looked up
  pub operand_looked_up : (g x i : ℕ) {w r : ℕ} → g < gates bs → x < 3 → i ≡ inputs bs → w ≡ cond (ltb g (gates bs)) (cond (ltb x 3) (operand_at bs g x) 0) 0 → r ≡ cond (ltb w i) w (at ws (w - i)) → r ≡ text_wire bs (operand_at bs g x)
  operand_looked_up g x i {w} {r} h b ei ew er =
      let e : w ≡ operand_at bs g x = ew ∙ rw (lt-ltb g (gates bs) h, lt-ltb x 3 b) in
      er ∙ ap (λ (z : ℕ). cond (ltb z i) z (at ws (z - i))) e ∙ looked_up bs ws t i (operand_at bs g x) ei (operand_wire bs v g h x b)

  -- an output's wire, looked up
  pub output_looked_up : (o i : ℕ) {w r : ℕ} → o < outputs bs → i ≡ inputs bs → w ≡ cond (ltb o (outputs bs)) (output_at bs o) 0 → r ≡ cond (ltb w i) w (at ws (w - i)) → r ≡ text_wire bs (output_at bs o)
  output_looked_up o i {w} {r} h ei ew er =
      let e : w ≡ output_at bs o = output_there bs o h ew in
      er ∙ ap (λ (z : ℕ). cond (ltb z i) z (at ws (z - i))) e ∙ looked_up bs ws t i (output_at bs o) ei (v.every_output o h)
