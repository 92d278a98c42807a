-- The gates of a text written in our form: the bytes of one gate, the table after it, and both gate by gate. By cases on whether the gate is EQW, and whether it sets a
-- wire.
-- Assumes nothing.
use mathlib.Core.Path.{◌≡◌, refl, sym, ap, ap₂, ◌∙◌}
use mathlib.Core.Bool.{cond}
use mathlib.Core.List.{List, []}
use Prim.Native.Nat.{ℕ, suc, ◌+◌, ◌*◌, ◌-◌, ◌/◌, ◌≤◌, ◌<◌}
use native.Mathlib.Numerals.{add-one}
use native.Mathlib.Omega.{arith}
use native.Mathlib.Decide.{ℕ_discrete}
use borrow.Author.Tests.{lt-ltb, eq-eqb, ne_eqb}
use lib.Dec.{ltb, eqb}
use lib.ListN.{length, set, length-append, length-set}
use lib.Seq.{get_or-set_same, get_or-set_other}
use Rattle.ring.specs.Word.{at}
use Rattle.ring.specs.Lists.{joined}
use Rattle.ring.proofs.Joins.{length-joined}
use Rattle.tokens.specs.Tokens.{eqw_name}
use Rattle.bristol_form.specs.Says.{gates, wires, inputs, outputs, body, gate_at, made}
use Rattle.bristol_form.proofs.Laws.{made_grows}
use Rattle.bristol_form.proofs.LawsForm.{one_result}
use Rattle.bristol.specs.declared.Line.{Line}
use Rattle.bristol.specs.Import.{ours_to, kind_for, needs, operand_for, eight_bytes, gate_bytes, field_bytes, output_for}
use Rattle.report.specs.Private.{splice}
use Rattle.bristol.specs.Private.{tabled, Tabled, Taken, line_at}
use Rattle.bristol.proofs.TextGates.{named, reads, Makes, made_few, eqw_set}
use Rattle.bristol.proofs.OurWires.{ours_other, ours_eqw, ours_own, ours_small, operand_small, output_small, kind_small}
use Rattle.bristol.proofs.ImportedBytes.{gate_own, gate_eqw, gates_length}
use Rattle.report.proofs.Spliced.{splice_none, splice_next}
use Rattle.bristol.proofs.TextLines.{name_is, first_is, second_is, result_is, next_is}

-- ---- the bytes of gate j, read as the line g

module _ (text : List ℕ) (taken : Taken text) (j : ℕ) (l : j < gates text) (g : Line) (e : g ≡ line_at text (gate_at text j)) where
  -- EQW makes none
  pub none_bytes : g.name ≡ eqw_name → gate_bytes text j ≡ []
  none_bytes n = gate_eqw text j (sym (name_is text j g e) ∙ n)

  makes : (g.name ≡ eqw_name → ⊥) → Makes text j
  makes d n = d (name_is text j g e ∙ n)

  operand_for_lem : (x w need a : ℕ) → w ≡ reads text j x → need ≡ needs g.name → a ≡ cond (ltb x need) (ours_to text j w) 0 → a ≡ operand_for text j x
  unfolding operand_for
  operand_for_lem x w need a f n h = h ∙ ap₂ (λ (m v : ℕ). cond (ltb x m) (ours_to text j v) 0) (n ∙ ap needs (name_is text j g e)) f

  kind_for_lem : (kind : ℕ) → kind ≡ kind_for g.name g.first → kind ≡ kind_for (named text j) (reads text j 0)
  kind_for_lem kind h = h ∙ ap₂ kind_for (name_is text j g e) (first_is text j g e)

  module _ (d : g.name ≡ eqw_name → ⊥) (need kind a b : ℕ) (n : need ≡ needs g.name) (k : kind ≡ kind_for g.name g.first)
      (f : a ≡ cond (ltb 0 need) (ours_to text j g.first) 0) (s : b ≡ cond (ltb 1 need) (ours_to text j g.second) 0) where
    -- another makes eight
    pub own_bytes : gate_bytes text j ≡ eight_bytes kind a b
    own_bytes =
        gate_own text j (makes d)
        ∙ sym
        (ap₂ (λ (x y : ℕ). eight_bytes kind x y) (operand_for_lem 0 g.first need a (first_is text j g e) n f) (operand_for_lem 1 g.second need b (second_is text j g e) n s)
        ∙ ap (λ (x : ℕ). eight_bytes x (operand_for text j 0) (operand_for text j 1)) (kind_for_lem kind k))

    -- of small numbers
    pub own_small : (kind < 256) × (a < 65536) × (b < 65536)
    own_small =
        let h = kind_small text taken.form taken.limits j l (makes d) in
        let z = kind_for_lem kind k in
        let u = operand_small text taken.form taken.limits j 0 l in
        let v = operand_small text taken.form taken.limits j 1 l in
        let x = operand_for_lem 0 g.first need a (first_is text j g e) n f in
        let y = operand_for_lem 1 g.second need b (second_is text j g e) n s in
        (omega arith, omega arith, omega arith)

-- eight bytes for each gate that is made
pub bytes_length : (text : List ℕ) (j : ℕ) → 8 * made text j + length (gate_bytes text j) ≡ 8 * made text (suc j)
unfolding joined
bytes_length text j =
    let a = length-append (joined j (gate_bytes text)) (gate_bytes text j) in
    let b = gates_length text j in
    let c = gates_length text (suc j) in
    omega arith

-- ---- the table

-- our wire for what gate j sets
abbrev pub own_wire : List ℕ → ℕ → Line → ℕ
own_wire text j g = cond (eqb g.name eqw_name) (ours_to text j g.first) (inputs text + made text j)

module _ (text : List ℕ) (taken : Taken text) (j : ℕ) (l : j < gates text) (g : Line) (e : g ≡ line_at text (gate_at text j)) where
  pub own_eqw : g.name ≡ eqw_name → ours_to text j g.first ≡ own_wire text j g
  own_eqw n = rw (eq-eqb g.name 5 n)

  pub own_made : (g.name ≡ eqw_name → ⊥) → inputs text + made text j ≡ own_wire text j g
  own_made d = rw (ne_eqb g.name 5 d)

  pub eqw_small : g.name ≡ eqw_name → ours_to text j g.first < 65536
  eqw_small n =
      let s = eqw_set text taken.form taken.limits j l (sym (name_is text j g e) ∙ n) in
      let h = ours_small text taken.form taken.limits j (reads text j 0) (omega arith) s in
      let z = ap (ours_to text j) (first_is text j g e) in
      omega arith

  pub made_small : inputs text + made text j < 65536
  made_small = let a = made_few text taken.form taken.limits j (omega arith) in let b = taken.limits.inputs_to in omega arith

  own_is : (w : ℕ) → w ≡ g.result → ours_to text (suc j) w ≡ own_wire text j g
  own_is w r = go (ℕ_discrete g.name 5)
    where
      go : Dec (g.name ≡ eqw_name) → ours_to text (suc j) w ≡ own_wire text j g
      go (yes n) = ours_eqw text j w (r ∙ result_is text j g e) (sym (name_is text j g e) ∙ n) ∙ ap (ours_to text j) (sym (first_is text j g e)) ∙ own_eqw n
      go (no d) = ours_own text j w (r ∙ result_is text j g e) (λ n. d (name_is text j g e ∙ n)) ∙ own_made d

  result_to : g.result < wires text
  result_to =
      let h = (taken.form.every_gate j l).results_wires 0 (let o = one_result text taken.form taken.limits j l in omega arith) in
      let z = result_is text j g e in
      omega arith

  -- with that wire in its place the table is that before the next gate
  pub table_more : (table after : List ℕ) (v : ℕ) → wires text ≤ tabled → Tabled text table j → v ≡ own_wire text j g
      → after ≡ cond (ltb g.result tabled) (set table g.result v) table → Tabled text after (suc j)
  table_more table after v m t o h =
      let r = result_to in
      let long = t.long in
      let s : after ≡ set table g.result v = h ∙ rw (lt-ltb g.result tabled (omega arith)) in
      record {
        long = ap length s ∙ length-set table g.result v ∙ t.long;
        each = λ k w b. ap (λ (x : List ℕ). at x w) s ∙ go w b (ℕ_discrete w g.result);
      }
    where
      go : (w : ℕ) → w < tabled → Dec (w ≡ g.result) → at (set table g.result v) w ≡ ours_to text (suc j) w
      go w b (yes z) =
          let long = t.long in
          ap (at (set table g.result v)) z ∙ get_or-set_same table g.result v 0 (omega arith) ∙ o ∙ sym (own_is w z)
      go w b (no z) = get_or-set_other table g.result w v 0 z ∙ t.each m w b ∙ sym (ours_other text j w (λ y. z (y ∙ sym (result_is text j g e))))

-- a text of more wires has no table
pub table_unused : (text table : List ℕ) (j : ℕ) → tabled < wires text → Tabled text table j → Tabled text table (suc j)
table_unused text table j m t = record { long = t.long; each = λ k w b. absurd (let q : ⊥ = omega arith in q) }

-- ---- gate by gate

-- The first j gates are written over o from byte 11 on; the next one begins at p, so many being made, its bytes at a place, and the table is that before it.
pub record GatesPut (text o : List ℕ) (j p before place : ℕ) (table out : List ℕ) : Type 0 where
  pub at_gate : p ≡ gate_at text j
  pub made_is : before ≡ made text j
  pub place_is : place ≡ 11 + 8 * made text j
  pub known : Tabled text table j
  pub long : length out ≡ length o
  pub wrote : out ≡ splice o 11 (joined j (gate_bytes text))

pub gates_none : (text o table : List ℕ) (start : ℕ) → start ≡ body text → Tabled text table 0 → GatesPut text o 0 start 0 11 table o
unfolding gate_at made joined
gates_none text o table start e t = record { at_gate = e; made_is = refl; place_is = refl; known = t; long = refl; wrote = splice_none o 11 }

module _ (text o : List ℕ) (room : 11 + 8 * made text (gates text) ≤ length o) (j : ℕ) (l : j < gates text) where
  -- there is room for the next one
  pub gate_room : (p before place : ℕ) (table out : List ℕ) → GatesPut text o j p before place table out → place + length (gate_bytes text j) ≤ length out
  gate_room p before place table out s =
      let b = bytes_length text j in
      let m = made_grows text (suc j) (gates text) l in
      let z = s.place_is in
      let k = s.long in
      omega arith

  pub gates_more : (g : Line) → g ≡ line_at text (gate_at text j) → (p before place : ℕ) (table out : List ℕ) → GatesPut text o j p before place table out
      → (next : ℕ) (table' out' : List ℕ) → next ≡ place + length (gate_bytes text j) → out' ≡ splice out place (gate_bytes text j) → length out' ≡ length out → Tabled text table' (suc j)
      → GatesPut text o (j + 1) g.at (before + (next - place) / 8) next table' out'
  unfolding joined
  gates_more g e p before place table out s next table' out' n w k t =
      let b = bytes_length text j in
      let z = s.place_is in
      let y = s.made_is in
      let m = made_grows text (suc j) (gates text) l in
      let q = gates_length text j in
      rw (add-one j) (record {
        at_gate = next_is text j g e;
        made_is = omega arith;
        place_is = omega arith;
        known = t;
        long = k ∙ s.long;
        wrote = splice_next o 11 (joined j (gate_bytes text)) (gate_bytes text j) (omega arith) s.wrote (omega arith) w;
      })

-- ---- the outputs

-- The first n outputs' wires over o from a place on.
pub record OutputsPut (text o : List ℕ) (place n : ℕ) (out : List ℕ) : Type 0 where
  pub long : length out ≡ length o
  pub wrote : out ≡ splice o place (joined n (λ i. field_bytes (output_for text i)))

pub outputs_none : (text o : List ℕ) (place : ℕ) → OutputsPut text o place 0 o
unfolding joined
outputs_none text o place = record { long = refl; wrote = splice_none o place }

module _ (text o : List ℕ) (taken : Taken text) (place n : ℕ) (l : n < outputs text) where
  -- an output's wire, and that it is small
  pub output_wire : (most count total v : ℕ) → most ≡ wires text → count ≡ outputs text → total ≡ gates text → v ≡ ours_to text total (most - count + n) → v ≡ output_for text n
  unfolding output_for
  output_wire most count total v m k t e =
      let z : most - count + n ≡ wires text - outputs text + n = omega arith in
      e ∙ ap₂ (ours_to text) t z

  pub output_to : (v : ℕ) → v ≡ output_for text n → v < 65536
  output_to v e = let h = output_small text taken.form taken.limits n l in omega arith

  -- one more behind the others
  pub outputs_more : (out out' : List ℕ) (v : ℕ) → place + 2 * outputs text ≤ length o → OutputsPut text o place n out → v ≡ output_for text n
      → out' ≡ splice out (place + 2 * n) (field_bytes v) → length out' ≡ length out → OutputsPut text o place (n + 1) out'
  unfolding joined
  outputs_more out out' v h s e w k =
      let f : ℕ → List ℕ = λ i. field_bytes (output_for text i) in
      let q = length-joined 2 f n (λ r m. refl) in
      rw (add-one n) (record {
        long = k ∙ s.long;
        wrote = splice_next o place (joined n f) (f n) (omega arith) s.wrote (omega arith) (w ∙ ap (λ (x : ℕ). splice out (place + 2 * n) (field_bytes x)) e);
      })
