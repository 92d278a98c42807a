-- A text whose lines set wire after wire is in the form: before line j the first wires are set, as many as there are inputs and lines before it.
-- Inductions on the lines passed.
-- Assumes nothing.
use mathlib.Core.Path.{◌≡◌, refl, sym, ap, subst, ◌∙◌}
use mathlib.Core.Logic.{◌⊎◌, inl, inr, ⊎_elim}
use mathlib.Core.Bool.{Bool, true, false, cond, ◌||◌}
use mathlib.Core.List.{List, []}
use Prim.Native.Nat.{ℕ, zero, suc, ◌+◌, ◌≤◌, ◌<◌}
use native.Mathlib.Omega.{arith}
use borrow.Author.Tests.{lt-ltb, le-ltb, eq-eqb, ne_eqb}
use lib.Dec.{ltb, eqb}
use lib.ListN.{length, drop}
use lib.Seq.{drop-length}
use Rattle.circuit.proofs.Accept.{lt_or_ge}
use Rattle.tokens.specs.Tokens.{no_number, eq_name}
use Rattle.bristol_form.specs.Says.{gates, wires, input_values, inputs, output_values, outputs, gate_at, operand_count, result_count, results_place, operand, result, gate_name, among, is_set, set_count}
use Rattle.bristol_form.specs.Valid.{Fits, binary, unary, constant, GoodGate, InForm}
use Rattle.export_meaning.proofs.Before.{Before, at_end}
use Rattle.export_meaning.proofs.Line.{Said, operands_of}
use Rattle.export_meaning.proofs.Lines.{Line, lines_text, line_at, Bodied, left, gate_said}

-- one more
below_next : (w m : ℕ) → (ltb w m || eqb w m) ≡ ltb w (suc m)
below_next w m =
    ⊎_elim
    (λ (h : w < m). rw (lt-ltb w m h, lt-ltb w (suc m) (omega arith)))
    (λ (h : m ≤ w).
    ⊎_elim
    (λ (l : w < suc m). let e : w ≡ m = omega arith in rw (le-ltb w m h, eq-eqb w m e, lt-ltb w (suc m) l))
    (λ (l : suc m ≤ w). rw (le-ltb w m h, ne_eqb w m (λ e. let q : ⊥ = omega arith in q), le-ltb w (suc m) l))
    (lt_or_ge w (suc m)))
    (lt_or_ge w m)

-- a name goes with its counts
fit : (text : List ℕ) (p name : ℕ) → 1 ≤ name → name ≤ 5 → gate_name text p ≡ name → operand_count text p ≡ operands_of name → result_count text p ≡ 1 → (name ≡ 4 → operand text p 0 ≤ 1) → Fits text p
fit text p zero a b n k r c = absurd (let q : ⊥ = omega arith in q)
fit text p (suc zero) a b n k r c = binary (inl n) k r
fit text p (suc (suc zero)) a b n k r c = binary (inr n) k r
fit text p (suc (suc (suc zero))) a b n k r c = unary (inl n) k r
fit text p (suc (suc (suc (suc zero)))) a b n k r c = constant n k r (c refl)
fit text p (suc (suc (suc (suc (suc zero))))) a b n k r c = unary (inr n) k r
fit text p (suc (suc (suc (suc (suc (suc name)))))) a b n k r c = absurd (let q : ⊥ = omega arith in q)

-- the second operand is there only for XOR and AND
two_operands : (name : ℕ) → 2 ≤ operands_of name → (name < 3) × (operands_of name ≡ 2)
two_operands name = go (lt_or_ge name 3)
  where
    go : (name < 3) ⊎ (3 ≤ name) → 2 ≤ operands_of name → (name < 3) × (operands_of name ≡ 2)
    go (inl l) h = (l, rw (lt-ltb name 3 l))
    go (inr l) h = absurd (let z : 2 ≤ 1 = rw (le-ltb name 3 l) at h in let q : ⊥ = omega arith in q)

module _ (text : List ℕ) (i : ℕ) (ls : List Line) (b : Bodied text i ls) (start : inputs text ≡ i) where
  pub set_count_lem : (j : ℕ) → j ≤ length ls → set_count text j ≡ i + j
  unfolding set_count
  set_count_lem zero h = omega arith
  set_count_lem (suc j) h = let s = (gate_said text i ls b j h).one_result in let e = set_count_lem j (omega arith) in omega arith

  pub is_set_lem : (j w : ℕ) → j ≤ length ls → is_set text j w ≡ ltb w (i + j)
  unfolding is_set among
  is_set_lem zero w h = ap (ltb w) (let z : inputs text ≡ i + 0 = omega arith in z)
  is_set_lem (suc j) w h =
      let s = gate_said text i ls b j h in
      let p = gate_at text j in
      let o = b.ordered j h in
      let e : result text p 0 ≡ i + j = s.sets ∙ o.sets in
      let f : among text (results_place text p) (result_count text p) w ≡ eqb w (i + j) = ap (λ (n : ℕ). among text (results_place text p) n w) s.one_result ∙ ap (eqb w) e in
      let z : i + suc j ≡ suc (i + j) = omega arith in
      ap (λ (t : Bool). is_set text j w || t) f ∙ ap (λ (t : Bool). t || eqb w (i + j)) (is_set_lem j w (omega arith)) ∙ below_next w (i + j) ∙ ap (ltb w) (sym z)

  module _ (j : ℕ) (h : j < length ls) (all : wires text ≡ i + length ls) where
    said : Said text (gate_at text j) (operands_of (line_at ls j).name) (line_at ls j).name (line_at ls j).first (line_at ls j).second (line_at ls j).result (lines_text (drop (suc j) ls))
    said = gate_said text i ls b j h

    operand_set : (x : ℕ) → x < operand_count text (gate_at text j) → (is_set text j (operand text (gate_at text j) x) ≡ true) ⊎ (gate_name text (gate_at text j) ≡ eq_name)
    operand_set zero l = go (b.ordered j h).first_good
      where
        go : (((line_at ls j).name ≡ 4) × ((line_at ls j).first ≤ 1)) ⊎ (((line_at ls j).name ≡ 4 → ⊥) × ((line_at ls j).first < i + j)) → (is_set text j (operand text (gate_at text j) 0) ≡ true) ⊎ (gate_name text (gate_at text j) ≡ eq_name)
        go (inl e) = inr (said.named ∙ e.0)
        go (inr f) = inl (is_set_lem j (operand text (gate_at text j) 0) (omega arith) ∙ ap (λ (w : ℕ). ltb w (i + j)) said.reads ∙ lt-ltb (line_at ls j).first (i + j) f.1)
    operand_set (suc zero) l =
        let c = said.counted in
        let t = two_operands (line_at ls j).name (omega arith) in
        inl (is_set_lem j (operand text (gate_at text j) 1) (omega arith) ∙ ap (λ (w : ℕ). ltb w (i + j)) (said.reads_too t.1) ∙ lt-ltb (line_at ls j).second (i + j) ((b.ordered j h).second_good t.0))
    operand_set (suc (suc x)) l =
        let c = said.counted in
        let t = two_operands (line_at ls j).name (omega arith) in
        absurd (let q : ⊥ = omega arith in q)

    constant_small : (line_at ls j).name ≡ 4 → operand text (gate_at text j) 0 ≤ 1
    constant_small e = go (b.ordered j h).first_good
      where
        go : (((line_at ls j).name ≡ 4) × ((line_at ls j).first ≤ 1)) ⊎ (((line_at ls j).name ≡ 4 → ⊥) × ((line_at ls j).first < i + j)) → operand text (gate_at text j) 0 ≤ 1
        go (inl f) = let r = said.reads in let s = f.1 in omega arith
        go (inr f) = absurd (f.0 e)

    counted_small : operand_count text (gate_at text j) < no_number
    counted_small = go (ltb (line_at ls j).name 3) said.counted
      where
        go : (t : Bool) → operand_count text (gate_at text j) ≡ cond t 2 1 → operand_count text (gate_at text j) < no_number
        go true e = omega arith
        go false e = omega arith

    pub good : GoodGate text j
    unfolding among
    good =
        let s = said in
        let o = b.ordered j h in
        let e : result text (gate_at text j) 0 ≡ i + j = s.sets ∙ o.sets in
        let r = s.one_result in
        record {
          counted = counted_small;
          fits = fit text (gate_at text j) (line_at ls j).name o.from o.to s.named s.counted r constant_small;
          operands_set = operand_set;
          results_wires = λ y l. let z : y ≡ 0 = omega arith in rw z (omega arith);
          results_new = λ y l. let z : y ≡ 0 = omega arith in rw z (is_set_lem j (result text (gate_at text j) 0) (omega arith) ∙ ap (λ (w : ℕ). ltb w (i + j)) e ∙ le-ltb (i + j) (i + j) (omega arith));
          results_apart = λ y l. let z : y ≡ 0 = omega arith in rw z refl;
        }

  -- the head's numbers being those of the lines
  pub in_form : gates text ≡ length ls → wires text ≡ i + length ls → input_values text < no_number → output_values text < no_number → outputs text ≤ wires text → InForm text
  unfolding lines_text
  in_form g w iv ov os =
      let s = b.small in
      record {
        gates_number = omega arith;
        wires_number = omega arith;
        input_values_number = iv;
        output_values_number = ov;
        outputs_to = os;
        every_gate = λ j h. good j (omega arith) w;
        all_set = ap (set_count text) g ∙ set_count_lem (length ls) (omega arith) ∙ sym w;
        whole = at_end text (gate_at text (gates text)) (subst (λ (j : ℕ). Before text (gate_at text j) []) (sym g) (subst (λ (r : List Line). Before text (gate_at text (length ls)) (lines_text r)) (drop-length ls) (left text i ls b (length ls) (omega arith))));
      }
