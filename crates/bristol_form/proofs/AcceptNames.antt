-- A gate's name: its test, with the numbers of operands and results, is that they fit; case by case, the names being numbers that differ.
-- Assumes nothing.
use mathlib.Core.Path.{◌≡◌, sym, ◌∙◌}
use mathlib.Core.Logic.{◌⊎◌, inl, inr, ⊎_elim}
use mathlib.Core.Bool.{Bool, true, ◌&&◌, ◌||◌}
use mathlib.Core.List.{List}
use Prim.Native.Nat.{ℕ, ◌≤◌, ◌<◌}
use native.Mathlib.Omega.{arith}
use borrow.Author.Tests.{leb-true, eqb-true, le-leb, eq-eqb, ne_eqb}
use lib.Dec.{leb, eqb}
use Rattle.tokens.specs.Tokens.{xor_name, and_name, inv_name, eq_name, eqw_name, mand_name}
use Rattle.bristol_form.specs.Says.{operand_count, result_count, operand, gate_name}
use Rattle.bristol_form.specs.Form.{results_for, name_good}
use Rattle.bristol_form.specs.Valid.{Fits, binary, unary, constant, many}
use Rattle.bristol_form.proofs.AcceptTests.{both_true, one_true, one_equal, right_true, equal_one}
use Rattle.bristol_form.proofs.AcceptCounts.{Counts, alone, paired, results_one, results_half}

module _ (text : List ℕ) (p : ℕ) where
  -- the first operand is a set wire where the name asks for one
  pub data Named (set : Bool) : Type 0 where
    with_wire : Fits text p → set ≡ true → Named set
    with_none : Fits text p → gate_name text p ≡ eq_name → Named set
    with_more : Fits text p → 2 ≤ operand_count text p → Named set

  pub fits_of : {set : Bool} → Named set → Fits text p
  fits_of (with_wire f s) = f
  fits_of (with_none f s) = f
  fits_of (with_more f m) = f

  pub name_good_lem : (set : Bool) (n : ℕ) → Counts (operand_count text p) n → result_count text p ≡ results_for (operand_count text p) → name_good (operand_count text p) (operand text p 0) set (gate_name text p) ≡ true → Named set
  unfolding name_good
  name_good_lem set n (alone e) r h =
      let name = gate_name text p in
      let one : result_count text p ≡ 1 = r ∙ results_one (operand_count text p) e in
      let a : ((eqb name inv_name || eqb name eqw_name) && set || eqb name eq_name && leb (operand text p 0) 1) ≡ true = rw (eq-eqb (operand_count text p) 1 e) at h in
      ⊎_elim
      (λ b.
      let c = both_true (eqb name inv_name || eqb name eqw_name) set b in
      with_wire (unary (one_equal name inv_name eqw_name c.0) e one) c.1)
      (λ b.
      let c = both_true (eqb name eq_name) (leb (operand text p 0) 1) b in
      let q = eqb-true name eq_name c.0 in
      with_none (constant q e one (leb-true _ _ c.1)) q)
      (one_true ((eqb name inv_name || eqb name eqw_name) && set) _ a)
  name_good_lem set n (paired s m e) r h =
      let name = gate_name text p in
      let k = operand_count text p in
      let a : (eqb name mand_name || eqb k 2 && (eqb name xor_name || eqb name and_name)) ≡ true = rw (ne_eqb k 1 (λ z. omega arith)) at h in
      with_more
      (⊎_elim
      (λ b. many (eqb-true name mand_name b) (omega arith) (omega arith))
      (λ b.
      let c = both_true (eqb k 2) (eqb name xor_name || eqb name and_name) b in
      let two = eqb-true k 2 c.0 in
      binary (one_equal name xor_name and_name c.1) two (omega arith))
      (one_true (eqb name mand_name) _ a))
      (omega arith)

  -- the other way: the name's test from the name and the counts
  pub name_done : (set : Bool) → Fits text p → (set ≡ true) ⊎ (gate_name text p ≡ eq_name) → name_good (operand_count text p) (operand text p 0) set (gate_name text p) ≡ true
  unfolding name_good
  name_done set (binary n k r) s =
      let name = gate_name text p in
      let count = operand_count text p in
      rw (ne_eqb count 1 (λ z. omega arith), eq-eqb count 2 k)
      (right_true (eqb name mand_name) _ (equal_one name xor_name and_name n))
  name_done set (unary n k r) s =
      let name = gate_name text p in
      let wired : set ≡ true = ⊎_elim (λ z. z) (λ z. absurd (⊎_elim (λ y. omega arith) (λ y. omega arith) n)) s in
      rw (eq-eqb (operand_count text p) 1 k, equal_one name inv_name eqw_name n, wired)
  name_done set (constant n k r c) s =
      let name = gate_name text p in
      rw (eq-eqb (operand_count text p) 1 k) (right_true ((eqb name inv_name || eqb name eqw_name) && set) _ (rw (eq-eqb name eq_name n, le-leb (operand text p 0) 1 c)))
  name_done set (many n m k) s = rw (ne_eqb (operand_count text p) 1 (λ z. omega arith), eq-eqb (gate_name text p) mand_name n)

  pub results_fit : Fits text p → result_count text p ≡ results_for (operand_count text p)
  results_fit (binary n k r) = r ∙ sym (results_half (operand_count text p) 1 (omega arith) k)
  results_fit (unary n k r) = r ∙ sym (results_one (operand_count text p) k)
  results_fit (constant n k r c) = r ∙ sym (results_one (operand_count text p) k)
  results_fit (many n m k) = sym (results_half (operand_count text p) (result_count text p) m k)

  -- EQ's one operand is a constant
  pub constant_to : Fits text p → gate_name text p ≡ eq_name → (operand_count text p ≡ 1) × (operand text p 0 ≤ 1)
  constant_to (binary n k r) e = absurd (⊎_elim (λ y. omega arith) (λ y. omega arith) n)
  constant_to (unary n k r) e = absurd (⊎_elim (λ y. omega arith) (λ y. omega arith) n)
  constant_to (constant n k r c) e = (k, c)
  constant_to (many n m k) e = absurd (omega arith)

  -- with more operands than one the first is no constant
  pub counts_fit : (set : ℕ) → Fits text p → (0 < set) ⊎ (gate_name text p ≡ eq_name) → Counts (operand_count text p) set
  counts_fit set f s = go f (⊎_elim (λ z. inl z) (λ z. inr (constant_to f z).0) s)
    where
      go : Fits text p → (0 < set) ⊎ (operand_count text p ≡ 1) → Counts (operand_count text p) set
      go h (inr one) = alone one
      go (binary n k r) (inl some) = let half = results_fit (binary n k r) in paired some (omega arith) (omega arith)
      go (unary n k r) (inl some) = alone k
      go (constant n k r c) (inl some) = alone k
      go (many n m k) (inl some) = let half = results_fit (many n m k) in paired some (omega arith) (omega arith)

  pub operands_some : Fits text p → 0 < operand_count text p
  operands_some (binary n k r) = omega arith
  operands_some (unary n k r) = omega arith
  operands_some (constant n k r c) = omega arith
  operands_some (many n m k) = omega arith
