-- What reading tests of an operand: a kind needs its first operand from 2 on, its second from 3 on, its third from 13 on, which is tested over the table, and an
-- operand that is not needed is 0, so below 1, and one comparison serves both.
-- Assumes nothing.
use mathlib.Core.Path.{◌≡◌, refl, sym, ap, ◌∙◌}
use mathlib.Core.Bool.{Bool, true, false, cond}
use Prim.Native.Nat.{ℕ, zero, suc, ◌≤◌}
use native.Mathlib.Omega.{arith}
use borrow.Author.Tests.{le-ltb, ne_eqb}
use lib.Dec.{ltb, eqb, T}
use lib.ListN.{get_or}
use Rattle.kinds.specs.Kinds.{kind_of}
use Rattle.kinds.proofs.Table.{same, same_is, entry}
use Rattle.kinds.proofs.Columns.{operand_table, operand_entry}

-- ---- the table

-- more than x operands are needed by the kinds above t
above : ℕ → ℕ → ℕ → ℕ → Bool
above x t k operands = same (ltb x operands) (ltb t k)

above_is : (x t : ℕ) (k : ℕ) → T (above x t k (get_or operand_table k 0)) → k ≤ 13 → ltb x (kind_of k).operands ≡ ltb t k
unfolding above
above_is x t k test h = ap (ltb x) (sym (operand_entry k h).0) ∙ same_is (ltb x (get_or operand_table k 0)) (ltb t k) test

pub first_needed : (k : ℕ) → k ≤ 13 → ltb 0 (kind_of k).operands ≡ ltb 1 k
unfolding above
first_needed k h = above_is 0 1 k (entry (above 0 1) operand_table tt k (omega arith)) h

pub second_needed : (k : ℕ) → k ≤ 13 → ltb 1 (kind_of k).operands ≡ ltb 2 k
unfolding above
second_needed k h = above_is 1 2 k (entry (above 1 2) operand_table tt k (omega arith)) h

pub third_needed : (k : ℕ) → k ≤ 13 → ltb 2 (kind_of k).operands ≡ ltb 12 k
unfolding above
third_needed k h = above_is 2 12 k (entry (above 2 12) operand_table tt k (omega arith)) h

-- ---- an operand

below_one : (wire : ℕ) → eqb wire 0 ≡ ltb wire 1
below_one zero = refl
below_one (suc n) = ne_eqb (suc n) 0 (λ e. let q : ⊥ = omega arith in q) ∙ sym (le-ltb (suc n) 1 (omega arith))

pub below : (needed : Bool) (own wire : ℕ) → cond needed (ltb wire own) (eqb wire 0) ≡ ltb wire (cond needed own 1)
below true own wire = refl
below false own wire = below_one wire
