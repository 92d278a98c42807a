-- The columns of the table of kinds, each tested whole, and what stands past its end.
-- Assumes nothing.
use mathlib.Core.Path.{◌≡◌, refl}
use mathlib.Core.Bool.{Bool, true, false, not, beq, xor}
use mathlib.Core.List.{List, [], ◌∷◌}
use Prim.Native.Nat.{ℕ, ◌≤◌, ◌<◌}
use native.Mathlib.Omega.{arith}
use lib.Dec.{leb, eqb, eqb→eq, leb→le}
use lib.ListN.{get_or, get_or-eq_default}
use mir.Val.{bool_byte}
use Rattle.kinds.specs.Kinds.{kinds, kind_of, kind_entry, bit_meaning}
use Rattle.kinds.proofs.Table.{both, both_left, both_right, entry}
use Rattle.ring.specs.Bit.{bit_number}

-- ---- past the table

pub kind_past : (k : ℕ) → 13 < k → kind_of k ≡ kind_entry 0 (λ a b c. false) 0
unfolding kind_of kinds
kind_past k h = get_or-eq_default kinds (kind_entry 0 (λ a b c. false) 0) h

pub meaning_past : (k a b c : ℕ) → 13 < k → 0 ≡ bit_meaning k a b c
unfolding bit_meaning
meaning_past k a b c h = rw (kind_past k h)

-- ---- the column of operands

abbrev pub operand_table : List ℕ
operand_table = 0 ∷ 0 ∷ 1 ∷ 2 ∷ 2 ∷ 2 ∷ 2 ∷ 2 ∷ 2 ∷ 2 ∷ 2 ∷ 2 ∷ 2 ∷ 3 ∷ []

operand_right : ℕ → ℕ → Bool
operand_right k x = both (eqb x (kind_of k).operands) (leb x 3)

pub operand_entry : (k : ℕ) → k ≤ 13 → (get_or operand_table k 0 ≡ (kind_of k).operands) × (get_or operand_table k 0 ≤ 3)
unfolding operand_right kind_of kinds
operand_entry k h =
    let t = entry operand_right operand_table tt k (omega arith) in
    let x = get_or operand_table k 0 in
    (eqb→eq x (kind_of k).operands (both_left (eqb x (kind_of k).operands) (leb x 3) t), leb→le x 3 (both_right (eqb x (kind_of k).operands) (leb x 3) t))

-- ---- the column of work

abbrev pub work_table : List ℕ
work_table = 0 ∷ 0 ∷ 0 ∷ 1 ∷ 1 ∷ 1 ∷ 1 ∷ 1 ∷ 1 ∷ 1 ∷ 1 ∷ 1 ∷ 1 ∷ 2 ∷ []

work_right : ℕ → ℕ → Bool
work_right k x = both (eqb x (kind_of k).work) (leb x 2)

pub work_entry : (k : ℕ) → k ≤ 13 → (get_or work_table k 0 ≡ (kind_of k).work) × (get_or work_table k 0 ≤ 2)
unfolding work_right kind_of kinds
work_entry k h =
    let t = entry work_right work_table tt k (omega arith) in
    let x = get_or work_table k 0 in
    (eqb→eq x (kind_of k).work (both_left (eqb x (kind_of k).work) (leb x 2) t), leb→le x 2 (both_right (eqb x (kind_of k).work) (leb x 2) t))

-- ---- the column of meanings

-- xor is that two bits differ
pub differ : (a b : Bool) → not (beq a b) ≡ xor a b
unfolding xor
differ true b = refl
differ false true = refl
differ false false = refl

pub alike : (a b : Bool) → beq a b ≡ not (xor a b)
unfolding xor
alike true true = refl
alike true false = refl
alike false true = refl
alike false false = refl

-- a bit as the machine makes it from a test
pub bit_byte : (b : Bool) → bool_byte b ≡ bit_number b
bit_byte true = refl
bit_byte false = refl
