-- What the kinds of a circuit need, by their ways. The numbers of operands are tested over the table of kinds.
-- Assumes nothing.
use mathlib.Core.Path.{◌≡◌, refl, ◌∙◌}
use mathlib.Core.Bool.{Bool, false}
use Prim.Native.Nat.{ℕ, zero, suc, ◌≤◌, ◌<◌}
use native.Mathlib.Omega.{arith}
use lib.Dec.{leb, eqb, eqb→eq, leb→le}
use lib.ListN.{get_or, get_or-eq_default}
use Rattle.kinds.specs.Kinds.{kind_of}
use Rattle.kinds.proofs.Table.{entry}
use Rattle.kinds.proofs.Columns.{operand_table, operand_entry}
use Rattle.ways.specs.declared.Way.TheVariants.{Known}
use Rattle.ways.specs.Ways.{ways, way_of}
use Rattle.ways.specs.Private.{operands_of}

-- a kind needs as many operands as its way
as_many : ℕ → ℕ → Bool
as_many k x = eqb (operands_of (way_of k)) x

pub ways_need : (k : ℕ) → k ≤ 13 → operands_of (way_of k) ≡ (kind_of k).operands
unfolding as_many operands_of way_of ways
ways_need k h = eqb→eq (operands_of (way_of k)) (get_or operand_table k 0) (entry as_many operand_table tt k (omega arith)) ∙ (operand_entry k h).0

-- a kind that needs no operand is a constant
pub needs_first : (k : ℕ) → 2 ≤ k → k ≤ 13 → 0 < (kind_of k).operands
needs_first k a b = let t = leb→le (from k) (get_or operand_table k 0) (entry enough operand_table tt k (omega arith)) in let e = (operand_entry k b).0 in let q = from_one k a in omega arith
  where
    from : ℕ → ℕ
    from zero = 0
    from (suc zero) = 0
    from (suc (suc k)) = 1

    enough : ℕ → ℕ → Bool
    enough k x = leb (from k) x

    from_one : (k : ℕ) → 2 ≤ k → from k ≡ 1
    from_one zero h = absurd (let q : ⊥ = omega arith in q)
    from_one (suc zero) h = absurd (let q : ⊥ = omega arith in q)
    from_one (suc (suc k)) h = refl

-- kinds 0 and 1 are the constants
pub known_way : (k : ℕ) → k < 2 → way_of k ≡ Known (eqb k 1)
unfolding way_of ways
known_way zero h = refl
known_way (suc zero) h = refl
known_way (suc (suc k)) h = absurd (let q : ⊥ = omega arith in q)

-- past the last kind the way is the first's
pub way_past : (k : ℕ) → 13 < k → way_of k ≡ Known false
unfolding way_of ways
way_past k h = get_or-eq_default ways (Known false) h
