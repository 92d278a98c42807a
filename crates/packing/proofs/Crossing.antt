-- What crosses into C of an answer: its number in the low half, and its place in the high half.
-- Assumes nothing.
use mathlib.Core.Bool.{Bool, true, false, cond}
use mathlib.Core.Path.{◌≡◌, refl, ap}
use Prim.Native.Nat.{ℕ, zero, suc, ◌+◌, ◌*◌, ◌≤◌}
use native.Mathlib.Omega.{arith}
use Rattle.ring.specs.Word.{Q}
use lib.Dec.{eqb}
use Rattle.std.specs.Prelude.{Ok, Err}
use Rattle.params.specs.Refusal.{Answer, answer, outcome, given, if_done, refusal_at}
use Rattle.packing.specs.Packed.{packed}

-- refusals without a place: the number alone, and 0 where the call did its work
pub packed_number : (n : ℕ) → n ≤ 5 → packed (outcome (answer n)) ≡ n
unfolding Q
packed_number zero h = refl
packed_number (suc zero) h = refl
packed_number (suc (suc zero)) h = refl
packed_number (suc (suc (suc zero))) h = refl
packed_number (suc (suc (suc (suc zero)))) h = refl
packed_number (suc (suc (suc (suc (suc zero))))) h = refl
packed_number (suc (suc (suc (suc (suc (suc n)))))) h = absurd (omega arith)

pub packed_wires : packed (outcome (answer 13)) ≡ 13
unfolding Q
packed_wires = refl

-- those of a circuit: the mark is at 0, the version at 3, and the others tell their place
pub packed_head : (packed (outcome (record { number = 6; place = 0 })) ≡ 6) × (packed (outcome (record { number = 7; place = 3 })) ≡ 7 + 3 * Q)
unfolding Q
packed_head = (refl, refl)

pub packed_place : (at : ℕ) → (packed (outcome (record { number = 8; place = at })) ≡ 8 + at * Q)
    × (packed (outcome (record { number = 9; place = at })) ≡ 9 + at * Q)
    × (packed (outcome (record { number = 10; place = at })) ≡ 10 + at * Q)
packed_place at = (refl, refl, refl)

-- a bit that is told true only where the number is 0 is the one that is handed back
pub told_true : (a : Answer) (b : Bool) → if_done a.number b false ≡ true → given a b ≡ Ok true
told_true a b e = go (eqb a.number 0) e
  where
    go : (t : Bool) → cond t b false ≡ true → cond t (Ok b) (Err (refusal_at a.number a.place)) ≡ Ok true
    go true e = ap Ok e
    go false e = absurd cc
