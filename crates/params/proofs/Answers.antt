-- How a routine's proof goes out of the refusal table and back: a check that comes to 0 has passed, and a refusal keeps what was lent.
-- Assumes nothing.
use mathlib.Core.Path.{◌≡◌, refl}
use mathlib.Core.Bool.{Bool, true, false, cond}
use Prim.Native.Nat.{ℕ, zero, suc, ◌<◌, ◌≤◌}
use native.Mathlib.Omega.{arith}
use borrow.Author.Tests.{eq-eqb, ne_eqb, eqb-true}
use lib.Dec.{eqb}
use Rattle.std.specs.Prelude.{Ok, Err}
use Rattle.params.specs.Refusal.{Answer}
use Rattle.params.specs.declared.refusal.Refusal.{Refusal}
use Rattle.params.specs.declared.refusal.Refusal.TheVariants.{Parameters, Length, Index, KeyWord, Modulus, Mark, Version, Count, Gate, Output, Text, Limit, Wires}
use Rattle.params.specs.Refusal.{check, if_done, number, place, refusal_at, given}

-- a check that comes to 0 has passed, and so have those after it
pub passed : (b : Bool) (number rest : ℕ) → 0 < number → check b number rest ≡ 0 → (b ≡ true) × (rest ≡ 0)
passed true number rest p e = (refl, e)
passed false number rest p e = absurd (omega arith)

module _ {A : Type 0} (number : ℕ) (new old : A) where
  -- a refusal keeps the old
  pub kept : (number ≡ 0 → ⊥) → old ≡ if_done number new old
  kept h = rw (ne_eqb number 0 h)

  -- a call that did its work gives the new
  pub done : {out : A} → number ≡ 0 → out ≡ new → out ≡ if_done number new old
  done e o = rw (eq-eqb number 0 e) o

  -- the same, the other way round, for callers
  pub when_done : number ≡ 0 → if_done number new old ≡ new
  when_done e = rw (eq-eqb number 0 e)

  pub when_refused : (number ≡ 0 → ⊥) → if_done number new old ≡ old
  when_refused h = rw (ne_eqb number 0 h)

-- ---- what a routine hands back, by its number

-- the value where the number is 0, and only there
pub given_done : {A : Type 0} (a : Answer) (v : A) → a.number ≡ 0 → given a v ≡ Ok v
given_done a v e = rw e

pub given_ok : {A : Type 0} (a : Answer) (v : A) {w : A} → given a v ≡ Ok w → a.number ≡ 0
given_ok {A = A} a v {w = u} e = go (eqb a.number 0) refl e
  where
    go : (b : Bool) → eqb a.number 0 ≡ b → cond b (Ok v) (Err (refusal_at a.number a.place)) ≡ Ok u → a.number ≡ 0
    go true h e = eqb-true a.number 0 h
    go false h e = absurd cc

-- each refusal is that of its number and its place
pub refusal_is : (r : Refusal) → refusal_at (number r) (place r) ≡ r
refusal_is Parameters = refl
refusal_is Length = refl
refusal_is Index = refl
refusal_is KeyWord = refl
refusal_is Modulus = refl
refusal_is Mark = refl
refusal_is Version = refl
refusal_is (Count at) = refl
refusal_is (Gate at) = refl
refusal_is (Output at) = refl
refusal_is (Text at) = refl
refusal_is (Limit at) = refl
refusal_is Wires = refl

-- and each number of the table is that of its refusal
pub number_at : (n at : ℕ) → 1 ≤ n → n ≤ 13 → number (refusal_at n at) ≡ n
number_at zero at g h = absurd (omega arith)
number_at (suc zero) at g h = refl
number_at (suc (suc zero)) at g h = refl
number_at (suc (suc (suc zero))) at g h = refl
number_at (suc (suc (suc (suc zero)))) at g h = refl
number_at (suc (suc (suc (suc (suc zero))))) at g h = refl
number_at (suc (suc (suc (suc (suc (suc zero)))))) at g h = refl
number_at (suc (suc (suc (suc (suc (suc (suc zero))))))) at g h = refl
number_at (suc (suc (suc (suc (suc (suc (suc (suc zero)))))))) at g h = refl
number_at (suc (suc (suc (suc (suc (suc (suc (suc (suc zero))))))))) at g h = refl
number_at (suc (suc (suc (suc (suc (suc (suc (suc (suc (suc zero)))))))))) at g h = refl
number_at (suc (suc (suc (suc (suc (suc (suc (suc (suc (suc (suc zero))))))))))) at g h = refl
number_at (suc (suc (suc (suc (suc (suc (suc (suc (suc (suc (suc (suc zero)))))))))))) at g h = refl
number_at (suc (suc (suc (suc (suc (suc (suc (suc (suc (suc (suc (suc (suc zero))))))))))))) at g h = refl
number_at (suc (suc (suc (suc (suc (suc (suc (suc (suc (suc (suc (suc (suc (suc n)))))))))))))) at g h = absurd (omega arith)
