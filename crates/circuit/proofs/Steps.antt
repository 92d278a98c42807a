-- The first refusal of a row of answers, as a loop finds it: it stops at an answer that refuses and goes on past one that does not.
-- Assumes nothing.
use mathlib.Core.Path.{◌≡◌, ◌∙◌}
use Prim.Native.Nat.{ℕ, suc, ◌+◌, ◌-◌, ◌≤◌, ◌<◌}
use native.Mathlib.Numerals.{add-one}
use native.Mathlib.Omega.{arith}
use borrow.Author.Tests.{eq-eqb, ne_eqb}
use Rattle.params.specs.Refusal.{Answer}
use Rattle.params.specs.Refusal.{answer}
use Rattle.circuit.specs.Form.{first, or_else}

pub first_start : (f : ℕ → Answer) (n : ℕ) → first f 0 n ≡ first f 0 (n - 0)
first_start f n = let e : n - 0 ≡ n = omega arith in rw e

module _ (f : ℕ → Answer) (i n : ℕ) where
  more : i < n → first f i (n - i) ≡ or_else (f i) (first f (suc i) (n - suc i))
  unfolding first
  more h = let e : n - i ≡ suc (n - suc i) = omega arith in rw e

  pub first_stop : i < n → ((f i).number ≡ 0 → ⊥) → first f i (n - i) ≡ f i
  first_stop h d = more h ∙ rw (ne_eqb (f i).number 0 d)

  pub first_step : i < n → (f i).number ≡ 0 → first f i (n - i) ≡ first f (i + 1) (n - (i + 1))
  first_step h e = more h ∙ rw (eq-eqb (f i).number 0 e, add-one i)

  pub first_end : n ≤ i → first f i (n - i) ≡ answer 0
  unfolding first
  first_end h = let e : n - i ≡ 0 = omega arith in rw e
