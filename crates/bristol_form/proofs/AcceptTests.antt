-- Tests joined by 'and' and 'or', taken apart; checks that have all passed refuse nothing.
-- Assumes nothing.
use mathlib.Core.Path.{◌≡◌, refl}
use mathlib.Core.Logic.{◌⊎◌, inl, inr, ⊎_elim}
use mathlib.Core.Bool.{Bool, true, false, false≢true, ◌&&◌, ◌||◌}
use mathlib.Core.List.{List, [], ◌∷◌}
use Prim.Native.Nat.{ℕ, ◌<◌}
use borrow.Author.Tests.{ltb-true, eqb-true, lt-ltb, eq-eqb}
use lib.Dec.{ltb, eqb}
use Rattle.params.specs.Refusal.{answer}
use Rattle.circuit.specs.Form.{FieldCheck, asks, first_at}
use Rattle.circuit.proofs.Accept.{Passed}

pub both_true : (a b : Bool) → (a && b) ≡ true → (a ≡ true) × (b ≡ true)
both_true true b e = (refl, e)
both_true false b e = absurd (false≢true e)

pub one_true : (a b : Bool) → (a || b) ≡ true → (a ≡ true) ⊎ (b ≡ true)
one_true true b e = inl refl
one_true false b e = inr e

pub one_equal : (n a b : ℕ) → (eqb n a || eqb n b) ≡ true → (n ≡ a) ⊎ (n ≡ b)
one_equal n a b e = ⊎_elim (λ t. inl (eqb-true n a t)) (λ t. inr (eqb-true n b t)) (one_true (eqb n a) (eqb n b) e)

pub less_or_equal : (a b c d : ℕ) → (ltb a b || eqb c d) ≡ true → (a < b) ⊎ (c ≡ d)
less_or_equal a b c d e = ⊎_elim (λ t. inl (ltb-true a b t)) (λ t. inr (eqb-true c d t)) (one_true (ltb a b) (eqb c d) e)

pub right_true : (a b : Bool) → b ≡ true → (a || b) ≡ true
right_true true b e = refl
right_true false b e = e

pub equal_one : (n a b : ℕ) → (n ≡ a) ⊎ (n ≡ b) → (eqb n a || eqb n b) ≡ true
equal_one n a b e = ⊎_elim (λ t. rw (eq-eqb n a t)) (λ t. right_true (eqb n a) (eqb n b) (eq-eqb n b t)) e

pub is_less_or_equal : (a b c d : ℕ) → (a < b) ⊎ (c ≡ d) → (ltb a b || eqb c d) ≡ true
is_less_or_equal a b c d e = ⊎_elim (λ t. rw (lt-ltb a b t)) (λ t. right_true (ltb a b) (eqb c d) (eq-eqb c d t)) e

pub none_fails : (checks : List FieldCheck) → Passed checks → first_at checks ≡ answer 0
none_fails [] h = refl
none_fails (asks true n p ∷ checks) h = none_fails checks h.1
none_fails (asks false n p ∷ checks) h = absurd (false≢true h.0)
