-- The refusals of a routine as a list of checks, in the order of document 01's table ('Refusal numbers').
use Rattle.std.specs.Prelude.{Bool, List, [], ◌∷◌, ℕ, eqb, leb, ltb}
use Rattle.params.specs.declared.Params.{Params}
use Rattle.params.specs.Refusal.{check}
use Rattle.params.specs.Ranges.{params_number}

-- One check: x is y, or x is at most y, or x is below y, or the test holds; and the number of the refusal where not.
pub data Check : Type 0 where
  is : ℕ → ℕ → ℕ → Check
  at_most : ℕ → ℕ → ℕ → Check
  below : ℕ → ℕ → ℕ → Check
  holds : Bool → ℕ → Check

-- The number of the first check that fails, 0 where none does.
abbrev pub first_of : List Check → ℕ
first_of [] = 0
first_of (is x y number ∷ cs) = check (eqb x y) number (first_of cs)
first_of (at_most x y number ∷ cs) = check (leb x y) number (first_of cs)
first_of (below x y number ∷ cs) = check (ltb x y) number (first_of cs)
first_of (holds test number ∷ cs) = check test number (first_of cs)

-- A routine's number: 1 where the parameters are out of range, else that of its checks.
abbrev pub refusal_by : Params → List Check → ℕ
refusal_by p checks = check (eqb (params_number p) 0) 1 (first_of checks)
