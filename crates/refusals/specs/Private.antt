-- What only proofs need of a table of refusals: the facts that its checks tell.
use Rattle.std.specs.Prelude.{Bool, true, List, [], ◌∷◌, ◌≡◌, ℕ, ◌≤◌, ◌<◌, eqb, leb, ltb}
use Rattle.refusals.specs.Table.{Check, is, at_most, below, holds}

-- Does a check pass?
abbrev pub passes : Check → Bool
passes (is x y number) = eqb x y
passes (at_most x y number) = leb x y
passes (below x y number) = ltb x y
passes (holds test number) = test

-- Its number.
abbrev pub number_of : Check → ℕ
number_of (is x y number) = number
number_of (at_most x y number) = number
number_of (below x y number) = number
number_of (holds test number) = number

-- What a check tells once it has passed.
abbrev pub Fact : Check → Type 0
Fact (is x y number) = x ≡ y
Fact (at_most x y number) = x ≤ y
Fact (below x y number) = x < y
Fact (holds test number) = test ≡ true

-- What they all tell.
abbrev pub Facts : List Check → Type 0
Facts [] = Unit {0}
Facts (c ∷ cs) = Fact c × Facts cs
