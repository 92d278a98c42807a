-- What only proofs need: two polynomials that a routine is lent as a pair.
use Rattle.std.specs.Prelude.{List, ℕ, ◌≡◌, length}
use Rattle.params.specs.declared.Params.{Params}
use Rattle.params.specs.Sizes.{size}

-- Both have N words.
pub record Whole (p : Params) (a b : List ℕ) : Type 0 where
  pub first : length a ≡ size p
  pub second : length b ≡ size p
