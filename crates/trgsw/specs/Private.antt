-- What only code and proofs need: lists of one length, and what holds of an external product that is not refused.
use Rattle.std.specs.Prelude.{List, [], ◌∷◌, ℕ, ◌≡◌, length}
use Rattle.params.specs.declared.Params.{Params}
use Rattle.params.specs.Ranges.{params_number}
use Rattle.params.specs.Sizes.{size, bit_words}

-- Each of the lists has N words.
abbrev pub Each : ℕ → List (List ℕ) → Type 0
Each N [] = Unit {0}
Each N (l ∷ ls) = (length l ≡ N) × Each N ls

-- The parameters are in range, and every slice has its length.
pub record ExternalGood (p : Params) (lr la lb lx ly : ℕ) : Type 0 where
  pub range : params_number p ≡ 0
  pub rows : lr ≡ bit_words p
  pub first : la ≡ size p
  pub second : lb ≡ size p
  pub into_a : lx ≡ size p
  pub into_b : ly ≡ size p
