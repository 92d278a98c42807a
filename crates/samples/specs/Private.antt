-- What only proofs and private contracts need.
use Rattle.std.specs.Prelude.{ℕ, ◌+◌, ◌≡◌}
use Rattle.params.specs.declared.Params.{Params}
use Rattle.params.specs.Ranges.{params_number}
use Rattle.params.specs.Sizes.{size, bootstrapping_words}

-- What holds of a sample that is not refused.
pub record SampleGood (p : Params) (la lb ls lo : ℕ) : Type 0 where
  pub good : params_number p ≡ 0
  pub first : la ≡ p.n + 1
  pub second : lb ≡ p.n + 1
  pub bootstrapping : ls ≡ bootstrapping_words p
  pub result : lo ≡ size p + 1
