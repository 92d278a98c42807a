-- What only proofs and private contracts need: what holds of a call that is not refused.
use Rattle.std.specs.Prelude.{ℕ, ◌+◌, ◌≡◌}
use Rattle.params.specs.declared.Params.{Params}
use Rattle.params.specs.Ranges.{params_number}
use Rattle.params.specs.Sizes.{switching_words, bootstrapping_words}

-- What holds of a gate that is not refused.
pub record GateGood (p : Params) (la lb lk ls lo : ℕ) : Type 0 where
  pub good : params_number p ≡ 0
  pub first : la ≡ p.n + 1
  pub second : lb ≡ p.n + 1
  pub switching : lk ≡ switching_words p
  pub bootstrapping : ls ≡ bootstrapping_words p
  pub result : lo ≡ p.n + 1

-- What holds of a `mux` that is not refused.
pub record MuxGood (p : Params) (la lb lc lk ls lo : ℕ) : Type 0 where
  pub good : params_number p ≡ 0
  pub first : la ≡ p.n + 1
  pub second : lb ≡ p.n + 1
  pub third : lc ≡ p.n + 1
  pub switching : lk ≡ switching_words p
  pub bootstrapping : ls ≡ bootstrapping_words p
  pub result : lo ≡ p.n + 1
