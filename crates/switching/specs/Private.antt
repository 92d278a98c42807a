-- What only proofs need.
use Rattle.std.specs.Prelude.{◌≡◌, ℕ, ◌+◌}
use Rattle.params.specs.declared.Params.{Params}
use Rattle.params.specs.Ranges.{InRange}
use Rattle.params.specs.Sizes.{size, switching_words}

-- What holds of a switching that is not refused.
pub record SwitchGood (p : Params) (ls lk lo : ℕ) : Type 0 where
  pub range : InRange p
  pub from : ls ≡ size p + 1
  pub rows : lk ≡ switching_words p
  pub into : lo ≡ p.n + 1
