-- What only proofs and private contracts need: what holds of a column that is not refused.
use Rattle.std.specs.Prelude.{◌≡◌, ℕ, ◌+◌, ◌*◌, ◌≤◌}
use Rattle.params.specs.declared.Params.{Params}
use Rattle.params.specs.Ranges.{params_number}
use Rattle.params.specs.Sizes.{switching_words, bootstrapping_words}

-- Of everything but the parameters and the results' slice.
pub record PairsGood (p : Params) (kind count lp lk ls : ℕ) : Type 0 where
  pub pairs : lp ≡ count * (2 * (p.n + 1))
  pub switching : lk ≡ switching_words p
  pub bootstrapping : ls ≡ bootstrapping_words p
  pub least : 3 ≤ kind
  pub most : kind ≤ 12

-- Of the whole column.
pub record ColumnGood (p : Params) (kind count lp lk ls lo : ℕ) : Type 0 where
  pub good : params_number p ≡ 0
  pub lent : PairsGood p kind count lp lk ls
  pub results : lo ≡ count * (p.n + 1)
