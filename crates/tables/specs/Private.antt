-- What only proofs and private contracts need: what holds of a call that is not refused.
use Rattle.std.specs.Prelude.{true, ◌≡◌, ℕ, ◌+◌}
use Rattle.params.specs.declared.Params.{Params}
use Rattle.params.specs.Ranges.{params_number}
use Rattle.params.specs.Sizes.{size, switching_words, bootstrapping_words}
use Rattle.tables.specs.Table.{is_table}

-- A table of lf words for the modulus m.
pub record Fitting (p : Params) (m lf : ℕ) : Type 0 where
  pub good : params_number p ≡ 0
  pub words : lf ≡ m
  pub fits : is_table (size p) m ≡ true

-- What holds of a lookup that is not refused.
pub record LookupGood (p : Params) (m lf lc lk ls lo : ℕ) : Type 0 where
  pub table : Fitting p m lf
  pub source : lc ≡ p.n + 1
  pub switching : lk ≡ switching_words p
  pub bootstrapping : ls ≡ bootstrapping_words p
  pub result : lo ≡ p.n + 1
