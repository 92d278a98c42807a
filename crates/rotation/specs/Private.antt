-- What only proofs need: what holds of a rotation that is not refused.
use Rattle.std.specs.Prelude.{ℕ, ◌+◌, ◌≤◌, ◌≡◌}
use Rattle.params.specs.declared.Params.{Params}
use Rattle.params.specs.Ranges.{InRange}
use Rattle.params.specs.Sizes.{size}

-- The parameters are in range, the lengths are N, and the amount is at most 2N.
pub record RotateGood (p : Params) (la lo k : ℕ) : Type 0 where
  pub range : InRange p
  pub from : la ≡ size p
  pub into : lo ≡ size p
  pub amount : k ≤ size p + size p
