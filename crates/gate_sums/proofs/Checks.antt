-- The refusals put together.
-- Assumes nothing.
use mathlib.Core.Path.{◌≡◌}
use mathlib.Core.List.{[], ◌∷◌}
use Prim.Native.Nat.{ℕ, ◌+◌}
use Rattle.params.specs.declared.Params.{Params}
use Rattle.params.specs.Ranges.{params_number}
use Rattle.refusals.specs.Table.{is}
use Rattle.refusals.proofs.Table.{done}
use Rattle.gate_sums.specs.Sum.{constant_number}

module _ (p : Params) (lo : ℕ) where
  -- for callers: good arguments are not refused
  pub constant_done : params_number p ≡ 0 → lo ≡ p.n + 1 → constant_number p lo ≡ 0
  unfolding constant_number
  constant_done e l = done p (is lo (p.n + 1) 2 ∷ []) (e, (l, tt))
