-- The refusals taken apart and put together, from the tables' laws.
-- Assumes nothing.
use mathlib.Core.Path.{◌≡◌, refl}
use Prim.Native.Nat.{ℕ, ◌+◌, ◌*◌, ◌<◌}
use Rattle.params.specs.declared.Params.{Params}
use Rattle.params.specs.Ranges.{params_number}
use Rattle.params.specs.Sizes.{size}
use Rattle.refusals.proofs.Table.{good, done}
use Rattle.decomposition.specs.Pair.{polynomial_checks, polynomial_number, decomposition_checks, decomposition_number}

-- ---- what holds of a call that is not refused

pub record PolynomialGood (p : Params) (la lb r lo : ℕ) : Type 0 where
  pub range : params_number p ≡ 0
  pub first : la ≡ size p
  pub second : lb ≡ size p
  pub into : lo ≡ size p
  pub row : r < p.l + p.l

pub polynomial_good : (p : Params) (la lb r lo : ℕ) → polynomial_number p la lb r lo ≡ 0 → PolynomialGood p la lb r lo
unfolding polynomial_number
polynomial_good p la lb r lo e =
    let f = good p (polynomial_checks p la lb r lo) refl e in
    record { range = f.0; first = f.1.0; second = f.1.1.0; into = f.1.1.1.0; row = f.1.1.1.1.0 }

pub record DecompositionGood (p : Params) (la lb lo : ℕ) : Type 0 where
  pub range : params_number p ≡ 0
  pub first : la ≡ size p
  pub second : lb ≡ size p
  pub into : lo ≡ (p.l + p.l) * size p

pub decomposition_good : (p : Params) (la lb lo : ℕ) → decomposition_number p la lb lo ≡ 0 → DecompositionGood p la lb lo
unfolding decomposition_number
decomposition_good p la lb lo e = let f = good p (decomposition_checks p la lb lo) refl e in record { range = f.0; first = f.1.0; second = f.1.1.0; into = f.1.1.1.0 }

-- ---- for callers: good arguments are not refused

pub polynomial_done : (p : Params) (la lb r lo : ℕ) → PolynomialGood p la lb r lo → polynomial_number p la lb r lo ≡ 0
unfolding polynomial_number
polynomial_done p la lb r lo g = done p (polynomial_checks p la lb r lo) (g.range, (g.first, (g.second, (g.into, (g.row, tt)))))

pub decomposition_done : (p : Params) (la lb lo : ℕ) → DecompositionGood p la lb lo → decomposition_number p la lb lo ≡ 0
unfolding decomposition_number
decomposition_done p la lb lo g = done p (decomposition_checks p la lb lo) (g.range, (g.first, (g.second, (g.into, tt))))
