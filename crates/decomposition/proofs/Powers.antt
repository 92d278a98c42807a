-- The powers of 2 that a digit is cut out with are words, for parameters in range.
-- Assumes nothing.
use mathlib.Core.Path.{◌≡◌}
use Prim.Native.Nat.{ℕ, ◌+◌, ◌-◌, ◌*◌, ◌%◌, ◌^◌, ◌≤◌, ◌<◌}
use native.Mathlib.Nat.{mul-le-mul_right}
use native.Mathlib.Omega.{arith}
use lib.Pow.{pow_pos}
use Rattle.ring.specs.Word.{Q}
use Rattle.ring.proofs.Words.{power_below}
use Rattle.params.specs.declared.Params.{Params}
use Rattle.params.specs.Ranges.{InRange}

module _ (p : Params) (r : InRange p) where
  -- digit i ends within the word
  pub digit_ends : (i : ℕ) → i < p.l → (i + 1) * p.bgbit ≤ 32
  digit_ends i h = omega (arith, mul-le-mul_right p.bgbit h, r)

  pub low_power : (i : ℕ) → i < p.l → 2 ^ (32 - (i + 1) * p.bgbit) % Q ≡ 2 ^ (32 - (i + 1) * p.bgbit)
  low_power i h = power_below (32 - (i + 1) * p.bgbit) (let b = r.bgbit_from in omega (arith, digit_ends i h))

  pub wide_power : 2 ^ p.bgbit % Q ≡ 2 ^ p.bgbit
  wide_power = power_below p.bgbit (omega (arith, r))

  pub half_power : 2 ^ (p.bgbit - 1) % Q ≡ 2 ^ (p.bgbit - 1)
  half_power = power_below (p.bgbit - 1) (omega (arith, r))

pub some : (s : ℕ) → 0 < 2 ^ s
some s = pow_pos s
