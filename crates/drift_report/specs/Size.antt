-- The size of a drift, in bits (02, 2026-05).
use Rattle.std.specs.Prelude.{ℕ, ◌-◌}
use Rattle.std.specs.Int.Count.{count_leading_zeros}
use Rattle.drift_size.specs.Size.{magnitude}

-- A drift's size: 32 less the leading zeros of its absolute value. So 0 has size 0, and -2^31 has 32.
unfoldable pub bits_of : ℕ → ℕ
bits_of drift = 32 - count_leading_zeros 32 (magnitude drift)
