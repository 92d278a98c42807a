-- The decomposition offset as a rule, without a sum, for reviewers of parameter sets (02, 2026-04).
use Rattle.std.specs.Prelude.{ℕ, ◌+◌, ◌-◌, ◌*◌, ◌/◌, ◌^◌}
use Rattle.params.specs.declared.Params.{Params}

-- 2^(31 + BGBIT - L·BGBIT)·(2^(L·BGBIT) - 1)/(2^BGBIT - 1), in whole numbers: nothing wraps. BGBIT is added first: at L·BGBIT 32 the
-- difference 31 - L·BGBIT is below 0, where `-` stops at 0. For parameters in range it is `offset`, and the division leaves no remainder: proofs/OffsetRule.antt.
unfoldable pub offset_rule : Params → ℕ
offset_rule p = 2 ^ (31 + p.bgbit - p.l * p.bgbit) * (2 ^ (p.l * p.bgbit) - 1) / (2 ^ p.bgbit - 1)
