-- `ring::power` meets its contract: below 32 the shift is the power, and from 32 on the power is a multiple of 2^32.
-- Assumes nothing.
use Rattle.std.proofs.Common.{ℕ, ◌%◌, ◌^◌, ap, one-mul}
use Rattle.ring.specs.Word.{Q}
use Rattle.ring.proofs.Words.{power_past}
use Rattle.ring.proofs.power.Goals as goal

pub returns-then-s-ge32 : goal.returns-then-s-ge32
unfolding Q
returns-then-s-ge32 c = power_past c.args.s c.if-s-ge32.true

pub returns : goal.returns
unfolding Q
returns c = ap (λ (x : ℕ). x % 4294967296) (one-mul (2 ^ c.args.s))
