-- The zeros are as many as it says, by the law of `replicate` and not by counting them.
use Rattle.std.proofs.Common.{sym, ℕ}
use lib.ListN.{length-replicate}
use Rattle.from_bristol.proofs.buffer.Goals as goal

pub returns : goal.returns
returns c = sym (length-replicate {0} {A = ℕ} 1048577 0)
