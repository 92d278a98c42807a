-- `bristol::bytes::put_mark` meets its contract: three bytes stored are three bytes laid.
-- Assumes nothing.
use native.Mathlib.Omega.{arith}
use Rattle.bristol.proofs.Laid.{laid_three}
use Rattle.bristol.proofs.bytes.put_mark.Goals as goal

pub returns : goal.returns
returns c = laid_three c.args.out.now 69 71 76 (omega arith)
