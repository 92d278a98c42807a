-- `report::lines::two_to` meets its contract: the power loses nothing modulo 2^32, since i is at most 4.
-- Assumes nothing.
use mathlib.Core.Path.{◌∙◌}
use native.Mathlib.Nat.{mod-eq_of_lt}
use native.Mathlib.Omega.{arith}
use lib.Pow.{pow-lt}
use Rattle.ring.specs.Word.{Q}
use Rattle.report.proofs.lines.two_to.Goals as goal

pub returns : goal.returns
unfolding Q
returns c = c.power.ensures ∙ mod-eq_of_lt (pow-lt {i = c.args.i} {j = 32} (omega arith))
