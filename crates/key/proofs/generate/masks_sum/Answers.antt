-- `key::generate::masks_sum` meets its contract: the loop's word is the sum so far.
-- Assumes nothing.
use Rattle.std.proofs.Common.{ap, ◌∙◌, ℕ, ◌%◌}
use native.Mathlib.Nat.{mod-mod}
use Rattle.ring.specs.Word.{Q}
use Rattle.ring.specs.Phase.{inner}
use Rattle.ring.proofs.SumLaws.{sum_none, sum_step, sum_done}
use Rattle.key.proofs.generate.masks_sum.Goals as goal

pub loop-i-init : goal.loop-i-init
loop-i-init c = sum_none _

pub loop-i-preserved : goal.loop-i-preserved
loop-i-preserved c = let l = c.loop-i in sum_step _ l.i _ l.invariant (ap (λ (x : ℕ). x % Q) c.mul.ensures ∙ mod-mod _ Q) c.add-sum.ensures

pub returns : goal.returns
unfolding inner
returns c = let l = c.loop-i in sum_done _ l.auto.i-end c.loop-i-test.false l.invariant
