-- `bootstrapping::rows::weighted` meets its contract: products modulo 2^32 go by their factors.
-- Assumes nothing.
use Rattle.std.proofs.Common.{ℕ, ◌*◌, ◌%◌, ap, ◌∙◌}
use Rattle.ring.specs.Word.{Q}
use Rattle.ring.proofs.Words.{mul-mod_r}
use Rattle.decomposition.specs.Digit.{digit_weight}
use Rattle.bootstrapping.proofs.rows.weighted.Goals as goal

pub returns : goal.returns
unfolding digit_weight
returns c = rw c.p.view_is at (c.mul.ensures ∙ ap (λ (x : ℕ). c.args.m * x % Q) c.power.ensures ∙ mul-mod_r c.args.m _)
