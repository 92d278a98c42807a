-- `drift_run::rotations::weighted` meets its contract: remainders of products add up.
-- Assumes nothing.
use mathlib.Core.Path.{sym, ap₂, ◌∙◌}
use Prim.Native.Nat.{ℕ, ◌+◌, ◌%◌}
use native.Mathlib.Nat.{add-mod}
use Rattle.ring.specs.Word.{Q}
use Rattle.drift_run.proofs.rotations.weighted.Goals as goal

pub returns : goal.returns
returns c = c.add.ensures ∙ ap₂ (λ (x y : ℕ). (x + y) % Q) c.mul.ensures c.mul-2.ensures ∙ sym (add-mod _ _ Q)
