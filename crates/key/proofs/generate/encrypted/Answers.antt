-- `key::generate::encrypted` meets its contract: the masks, and behind them the sum of the three.
-- Assumes nothing.
use Rattle.std.proofs.Common.{ap, ap₂, ◌∙◌, ℕ, List, [], ◌∷◌, ◌++◌}
use native.Mathlib.Omega.{arith}
use Rattle.words.proofs.Loops.{copied_all}
use Rattle.key.proofs.Draws.{body_code, last_set}
use Rattle.key.proofs.generate.encrypted.Goals as goal

pub returns : goal.returns
returns c =
    let g = c.args in
    ap₂ (λ (x y : List ℕ). x ++ y) (c.copy.ensures ∙ copied_all g.masks.now _ (omega arith))
    (last_set _ _ (omega arith) ∙ ap (λ (x : ℕ). x ∷ []) (body_code _ g.word g.noise c.masks_sum.ensures c.add.ensures c.add-2.ensures))
