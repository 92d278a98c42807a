-- `bootstrapping::rows::put` meets its contract: a copy, and c added to the first word.
-- Assumes nothing.
use Rattle.std.proofs.Common.{ℕ, List, [], ◌∷◌, ap, ◌∙◌}
use lib.ListN.{set}
use Rattle.ring.specs.Word.{Q}
use Rattle.ring.specs.Poly.{plus}
use Rattle.words.proofs.Loops.{copied_all}
use Rattle.bootstrapping.proofs.Parts.{first_added}
use Rattle.bootstrapping.proofs.rows.put.Goals as goal

pub returns : goal.returns
unfolding Q
returns c =
    let a = c.args.source.now in
    let l = c.requires.0 in
    ap (λ (x : List ℕ). set x 0 c.add.result) (c.copy.ensures ∙ copied_all a _ l)
    ∙ first_added a c.args.c (rw l c.requires.1) (λ x. (c.type_inv.source x).fits) c.add.ensures
    ∙ ap (λ (k : ℕ). plus k a (c.args.c ∷ [])) l
