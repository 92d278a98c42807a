-- `drift_run::by_way::gathered` meets its contract: `all` and `fold` over the drifts.
-- Assumes nothing.
use Rattle.std.proofs.Common.{rules, ◌≡◌, ◌∙◌}
use Rattle.std.proofs.lemmas.Iterator.{YieldsList-from_slice}
use Rattle.std.proofs.lemmas.Iterator.Search.{all_from_yields_List}
use Rattle.std.proofs.lemmas.Iterator.Consumers.{fold_from_yields_List}
use Rattle.drift.specs.PrivateCircuit.{all_words, worst_words}
use Rattle.drift_size.specs.Size.{inside_word, worse_word}
use Rattle.drift_run.proofs.Told.{all_are, worst_is}
use Rattle.drift_run.proofs.by_way.gathered.Goals as goal

pub returns : goal.returns
returns c =
    let ds = c.args.brought.now in
    let inside : c.all.result ≡ all_words ds = all_from_yields_List inside_word _ _ c.all.result c.all.ensures.ran (YieldsList-from_slice ds c.iter.ensures.rest) (λ x b q k. search rules) ∙ all_are ds in
    let worst : c.fold.result ≡ worst_words 0 ds =
    fold_from_yields_List _ worse_word 0 c.fold.result c.fold.ensures.ran (YieldsList-from_slice ds c.iter-2.ensures.rest) (λ w x b q k. search rules) ∙ worst_is 0 ds in
    λ i. record { drift = c.args.drift; inside = inside i; worst = worst i }
