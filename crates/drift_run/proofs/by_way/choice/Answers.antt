-- `drift_run::by_way::choice` meets its contract: the wire's phase less what both rotations' sides and the eighth put into it.
-- Assumes nothing.
use mathlib.Core.Path.{ap, ap₂, ◌∙◌}
use mathlib.Core.List.{List, [], ◌∷◌}
use Prim.Native.Nat.{ℕ, ◌+◌, ◌%◌}
use Rattle.ring.specs.Word.{Q, neg, eighth}
use Rattle.tlwe.specs.Plain.{bit_word}
use Rattle.drift.specs.PrivateShort.{carried_word, short_word}
use Rattle.drift_run.specs.Private.{drifted}
use Rattle.drift_run.proofs.Told.{carried_sum}
use Rattle.drift_run.proofs.by_way.choice.Goals as goal

two : ℕ → ℕ → List ℕ
two x y = x ∷ y ∷ []

pub returns : goal.returns
unfolding short_word carried_word two
returns c =
    let brought = ap₂ two c.rotation-t.ensures.brought c.rotation-u.ensures.brought in
    c.gathered.ensures
    ∙ ap₂ drifted
    (c.sub-drift.ensures ∙ ap (λ (x : ℕ). (x + neg c.add.result) % Q) c.phase.ensures
    ∙ carried_sum _ eighth (c.bit_word.ensures ∙ ap bit_word c.rotation-t.ensures.side) (c.bit_word-2.ensures ∙ ap bit_word c.rotation-u.ensures.side) c.add-sides.ensures c.add.ensures)
    brought
