-- `drift_run::by_way::way_drift` meets its contract: by the way.
-- Assumes nothing.
use mathlib.Core.Path.{sym, ap, ◌∙◌}
use mathlib.Core.List.{[]}
use Prim.Native.Nat.{ℕ}
use Rattle.ways.specs.declared.Way.{Way}
use Rattle.ways.specs.Ways.{rotations_of, rotation_sum}
use Rattle.drift.specs.PrivateCircuit.{way_brought_words}
use Rattle.drift.specs.PrivateShort.{carried_word, short_word}
use Rattle.drift_run.specs.Private.{drifted}
use Rattle.drift_run.proofs.by_way.way_drift.Goals as goal

pub returns-in-Known : goal.returns-in-Known
unfolding short_word way_brought_words rotations_of rotation_sum carried_word
returns-in-Known c =
    let g = c.args in
    let p = g.p in
    c.gathered.ensures ∙ ap (λ (d : ℕ). drifted d []) c.known.ensures ∙ ap (λ (w : Way). drifted (short_word p g.key.now w g.a.now g.b.now g.c.now g.da g.own.now) (way_brought_words p g.key.now w g.a.now g.b.now g.c.now g.da g.db g.dc)) (sym c.in-Known.is)

pub returns-in-Negated : goal.returns-in-Negated
unfolding short_word way_brought_words rotations_of rotation_sum carried_word
returns-in-Negated c =
    let g = c.args in
    let p = g.p in
    c.gathered-in-Negated.ensures ∙ ap (λ (d : ℕ). drifted d []) c.negated.ensures ∙ ap (λ (w : Way). drifted (short_word p g.key.now w g.a.now g.b.now g.c.now g.da g.own.now) (way_brought_words p g.key.now w g.a.now g.b.now g.c.now g.da g.db g.dc)) (sym c.in-Negated.is)

pub returns-in-Gate : goal.returns-in-Gate
unfolding short_word way_brought_words rotations_of rotation_sum carried_word
returns-in-Gate c =
    let g = c.args in
    let p = g.p in
    c.one.ensures ∙ ap (λ (w : Way). drifted (short_word p g.key.now w g.a.now g.b.now g.c.now g.da g.own.now) (way_brought_words p g.key.now w g.a.now g.b.now g.c.now g.da g.db g.dc)) (sym c.in-Gate.is)

pub returns-in-NegatedGate : goal.returns-in-NegatedGate
unfolding short_word way_brought_words rotations_of rotation_sum carried_word
returns-in-NegatedGate c =
    let g = c.args in
    let p = g.p in
    c.one-in-NegatedGate.ensures ∙ ap (λ (w : Way). drifted (short_word p g.key.now w g.a.now g.b.now g.c.now g.da g.own.now) (way_brought_words p g.key.now w g.a.now g.b.now g.c.now g.da g.db g.dc)) (sym c.in-NegatedGate.is)

pub returns-in-Choice : goal.returns-in-Choice
unfolding short_word way_brought_words rotations_of rotation_sum carried_word
returns-in-Choice c =
    let g = c.args in
    let p = g.p in
    c.choice.ensures ∙ ap (λ (w : Way). drifted (short_word p g.key.now w g.a.now g.b.now g.c.now g.da g.own.now) (way_brought_words p g.key.now w g.a.now g.b.now g.c.now g.da g.db g.dc)) (sym c.in-Choice.is)
