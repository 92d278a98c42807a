-- `drift_run::by_way::one` meets its contract: the wire's phase less what the rotation's side put into it.
-- Assumes nothing.
use mathlib.Core.Path.{ap₂, ◌∙◌}
use mathlib.Core.List.{[], ◌∷◌}
use Prim.Native.Nat.{ℕ}
use Rattle.drift_run.specs.Private.{drifted}
use Rattle.drift_run.proofs.Told.{one_made}
use Rattle.drift_run.proofs.by_way.one.Goals as goal

pub returns : goal.returns
returns c =
    let g = c.args in
    c.gathered.ensures
    ∙ ap₂ (λ (d x : ℕ). drifted d (x ∷ []))
    (one_made g.p g.kind g.negated g.key.now g.a.now g.b.now g.own.now g.da c.phase.ensures c.rotation-t.ensures.side c.carried.ensures c.sub-drift.ensures)
    c.rotation-t.ensures.brought
