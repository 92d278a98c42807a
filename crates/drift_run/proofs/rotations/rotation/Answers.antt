-- `drift_run::rotations::rotation` meets its contract: the scratch has room for a sum, the place tells the side, and the operands' drifts and what rounding brings in are brought in.
-- Assumes nothing.
use mathlib.Core.Path.{◌≡◌, sym, ap, ap₂, ◌∙◌}
use Prim.Native.Nat.{ℕ, ◌+◌, ◌*◌, ◌%◌, ◌≤◌}
use native.Mathlib.Omega.{arith}
use lib.Dec.{ltb}
use Rattle.ring.specs.Word.{Q}
use Rattle.params.specs.declared.Params.{Params}
use Rattle.params.specs.declared.Sizes.{Sizes}
use Rattle.params.specs.Ranges.{InRange}
use Rattle.params.specs.Sizes.{size}
use Rattle.words.proofs.Scratch.{scratch}
use Rattle.gate_sums.specs.declared.Weights.{Weights}
use Rattle.gate_sums.specs.Sum.{summed}
use Rattle.drift.specs.PrivateShort.{side_of}
use Rattle.drift_run.proofs.Turned.{brought_is}
use Rattle.drift_run.proofs.rotations.rotation.Goals as goal

-- a sum's words, of which the scratch has room for 1,101
words_are : {s : ℕ} (p : Params) → InRange p → s ≡ p.n + 1 → s ≤ 1101
words_are p r e = omega (arith, r, e)

pub slice_bounds-sum-end : goal.slice_bounds-sum-end
slice_bounds-sum-end c = words_are c.p.inside.params c.p.invariant.0 (ap (λ (s : Sizes). s.level0) c.p.invariant.1)

pub slice_bounds-front_of-end : goal.slice_bounds-front_of-end
slice_bounds-front_of-end c = sym (scratch 1101 _ (words_are c.p.inside.params c.p.invariant.0 (ap (λ (s : Sizes). s.level0) c.p.invariant.1)))

pub front_of-front-requires : goal.front_of-front-requires
front_of-front-requires c =
    let words : c.p.inside.sizes.level0 ≡ c.args.p.n + 1 = ap (λ (s : Sizes). s.level0) c.p.invariant.1 ∙ ap (λ (p : Params). p.n + 1) c.p.view_is in
    let h = c.requires in
    (h.0, h.1, h.2, scratch 1101 _ (words_are c.p.inside.params c.p.invariant.0 (ap (λ (s : Sizes). s.level0) c.p.invariant.1)) ∙ words)

pub returns-clause-side : goal.returns-clause-side
unfolding side_of
returns-clause-side c = ap₂ (λ (x y : ℕ). ltb x y) c.front_of-front.ensures.place (ap (λ (s : Sizes). s.size) c.p.invariant.1 ∙ ap size c.p.view_is)

pub returns-clause-brought : goal.returns-clause-brought
returns-clause-brought c =
    let g = c.args in
    brought_is g.p g.kind g.key.now (summed g.p g.kind g.a.now g.b.now) g.da g.db
    (c.weighted.ensures ∙ ap (λ (v : Weights). (v.a * g.da + v.b * g.db) % Q) c.weights_of.ensures) c.front_of-front.ensures.rounding c.add.ensures
