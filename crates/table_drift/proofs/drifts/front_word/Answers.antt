-- `table_drift::drifts::front_word` meets its contract: the scratch has room for two polynomials.
-- Assumes nothing.
use mathlib.Core.Path.{◌≡◌, sym, ap, ◌∙◌}
use Prim.Native.Nat.{◌≤◌}
use native.Mathlib.Omega.{arith}
use Rattle.params.specs.declared.Params.{Params}
use Rattle.params.specs.declared.Sizes.{Sizes}
use Rattle.params.specs.Ranges.{InRange}
use Rattle.params.specs.Sizes.{size, sizes_in}
use Rattle.params.proofs.Ranges.{size_to}
use Rattle.words.proofs.Scratch.{scratch}
use Rattle.table_drift.proofs.drifts.front_word.Goals as goal

-- a polynomial fits the scratch
room : (p : Params) → InRange p → {s : Sizes} → s ≡ sizes_in p → s.size ≤ 1024
room p r e = let h = ap (λ (s : Sizes). s.size) e in let k = size_to p r in omega arith

pub slice_bounds-va-end : goal.slice_bounds-va-end
slice_bounds-va-end c = room _ c.p.invariant.0 c.p.invariant.1

pub slice_bounds-front_on-end : goal.slice_bounds-front_on-end
slice_bounds-front_on-end c = sym (scratch 1024 _ (room _ c.p.invariant.0 c.p.invariant.1))

pub slice_bounds-vb-end : goal.slice_bounds-vb-end
slice_bounds-vb-end c = room _ c.p.invariant.0 c.p.invariant.1

pub slice_bounds-front_on-end-2 : goal.slice_bounds-front_on-end-2
slice_bounds-front_on-end-2 c = sym (scratch 1024 _ (room _ c.p.invariant.0 c.p.invariant.1))

pub front_on-requires : goal.front_on-requires
front_on-requires c =
    let h = c.requires in
    let x = scratch 1024 _ (room _ c.p.invariant.0 c.p.invariant.1) ∙ ap (λ (s : Sizes). s.size) c.p.invariant.1 ∙ ap size c.p.view_is in
    (h.0, h.1, x, x, h.2)
