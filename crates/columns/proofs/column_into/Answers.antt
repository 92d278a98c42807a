-- `columns::column_into` meets its contract: after i turns the results of the first i pairs stand one after another.
-- Assumes nothing.
use mathlib.Core.Path.{◌≡◌, sym, ap, ◌∙◌}
use Prim.Native.Nat.{◌+◌, ◌*◌, ◌≤◌}
use native.Mathlib.Nat.{mul-le-mul_right}
use native.Mathlib.Omega.{arith}
use lib.ListN.{length}
use Rattle.ring.proofs.Joins.{joined_none, joined_more, joined_done}
use Rattle.params.specs.declared.Params.{Params}
use Rattle.params.specs.declared.Sizes.{Sizes}
use Rattle.columns.specs.Column.{pair_result, column_of}
use Rattle.columns.proofs.Pairs.{result_length}
use Rattle.columns.proofs.column_into.Goals as goal

pub loop-i-init : goal.loop-i-init
loop-i-init c =
    let g = c.args in
    joined_none c.p.inside.sizes.level0 (λ r. pair_result g.p g.ksk.now g.bsk.now g.kind g.pairs.now r) g.out.now

pub slice_bounds-pair_into-end : goal.slice_bounds-pair_into-end
slice_bounds-pair_into-end c =
    let words : c.p.inside.sizes.level0 ≡ c.args.p.n + 1 = ap (λ (s : Sizes). s.level0) c.p.invariant.1 ∙ ap (λ (p : Params). p.n + 1) c.p.view_is in
    let l = c.loop-i in
    let t = c.loop-i-test.true in
    let h : l.i + 1 ≤ c.args.count = omega (arith, t) in
    let m = mul-le-mul_right c.p.inside.sizes.level0 h in
    let r : length c.args.out.now ≡ c.args.count * c.p.inside.sizes.level0 = rw words c.requires.1 in
    omega (arith, m, l.auto.out, r)

pub loop-i-preserved : goal.loop-i-preserved
loop-i-preserved c =
    let words : c.p.inside.sizes.level0 ≡ c.args.p.n + 1 = ap (λ (s : Sizes). s.level0) c.p.invariant.1 ∙ ap (λ (p : Params). p.n + 1) c.p.view_is in
    let g = c.args in
    let l = c.loop-i in
    joined_more c.p.inside.sizes.level0 (λ r. pair_result g.p g.ksk.now g.bsk.now g.kind g.pairs.now r) g.out.now l.i l.invariant.0 l.invariant.1 c.pair_into.new.out c.pair_into.ensures
    (ap length c.pair_into.ensures ∙ result_length g.p g.ksk.now g.bsk.now g.kind g.pairs.now l.i ∙ sym words)

pub returns : goal.returns
unfolding column_of
returns c =
    let words : c.p.inside.sizes.level0 ≡ c.args.p.n + 1 = ap (λ (s : Sizes). s.level0) c.p.invariant.1 ∙ ap (λ (p : Params). p.n + 1) c.p.view_is in
    let g = c.args in
    let l = c.loop-i in
    joined_done c.p.inside.sizes.level0 (λ r. pair_result g.p g.ksk.now g.bsk.now g.kind g.pairs.now r) g.out.now l.i l.invariant.0 l.invariant.1 g.count (omega arith) (omega arith)
    (rw words c.requires.1)
