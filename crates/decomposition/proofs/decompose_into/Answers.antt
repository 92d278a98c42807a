-- `decomposition::decompose_into` meets its contract: each turn writes the next digit polynomial behind the others.
-- Assumes nothing.
use Rattle.std.proofs.Common.{◌+◌, ◌*◌, ◌<◌, ◌≤◌, length}
use native.Mathlib.Omega.{arith}
use Rattle.ring.proofs.Joins.{joined_none, joined_done}
use Rattle.ring.specs.Pair.{Pair}
use Rattle.params.specs.Sizes.{size}
use Rattle.key.proofs.Rows.{row_ends, sized, one_more}
use Rattle.decomposition.specs.Pair.{pair_digit, decomposed}
use Rattle.decomposition.proofs.Flat.{length_pair}
use Rattle.decomposition.proofs.decompose_into.Goals as goal

pub loop-r-init : goal.loop-r-init
loop-r-init c = let g = c.args in joined_none (size g.p) (pair_digit g.p (record { a = g.a.now; b = g.b.now })) g.out.now

pub slice_bounds-pair_digits_into-end : goal.slice_bounds-pair_digits_into-end
slice_bounds-pair_digits_into-end c =
    let p = c.args.p in
    let l = c.loop-r in
    let d = sized c.p.view_is c.p.invariant in
    let within : l.r < p.l + p.l = rw c.p.view_is at c.loop-r-test.true in
    let e = row_ends l.r (p.l + p.l) (size p) within in
    let ends : l.r * c.p.inside.sizes.size + c.p.inside.sizes.size ≤ length l.out = rw d.poly (omega (arith, e, l.auto.out, c.requires.out)) in
    omega (arith, ends)

pub loop-r-preserved : goal.loop-r-preserved
loop-r-preserved c =
    let g = c.args in
    let l = c.loop-r in
    let d = sized c.p.view_is c.p.invariant in
    let x : Pair = record { a = g.a.now; b = g.b.now } in
    one_more (size g.p) (pair_digit g.p x) g.out.now l.r d.poly l.invariant c.pair_digits_into.ensures (length_pair g.p x l.r)

pub returns : goal.returns
unfolding decomposed
returns c =
    let g = c.args in
    let l = c.loop-r in
    joined_done (size g.p) (pair_digit g.p (record { a = g.a.now; b = g.b.now })) g.out.now l.r l.invariant.0 l.invariant.1 (g.p.l + g.p.l)
    (rw c.p.view_is at l.auto.r-end) (rw c.p.view_is at c.loop-r-test.false) c.requires.out
