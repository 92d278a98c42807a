-- `trlwe::open_on` meets its contract: each bit is that of b's word less the product's.
-- Assumes nothing.
use Rattle.trlwe.proofs.Pairs.{opened}
use Rattle.trlwe.proofs.open_on.Goals as goal

pub returns : goal.returns
returns c =
    let g = c.args in
    let w = c.requires in
    opened g.p (rw c.p.view_is at c.p.invariant.0) g.a.now g.b.now g.key.now g.out.now g.az.now w.mask w.keys w.into w.scratch
    (rw c.p.view_is at c.poly_mul.ensures.written) c.bits_of.ensures
