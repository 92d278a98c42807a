-- `words::add_times` meets its contract: what `combine` leaves is the sum.
-- Assumes nothing.
use Rattle.std.proofs.Common.{◌+◌, ◌*◌, ◌%◌, arith, rules}
use Rattle.ring.specs.Word.{Q}
use Rattle.words.proofs.Loops.{combined}
use Rattle.words.proofs.add_times.Goals as goal

pub returns : goal.returns
unfolding Q
returns c =
    let r = c.combine in
    let g = c.args in
    combined (λ o w. (o + g.x * w) % Q) g.a.now g.out.now r.ensures.len (λ k h h'. let q = r.ensures.both k h h' in search rules) r.ensures.rest (λ k. let h = (c.type_inv.out k).fits in omega arith)
