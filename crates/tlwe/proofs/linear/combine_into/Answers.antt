-- `tlwe::linear::combine_into` meets its contract: a loop that writes the words from the front.
-- Assumes nothing.
use Rattle.std.proofs.Common.{◌+◌, ◌*◌, ◌%◌, arith, refl, ◌∙◌}
use Rattle.ring.specs.Word.{Q, at}
use Rattle.ring.proofs.Tab.{tab_of}
use Rattle.tlwe.proofs.Sums.{as_combined}
use Rattle.tlwe.proofs.linear.combine_into.Goals as goal

pub returns : goal.returns
returns c =
    let g = c.args in
    tab_of _ _ (λ i. (g.x * at g.a.now i + g.y * at g.b.now i) % Q) c.loop-i.auto.out (λ k h. c.loop-i.invariant k (omega arith))
    ∙ as_combined _ _ _ _ _ _ (λ i l. refl)
