-- `trgsw::external_product` meets its contract: what is added to nothing is the sum itself.
-- Assumes nothing.
use Rattle.std.proofs.Common.{rules, ◌∙◌}
use Rattle.trgsw.proofs.Sums.{alone_a, alone_b}
use Rattle.trgsw.proofs.external_product.Goals as goal

pub returns-clause-first : goal.returns-clause-first
returns-clause-first c = let e = (rw c.fill.ensures at c.add_external.ensures.outa_after) ∙ alone_a _ _ _ _ c.in_ok-p.ensures.good.into_a in search rules

pub returns-clause-second : goal.returns-clause-second
returns-clause-second c = let e = (rw c.fill-2.ensures at c.add_external.ensures.outb_after) ∙ alone_b _ _ _ _ c.in_ok-p.ensures.good.into_b in search rules
