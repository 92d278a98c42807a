-- `bristol::ours::line_back` meets its contract: it reads back what the definition reads, in the same order.
-- Assumes nothing.
use Rattle.bristol.proofs.BehindSteps.{line_made}
use Rattle.bristol.proofs.ours.line_back.Goals as goal

pub returns : goal.returns
returns c =
    let x = c.args in
    line_made x.text.now x.end c.back-n.ensures c.back-c.ensures c.back-a.ensures c.name-named.ensures c.next-set.ensures c.next-last.ensures c.first_back-first.ensures
    c.back-r.ensures c.back-k.ensures
