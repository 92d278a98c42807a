-- `bristol::lines::line` meets its contract: each token is read where the one before it ends.
-- Assumes nothing.
use Rattle.bristol.proofs.TextLines.{past_one, past_two, line_is}
use Rattle.bristol.proofs.lines.line.Goals as goal

pub after-results-requires : goal.after-results-requires
after-results-requires c =
    let at = c.next-r.result.end in
    let text = c.args.text.now in
    (past_one text at c.next-a.result c.next-a.ensures, past_two text at c.next-a.result c.next-b.result c.next-a.ensures c.next-b.ensures)

pub after_one-requires : goal.after_one-requires
after_one-requires c = past_one c.args.text.now c.after-results.result c.next-c.result c.next-c.ensures

pub returns : goal.returns
returns c =
    let a = c.args in
    line_is a.text.now a.p c.after-results.result c.after_one.result c.next-k.result c.next-r.result c.next-a.result c.next-b.result
    c.next-c.result c.name-n.result c.next-k.ensures c.next-r.ensures c.next-a.ensures c.next-b.ensures c.after-results.ensures
    c.next-c.ensures c.after_one.ensures c.name-n.ensures
