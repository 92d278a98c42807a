-- `report::refused` meets its contract: the line is spliced in at the very front.
-- Assumes nothing.
use mathlib.Core.Path.{◌∙◌}
use Rattle.report.specs.Text.{refused_line}
use Rattle.report.proofs.Spliced.{splice_front}
use Rattle.report.proofs.refused.Goals as goal

pub returns-clause-written : goal.returns-clause-written
returns-clause-written c =
    let a = c.args in
    let e = c.put_refused.ensures in
    e.out_after ∙ splice_front a.out.now (refused_line a.number a.place)
