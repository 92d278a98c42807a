-- `report::text::put_byte` meets its contract: a byte stored is a piece of one byte.
-- Assumes nothing.
use Rattle.report.proofs.Spliced.{splice_one}
use Rattle.report.proofs.text.put_byte.Goals as goal

pub returns-clause-out_after : goal.returns-clause-out_after
returns-clause-out_after c = splice_one c.args.out.now c.args.at c.args.b c.requires
