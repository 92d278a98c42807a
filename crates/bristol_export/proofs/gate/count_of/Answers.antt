-- `bristol_export::gate::count_of` meets its contract: the table's column, tested whole.
-- Assumes nothing.
use Rattle.bristol_export.proofs.Columns.{count_entry}
use Rattle.bristol_export.proofs.gate.count_of.Goals as goal

pub returns : goal.returns
returns c = let e = count_entry c.args.kind c.requires in (e.0, e.1, e.2)
