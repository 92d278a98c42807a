-- The slice takes a byte more than the longest text that is read whole: where it was not filled, the text is none of the longer ones.
use Rattle.std.proofs.Common.{rules}
use Rattle.from_bristol.proofs.Longer.{read_whole}
use Rattle.from_bristol.proofs.write_circuit.Goals as goal

pub returns-clause-nothing : goal.returns-clause-nothing
returns-clause-nothing g c = read_whole c.write_told.result (g.R.Read.remaining c.args.input.now) c.read_up_to.new.buffer c.in_ok-n.n _ (search rules) (search rules) c.in_ok-n.ensures.first

pub returns-clause-longer : goal.returns-clause-longer
returns-clause-longer g c = read_whole c.write_told.result (g.R.Read.remaining c.args.input.now) c.read_up_to.new.buffer c.in_ok-n.n _ (search rules) (search rules) c.in_ok-n.ensures.first
