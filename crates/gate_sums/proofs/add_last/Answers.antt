-- `gate_sums::add_last` meets its contract: one store.
-- Assumes nothing.
use Rattle.std.proofs.Common.{rules}
use Rattle.ring.specs.Word.{Q}
use Rattle.gate_sums.proofs.Sums.{last_added}
use Rattle.gate_sums.proofs.add_last.Goals as goal

pub returns : goal.returns
unfolding Q
returns c = last_added c.args.out.now c.args.c c.add.result c.requires (λ i. search rules) c.add.ensures
