use Rattle.ring.specs.Lists.{joined}
use Rattle.bristol_export.specs.Text.{output_text}
use Rattle.bristol_export.proofs.Laid.{Put}
use Rattle.bristol_export.proofs.whole.put_outputs.Given as goal

abbrev pub invariant-loop-o : goal.invariant-loop-o
invariant-loop-o l = Put l.initial.out l.at (joined l.o (output_text l.bytes)) l.out l.to
