use Rattle.ring.specs.Lists.{joined}
use Rattle.bristol_export.specs.Text.{step_text}
use Rattle.bristol_export.proofs.Laid.{Put}
use Rattle.bristol_export.proofs.gate.put_steps.Given as goal

abbrev pub invariant-loop-s : goal.invariant-loop-s
invariant-loop-s l = Put l.initial.out l.at (joined l.s (step_text l.kind l.a l.b l.c l.n)) l.out l.to
