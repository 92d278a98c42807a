use Rattle.blind_rotation.proofs.Steps.{pair, Stepped}
use Rattle.blind_rotation.proofs.all_steps.Given as goal

abbrev pub invariant-loop-i : goal.invariant-loop-i
invariant-loop-i l = Stepped l.p l.key l.src (pair l.initial.a l.initial.b) l.i l.ta l.tb l.a l.b
