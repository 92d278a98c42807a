use Rattle.bristol.proofs.PutGates.{OutputsPut}
use Rattle.bristol.proofs.gates.put_outputs.Given as goal

abbrev pub invariant-loop-o : goal.invariant-loop-o
invariant-loop-o l = OutputsPut l.text l.initial.out l.at l.o l.out
