use Rattle.bristol.proofs.PutGates.{GatesPut}
use Rattle.bristol.proofs.gates.put_gates.Given as goal

abbrev pub invariant-loop-j : goal.invariant-loop-j
invariant-loop-j l = GatesPut l.text l.initial.out l.j l.p l.before l.at l.table l.out
