use Rattle.bristol_form.proofs.Carried.{Carried}
use Rattle.bristol_form.proofs.form.all_gates.Given as goal

abbrev pub invariant-loop-j : goal.invariant-loop-j
invariant-loop-j l = Carried l.text l.bits l.h.gates l.j l.at l.set l.made l.limit
