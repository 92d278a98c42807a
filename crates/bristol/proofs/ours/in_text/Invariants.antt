use Rattle.bristol.proofs.BehindSteps.{Left}
use Rattle.bristol.proofs.ours.in_text.Given as goal

abbrev pub invariant-loop : goal.invariant-loop
invariant-loop l = Left l.text l.j l.w l.wire l.count l.at l.counter
