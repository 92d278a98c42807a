use mathlib.Core.Path.{◌≡◌}
use mathlib.Core.List.{◌++◌}
use lib.ListN.{drop}
use Rattle.ring.specs.Word.{at}
use Rattle.ring.specs.Sums.{tab}
use Rattle.ways.specs.Ciphers.{cipher_at}
use Rattle.drift.specs.PrivateWords.{fresh_word}
use Rattle.ring.specs.Bit.{truth}
use Rattle.drift_run.proofs.gates_of.inputs_into.Given as goal

abbrev pub invariant-loop-i : goal.invariant-loop-i
invariant-loop-i l = l.drifts ≡ tab l.i (λ k. fresh_word l.p l.key (cipher_at l.p l.ins k) (truth (at l.plain k))) ++ drop l.i l.initial.drifts
