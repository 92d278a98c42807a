use mathlib.Core.Path.{◌≡◌}
use mathlib.Core.List.{◌++◌}
use lib.ListN.{drop}
use Rattle.ring.specs.Word.{at}
use Rattle.ring.specs.Sums.{tab}
use Rattle.ring.specs.Bit.{truth, bit_number}
use Rattle.circuit.proofs.plain.put_inputs.Given as goal

abbrev pub invariant-loop-i : goal.invariant-loop-i
invariant-loop-i l = l.bits ≡ tab l.i (λ j. bit_number (truth (at l.ins j))) ++ drop l.i l.initial.bits
