use Rattle.std.proofs.Common.{◌≡◌, ◌++◌, drop}
use Rattle.ring.specs.Word.{at}
use Rattle.ring.specs.Sums.{tab}
use Rattle.tlwe.specs.Plain.{bit_word}
use Rattle.ring.specs.Bit.{truth}
use Rattle.trlwe.proofs.loops.bits_into.Given as goal

abbrev pub invariant-loop-i : goal.invariant-loop-i
invariant-loop-i l = l.out ≡ tab l.i (λ j. bit_word (truth (at l.plain j))) ++ drop l.i l.initial.out
