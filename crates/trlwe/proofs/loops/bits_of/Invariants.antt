use Rattle.std.proofs.Common.{◌≡◌, ◌++◌, ◌+◌, ◌%◌, drop}
use Rattle.ring.specs.Word.{Q, at, neg}
use Rattle.ring.specs.Sums.{tab}
use Rattle.tlwe.specs.Decrypt.{bit_of}
use Rattle.ring.specs.Bit.{bit_number}
use Rattle.trlwe.proofs.loops.bits_of.Given as goal

abbrev pub invariant-loop-i : goal.invariant-loop-i
invariant-loop-i l = l.out ≡ tab l.i (λ j. bit_number (bit_of ((at l.b j + neg (at l.az j)) % Q))) ++ drop l.i l.initial.out
