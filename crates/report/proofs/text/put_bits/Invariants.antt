use mathlib.Core.Path.{◌≡◌}
use lib.ListN.{length, get_or}
use Rattle.ring.specs.Sums.{tab}
use Rattle.report.specs.Private.{splice}
use Rattle.report.specs.Text.{bit_char}
use Rattle.report.proofs.text.put_bits.Given as goal

abbrev pub invariant-loop-i : goal.invariant-loop-i
invariant-loop-i l = (length l.out ≡ length l.initial.out) × (l.out ≡ splice l.initial.out l.at (tab l.i (λ j. bit_char (get_or l.bits j 0))))
