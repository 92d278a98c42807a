use mathlib.Core.Path.{◌≡◌}
use lib.ListN.{length}
use Rattle.report.specs.Text.{rows_to}
use Rattle.report.proofs.Pieces.{Written}
use Rattle.report.proofs.lines.put_rows.Given as goal

abbrev pub invariant-loop-r : goal.invariant-loop-r
invariant-loop-r l = (length l.out ≡ length l.initial.out) × Written l.initial.out l.at (rows_to l.bytes l.r) l.out l.to
