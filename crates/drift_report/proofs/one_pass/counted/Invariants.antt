use mathlib.Core.Path.{◌≡◌}
use Rattle.ring.specs.Sums.{tab}
use Rattle.drift_report.specs.Leader.{leader_to}
use Rattle.drift_report.specs.Report.{sizes, count_to}
use Rattle.drift_report.proofs.one_pass.counted.Given as goal

abbrev pub invariant-loop-i : goal.invariant-loop-i
invariant-loop-i l = (l.counts ≡ tab sizes (count_to l.drifts l.i)) × (l.leader ≡ leader_to l.drifts l.i)
