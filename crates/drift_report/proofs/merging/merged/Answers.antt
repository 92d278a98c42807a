-- `drift_report::merging::merged` meets its contract: counts are added by `words::add`, and the leader is that of both.
-- Assumes nothing.
use mathlib.Core.Path.{◌≡◌, ap, ap₂, ◌∙◌}
use mathlib.Core.List.{List}
use Prim.Native.Nat.{ℕ, ◌+◌}
use borrow.Author.Rules.{rules}
use lib.ListN.{length}
use Rattle.ring.specs.Poly.{plus}
use Rattle.drift_report.specs.declared.leading.Leader.{Leader}
use Rattle.drift_report.specs.Leader.{lead_of}
use Rattle.drift_report.specs.Merge.{leader, merged}
use Rattle.drift_report.specs.Report.{reported}
use Rattle.drift_report.proofs.merging.merged.Goals as goal

pub returns : goal.returns
unfolding merged
returns c =
    let g = c.args in
    let h : length g.first.counts ≡ 33 = search rules in
    let counted = c.add.ensures ∙ ap (λ (n : ℕ). plus n g.first.counts g.second.counts) h in
    let led =
    c.lead_of-lead.ensures
    ∙ ap (λ (w : ℕ). lead_of (leader g.first) g.first.total (record { drift = g.second.largest.0; wire = w }) g.second.total) c.add-moved.ensures in
    ap₂ (λ (counts : List ℕ) (l : Leader). reported counts l (g.first.total + g.second.total)) counted led
