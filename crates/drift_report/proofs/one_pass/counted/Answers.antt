-- `drift_report::one_pass::counted` meets its contract: a turn counts one more drift and lets it lead where it is ahead.
-- Assumes nothing.
use mathlib.Core.Path.{◌≡◌, refl, sym, ap, ap₂, ◌∙◌}
use mathlib.Core.List.{List}
use Prim.Native.Nat.{ℕ, ◌+◌}
use native.Mathlib.Numerals.{add-one}
use native.Mathlib.Omega.{arith}
use lib.ListN.{length, set}
use Rattle.ring.specs.Word.{at}
use Rattle.ring.specs.Sums.{sum_to, tab}
use Rattle.ring.proofs.Tab.{at-tab}
use Rattle.drift_report.specs.declared.leading.Leader.{Leader}
use Rattle.drift_report.specs.Size.{bits_of}
use Rattle.drift_report.specs.Leader.{ahead, leader_to}
use Rattle.drift_report.specs.Report.{sizes, count_to, reported, report_of}
use Rattle.drift_report.proofs.Sizes.{bits_most}
use Rattle.drift_report.proofs.Counts.{count_most, counted_more}
use Rattle.drift_report.proofs.Leaders.{at_wire}
use Rattle.drift_report.proofs.one_pass.counted.Goals as goal

pub loop-i-init : goal.loop-i-init
unfolding count_to sum_to tab leader_to
loop-i-init c = (refl, refl)

pub overflow_add-counts : goal.overflow_add-counts
overflow_add-counts c =
    let d = c.args.drifts.now in
    let l = c.loop-i in
    let k = c.bits_of-bits.result in
    let most = c.bits_of-bits.ensures.most in
    let e : at l.counts k ≡ count_to d l.i k = ap (λ (cs : List ℕ). at cs k) l.invariant.0 ∙ at-tab sizes (count_to d l.i) k (omega arith) in
    let m = count_most d l.i k in
    omega arith

pub loop-i-preserved : goal.loop-i-preserved
unfolding leader_to
loop-i-preserved c =
    let l = c.loop-i in
    let d = c.args.drifts.now in
    let f = count_to d l.i in
    let b = bits_of (at d l.i) in (
      ap (λ (k : ℕ). set l.counts k (at l.counts k + 1)) c.bits_of-bits.ensures.value
          ∙ ap (λ (cs : List ℕ). set cs b (at cs b + 1)) l.invariant.0
          ∙ ap (λ (v : ℕ). set (tab sizes f) b (v + 1)) (at-tab sizes f b (bits_most (at d l.i)))
          ∙ counted_more d l.i,
      c.ahead-leader.ensures ∙ ap (λ (x : Leader). ahead x (at_wire l.i (at d l.i))) l.invariant.1 ∙ sym (ap (leader_to d) (add-one l.i)),
    )

pub returns : goal.returns
unfolding report_of
returns c =
    let l = c.loop-i in
    let d = c.args.drifts.now in
    let e : l.i ≡ length d = omega arith in
    ap₂ (λ (counts : List ℕ) (x : Leader). reported counts x (length d)) (l.invariant.0 ∙ ap (λ (m : ℕ). tab sizes (count_to d m)) e) (l.invariant.1 ∙ ap (leader_to d) e)
