-- The laws of lists' reports, of calls: what a call tells by its contract, as `rattle` reads that from the code, is what the laws and computed cases speak of (`report_of_tells`, `merge_tells` and their like, one for each public routine), and merging the words of
-- two lists' reports tells and writes what reporting both lists does (`merge_into_merges`). By computation, and the laws of reports as words. So a contract that is changed together with its code is refused here.
-- Assumes nothing.
use mathlib.Core.Path.{◌≡◌, refl, sym, ap, ap₂, ◌∙◌}
use mathlib.Core.Bool.{Bool, cond}
use mathlib.Core.List.{List, ◌++◌}
use Prim.Native.Nat.{ℕ, ◌+◌, ◌≤◌}
use lib.Dec.{eqb, eqb→eq}
use lib.ListN.{length, length-append}
use contract.Lifetimes.{Lfts}
use denote.Triple.Entry.{Args, Res}
use denote.Triple.Clauses.{Lasts, at_exit}
use Rattle.ring.proofs.Value.{by_test}
use Rattle.params.specs.Refusal.{answer, outcome, if_done}
use Rattle.refusals.proofs.Table.{facts}
use Rattle.drift_report.specs.Report.{empty_report, report_of, wires_most}
use Rattle.drift_report.specs.Merge.{merged}
use Rattle.drift_report.specs.Words.{report_words, report_from, empty_number, report_checks, report_number, merge_number}
use Rattle.drift_report.proofs.AsWords.{words_merged, words_refused}
use Rattle.drift_report.proofs.Merges.{merge_told, report_told}
use Rattle.drift_report.proofs.report_of as report_of_call
use Rattle.drift_report.specs.contracts.report_of as report_of_c
use Rattle.drift_report.proofs.merge as merge
use Rattle.drift_report.specs.contracts.merge as merge_c
use Rattle.drift_report.proofs.empty as empty
use Rattle.drift_report.specs.contracts.empty as empty_c
use Rattle.drift_report.proofs.as_words.empty_into as empty_into
use Rattle.drift_report.specs.contracts.as_words.empty_into as empty_into_c
use Rattle.drift_report.proofs.as_words.report_into as report_into
use Rattle.drift_report.specs.contracts.as_words.report_into as report_into_c
use Rattle.drift_report.proofs.as_words.merge_into as merge_into
use Rattle.drift_report.specs.contracts.as_words.merge_into as merge_into_c

pub merge_tells : (κs : Lfts (merge_c.ended).signature.lifetimes) (a : Args (merge_c.ended).signature κs) (x : Res (merge_c.ended).signature κs) (v : Lasts merge_c.ended κs a)
    → merge.Reads.Learnt κs a x (at_exit merge_c.ended κs a v) → x ≡ merge_told a.0 a.1.0
merge_tells κs a x v h = h

pub report_of_tells : (κs : Lfts (report_of_c.ended).signature.lifetimes) (a : Args (report_of_c.ended).signature κs) (x : Res (report_of_c.ended).signature κs) (v : Lasts report_of_c.ended κs a)
    → report_of_call.Reads.Learnt κs a x (at_exit report_of_c.ended κs a v) → x ≡ report_told a.0.now
report_of_tells κs a x v h = h

pub empty_tells : (κs : Lfts (empty_c.ended).signature.lifetimes) (a : Args (empty_c.ended).signature κs) (x : Res (empty_c.ended).signature κs) (v : Lasts empty_c.ended κs a)
    → empty.Reads.Learnt κs a x (at_exit empty_c.ended κs a v) → x ≡ empty_report
empty_tells κs a x v h = h

-- of calls on words: the answer, and what the slice holds afterwards
pub empty_into_tells : (κs : Lfts (empty_into_c.ended).signature.lifetimes) (a : Args (empty_into_c.ended).signature κs) (x : Res (empty_into_c.ended).signature κs) (v : Lasts empty_into_c.ended κs a)
    → empty_into.Reads.Learnt κs a x (at_exit empty_into_c.ended κs a v) → let out = a.0.now in let number = empty_number (length out) in (x ≡ outcome (answer number)) × (v.0 ≡ if_done number (report_words empty_report) out)
empty_into_tells κs a x v h = h

pub report_into_tells : (κs : Lfts (report_into_c.ended).signature.lifetimes) (a : Args (report_into_c.ended).signature κs) (x : Res (report_into_c.ended).signature κs) (v : Lasts report_into_c.ended κs a)
    → report_into.Reads.Learnt κs a x (at_exit report_into_c.ended κs a v) → let ds = a.0.now in let out = a.1.0.now in let number = report_number (length ds) (length out) in (x ≡ outcome (answer number)) × (v.1.0 ≡ if_done number (report_words (report_of ds)) out)
report_into_tells κs a x v h = h

pub merge_into_tells : (κs : Lfts (merge_into_c.ended).signature.lifetimes) (a : Args (merge_into_c.ended).signature κs) (x : Res (merge_into_c.ended).signature κs) (v : Lasts merge_into_c.ended κs a)
    → merge_into.Reads.Learnt κs a x (at_exit merge_into_c.ended κs a v) → let first = a.0.now in let second = a.1.0.now in let out = a.1.1.0.now in let number = merge_number first second (length out) in
    (x ≡ outcome (answer number)) × (v.1.1.0 ≡ if_done number (report_words (merged (report_from first) (report_from second))) out)
merge_into_tells κs a x v h = h

-- where a call of two lists' reports is not refused they have few enough wires
few_wires : (xs ys : List ℕ) (out : ℕ) → report_number (length (xs ++ ys)) out ≡ 0 → length xs + length ys ≤ wires_most
few_wires xs ys out e = rw (sym (length-append xs ys)) (facts (report_checks (length (xs ++ ys)) out) refl e).1.0

-- `merge_into` of the words of two lists' reports tells and writes what `report_into` does of the one list followed by the other.
pub merge_into_merges : (κs : Lfts (merge_into_c.ended).signature.lifetimes) (a : Args (merge_into_c.ended).signature κs) (x : Res (merge_into_c.ended).signature κs) (v : Lasts merge_into_c.ended κs a)
    (xs ys : List ℕ) → a.0.now ≡ report_words (report_of xs) → a.1.0.now ≡ report_words (report_of ys)
    → merge_into.Reads.Learnt κs a x (at_exit merge_into_c.ended κs a v)
    → let out = a.1.1.0.now in let number = report_number (length (xs ++ ys)) (length out) in (x ≡ outcome (answer number)) × (v.1.1.0 ≡ if_done number (report_words (report_of (xs ++ ys))) out)
merge_into_merges κs a x v xs ys e f h =
    let out = a.1.1.0.now in
    let number = report_number (length (xs ++ ys)) (length out) in
    let n : merge_number a.0.now a.1.0.now (length out) ≡ number = ap₂ (λ (s t : List ℕ). merge_number s t (length out)) e f ∙ words_refused xs ys (length out) in
    let w : List ℕ = report_words (merged (report_from a.0.now) (report_from a.1.0.now)) in (
      h.0 ∙ ap (λ (k : ℕ). outcome (answer k)) n,
      h.1 ∙ ap (λ (k : ℕ). if_done k w out) n
          ∙ by_test (eqb number 0) (λ (c : Bool). cond c w out ≡ cond c (report_words (report_of (xs ++ ys))) out)
          (λ t. ap₂ (λ (s u : List ℕ). report_words (merged (report_from s) (report_from u))) e f ∙ words_merged xs ys (few_wires xs ys (length out) (eqb→eq number 0 t)))
          (λ t. refl),
    )
