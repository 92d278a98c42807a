-- Reports as words: a record and its words are one another's (`record_back`, `words_back`), so the words of two lists' reports merge into those of the lists' report, refused exactly where
-- that is (`words_merged`, `words_refused`). By the parts of a list, and the law of the records.
-- Assumes nothing.
use mathlib.Core.Path.{◌≡◌, sym, ap, ap₂, ◌∙◌}
use mathlib.Core.Bool.{Bool}
use mathlib.Core.List.{List, [], ◌∷◌, ◌++◌}
use Prim.Native.Nat.{ℕ, suc, ◌+◌, ◌≤◌}
use native.Mathlib.Omega.{arith}
use lib.Dec.{eqb, leb}
use lib.ListN.{length, take, drop, length-append, take-append-drop}
use lib.Seq.{take_at, get_or-append-add, drop-cons, drop-length}
use borrow.Author.Tests.{eq-eqb}
use Rattle.ring.specs.Word.{at}
use Rattle.ring.proofs.Tab.{length-tab}
use Rattle.params.specs.Refusal.{check}
use Rattle.drift_report.specs.declared.Report.{Report}
use Rattle.drift_report.specs.Report.{sizes, count_to, report_of, wires_most}
use Rattle.drift_report.specs.Merge.{merged}
use Rattle.drift_report.specs.Words.{words_of_report, report_words, report_from, report_number, merge_number}
use Rattle.drift_report.proofs.Merges.{merge_appends}

module _ (r : Report) (l : length r.counts ≡ sizes) where
  abbrev last : List ℕ
  last = r.largest.0 ∷ r.wire ∷ r.total ∷ []

  -- the words after the counts
  word_after : (i : ℕ) → at (r.counts ++ last) (sizes + i) ≡ at last i
  word_after i = ap (λ (n : ℕ). at (r.counts ++ last) (n + i)) (sym l) ∙ get_or-append-add r.counts last i 0

  -- A record's words are the record's.
  pub record_back : report_from (report_words r) ≡ r
  unfolding report_from report_words
  record_back = λ i. record {
    counts = take_at r.counts last sizes l i;
    largest = record { 0 = word_after 0 i };
    wire = word_after 1 i;
    total = word_after 2 i;
  }

  pub words_length : length (report_words r) ≡ words_of_report
  unfolding report_words
  words_length = length-append r.counts last ∙ ap (λ (n : ℕ). n + 3) l

-- And the record of words has these words.
pub words_back : (ws : List ℕ) → length ws ≡ words_of_report → report_words (report_from ws) ≡ ws
unfolding report_from report_words
words_back ws l =
    let more : (i : ℕ) → suc i ≤ words_of_report → drop i ws ≡ at ws i ∷ drop (suc i) ws = λ i h. drop-cons ws i 0 (omega arith) in
    let end : drop words_of_report ws ≡ [] = ap (λ (n : ℕ). drop n ws) (sym l) ∙ drop-length ws in
    ap (λ (rest : List ℕ). take sizes ws ++ rest)
    (sym (more 33 (omega arith) ∙ ap (λ (rest : List ℕ). at ws 33 ∷ rest) (more 34 (omega arith) ∙ ap (λ (rest : List ℕ). at ws 34 ∷ rest) (more 35 (omega arith) ∙ ap (λ (rest : List ℕ). at ws 35 ∷ rest) end))))
    ∙ take-append-drop sizes ws

-- ---- the reports of two lists, as words

-- A list's report has a count for each size.
sized : (ds : List ℕ) → length (report_of ds).counts ≡ sizes
unfolding report_of
sized ds = length-tab sizes (count_to ds (length ds))

total_word : (ds : List ℕ) → at (report_words (report_of ds)) 35 ≡ length ds
unfolding report_of report_words
total_word ds = word_after (report_of ds) (sized ds) 2

module _ (xs ys : List ℕ) where
  -- What merging writes of them.
  pub words_merged : length xs + length ys ≤ wires_most
      → report_words (merged (report_from (report_words (report_of xs))) (report_from (report_words (report_of ys)))) ≡ report_words (report_of (xs ++ ys))
  words_merged h = ap report_words (ap₂ merged (record_back (report_of xs) (sized xs)) (record_back (report_of ys) (sized ys)) ∙ merge_appends xs ys h)

  -- And when it is refused: as the report of both lists is.
  pub words_refused : (out : ℕ) → merge_number (report_words (report_of xs)) (report_words (report_of ys)) out ≡ report_number (length (xs ++ ys)) out
  words_refused out =
      let x = report_words (report_of xs) in
      let y = report_words (report_of ys) in
      let rest : ℕ → ℕ = λ n. check (eqb out words_of_report) 2 (check (leb n wires_most) 13 0) in
      ap₂ (λ (a b : Bool). check a 2 (check b 2 (rest (at x 35 + at y 35)))) (eq-eqb (length x) words_of_report (words_length (report_of xs) (sized xs))) (eq-eqb (length y) words_of_report (words_length (report_of ys) (sized ys)))
      ∙ ap rest (ap₂ (λ (m n : ℕ). m + n) (total_word xs) (total_word ys) ∙ sym (length-append xs ys))
