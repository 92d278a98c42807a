-- A report as words, for callers that have no records: the 33 counts, the largest drift, its wire, the total.
use Rattle.std.specs.Prelude.{List, [], ◌∷◌, ◌++◌, ℕ, ◌+◌, length, take}
use Rattle.ring.specs.Word.{at}
use Rattle.refusals.specs.Table.{Check, first_of, is, at_most}
use Rattle.drift_report.specs.declared.Report.{Report}
use Rattle.drift_report.specs.Report.{sizes, wires_most}

-- How many they are.
abbrev pub words_of_report : ℕ
words_of_report = 36

-- The words of a record.
unfoldable pub report_words : Report → List ℕ
report_words r = r.counts ++ (r.largest.0 ∷ r.wire ∷ r.total ∷ [])

-- The record of words.
unfoldable pub report_from : List ℕ → Report
report_from ws = record { counts = take sizes ws; largest = record { 0 = at ws 33 }; wire = at ws 34; total = at ws 35 }

-- The refusal of the empty report: 2 where the slice has not its words.
abbrev pub empty_number : ℕ → ℕ
empty_number out = first_of (is out words_of_report 2 ∷ [])

-- What a report of so many wires checks, in order: the slice's length (2), then the wires (13).
abbrev pub report_checks : ℕ → ℕ → List Check
report_checks wires out = is out words_of_report 2 ∷ at_most wires wires_most 13 ∷ []

-- Its refusal.
abbrev pub report_number : ℕ → ℕ → ℕ
report_number wires out = first_of (report_checks wires out)

-- What a merge of two reports' words checks, in order: the length of the first, the second and the result (2), then the wires of both, added before any wrap (13).
abbrev pub merge_checks : List ℕ → List ℕ → ℕ → List Check
merge_checks first second out =
    is (length first) words_of_report 2 ∷ is (length second) words_of_report 2 ∷ is out words_of_report 2 ∷ at_most (at first 35 + at second 35) wires_most 13 ∷ []

-- Its refusal.
abbrev pub merge_number : List ℕ → List ℕ → ℕ → ℕ
merge_number first second out = first_of (merge_checks first second out)
