-- The report of a list of drifts (02, 2026-05): what each of its fields is, and when it is refused.
use Rattle.std.specs.Prelude.{Result, List, [], ◌∷◌, ℕ, eqb, length}
use Rattle.ring.specs.Word.{at}
use Rattle.ring.specs.Bit.{bit_number}
use Rattle.ring.specs.Sums.{sum_to, tab}
use Rattle.params.specs.Refusal.{answer, given}
use Rattle.params.specs.declared.refusal.Refusal.{Refusal}
use Rattle.refusals.specs.Table.{first_of, at_most}
use Rattle.drift_report.specs.declared.leading.Leader.{Leader}
use Rattle.drift_report.specs.declared.Report.{Report}
use Rattle.drift_report.specs.Size.{bits_of}
use Rattle.drift_report.specs.Leader.{leader_to}

-- Sizes are 0 to 32, so a report has 33 counts.
abbrev pub sizes : ℕ
sizes = 33

-- Of the first m drifts, how many have k bits.
unfoldable pub count_to : List ℕ → ℕ → ℕ → ℕ
count_to ds m k = sum_to m (λ i. bit_number (eqb (bits_of (at ds i)) k))

-- A report by its counts, its leader and its total.
abbrev pub reported : List ℕ → Leader → ℕ → Report
reported counts leader total = record { counts = counts; largest = record { 0 = leader.drift }; wire = leader.wire; total = total }

-- The report of the drifts.
unfoldable pub report_of : List ℕ → Report
report_of ds = reported (tab sizes (count_to ds (length ds))) (leader_to ds (length ds)) (length ds)

-- The report of no wire: zeros.
unfoldable pub empty_report : Report
empty_report = reported (tab sizes (λ k. 0)) (record { drift = 0; wire = 0 }) 0

-- 'Wires per report: at most 65,535.'
abbrev pub wires_most : ℕ
wires_most = 65535

-- The refusal of a report of so many wires.
unfoldable pub wires_number : ℕ → ℕ
wires_number wires = first_of (at_most wires wires_most 13 ∷ [])

-- What a call tells: the report, or its refusal.
unfoldable pub told : ℕ → Report → Result Report Refusal
told number r = given (answer number) r
