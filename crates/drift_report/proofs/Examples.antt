-- The definitions at worked examples: sizes around powers of two, reports with ties and with drifts of one size, merges with a tie, with a larger drift in the second and of records that are no reports, the
-- edge of the refusal, and the words of a record. The values are reckoned from the words of document 02, and each side computes.
-- Assumes nothing.
use mathlib.Core.Path.{◌≡◌, refl}
use mathlib.Core.List.{List, [], ◌∷◌, ◌++◌}
use Prim.Native.Nat.{ℕ}
use lib.Count.{count_leading_zeros}
use Rattle.ring.specs.Word.{Q}
use Rattle.ring.specs.Centre.{H, centre}
use Rattle.ring.specs.Sums.{sum_to, tab}
use Rattle.ring.specs.Poly.{plus}
use Rattle.std.specs.Prelude.{Err}
use Rattle.params.specs.declared.refusal.Refusal.TheVariants.{Wires}
use Rattle.drift_report.specs.declared.Report.{Report}
use Rattle.drift_report.specs.Size.{bits_of}
use Rattle.drift_report.specs.Leader.{ahead, leader_to, lead_of}
use Rattle.drift_report.specs.Report.{count_to, report_of, wires_number, told}
use Rattle.drift_report.specs.Merge.{merged}
use Rattle.drift_report.specs.Words.{report_words, report_from, empty_number, report_number, merge_number}

-- 0, 1, -1, 2^29 - 1, 2^29, 2^31 - 1, -2^31, 1 - 2^31
pub sized : (bits_of 0 ≡ 0)
    × (bits_of 1 ≡ 1)
    × (bits_of 0xFFFFFFFF ≡ 1)
    × (bits_of 0x1FFFFFFF ≡ 29)
    × (bits_of 0x20000000 ≡ 30)
    × (bits_of 0x7FFFFFFF ≡ 31)
    × (bits_of 0x80000000 ≡ 32)
    × (bits_of 0x80000001 ≡ 31)
unfolding bits_of centre H Q count_leading_zeros
sized = (refl, refl, refl, refl, refl, refl, refl, refl)

-- a report none of whose drifts has more than three bits: the counts of sizes 0 to 3, the largest drift, its wire, the total
abbrev small : ℕ → ℕ → ℕ → ℕ → ℕ → ℕ → ℕ → Report
small zeros ones twos threes drift wire total =
    record { counts = zeros ∷ ones ∷ twos ∷ threes ∷ tab 29 (λ k. 0); largest = record { 0 = drift }; wire = wire; total = total }

-- 0, 3, -4, 4, -1, where -4 and 4 tie and the earlier stands; -3 and 3; two zeros
pub reports : (report_of (0 ∷ 3 ∷ 0xFFFFFFFC ∷ 4 ∷ 0xFFFFFFFF ∷ []) ≡ small 1 1 1 2 0xFFFFFFFC 2 5)
    × (report_of (0xFFFFFFFD ∷ 3 ∷ []) ≡ small 0 0 2 0 0xFFFFFFFD 0 2)
    × (report_of (0 ∷ 0 ∷ []) ≡ small 2 0 0 0 0 0 2)
unfolding report_of count_to leader_to ahead bits_of centre H Q count_leading_zeros sum_to tab
reports = (refl, refl, refl)

-- 2^31 - 1, -2^31, 1 - 2^31: the sizes 31, 32, 31, and the second is the largest
pub ends : report_of (0x7FFFFFFF ∷ 0x80000000 ∷ 0x80000001 ∷ []) ≡ record { counts = tab 31 (λ k. 0) ++ (2 ∷ 1 ∷ []); largest = record { 0 = 0x80000000 }; wire = 1; total = 3 }
unfolding report_of count_to leader_to ahead bits_of centre H Q count_leading_zeros sum_to tab
ends = refl

-- a tie, -4 at wire 2 of three and 4 at wire 0 of two: the first's; a larger second, -2 and 1, then 1 and -5: the second's, its wire 1 moved by 2
pub merges : (merged (small 1 0 1 1 0xFFFFFFFC 2 3) (small 0 1 0 1 4 0 2) ≡ small 1 1 1 2 0xFFFFFFFC 2 5)
    × (merged (small 0 1 1 0 0xFFFFFFFE 0 2) (small 0 1 0 1 0xFFFFFFFB 1 2) ≡ small 0 2 1 1 0xFFFFFFFB 3 4)
unfolding merged plus lead_of ahead centre H Q tab
merges = (refl, refl)

-- records that are no report: counts and the moved wire wrap, and a largest drift of no wires is not taken
pub others : (merged (small 0 0xFFFFFFFF 0 0 1 0 1) (small 0 2 0 0 2 0xFFFFFFFF 1) ≡ small 0 1 0 0 2 0 2) × (merged (small 0 1 0 0 1 0 1) (small 0 0 0 0 7 3 0) ≡ small 0 1 0 0 1 0 1)
unfolding merged plus lead_of ahead centre H Q tab
others = (refl, refl)

-- drifts of one size, 4, 7, -6: the larger leads; and of two reports, 5 and then -6
pub same_size : (report_of (4 ∷ 7 ∷ 0xFFFFFFFA ∷ []) ≡ small 0 0 0 3 7 1 3) × (merged (small 0 0 0 1 5 0 1) (small 0 0 0 1 0xFFFFFFFA 0 1) ≡ small 0 0 0 2 0xFFFFFFFA 1 2)
unfolding merged plus lead_of report_of count_to leader_to ahead bits_of centre H Q count_leading_zeros sum_to tab
same_size = (refl, refl)

-- two records of no wires: the first's largest drift and wire stay
pub no_wires : merged (small 1 0 0 0 5 6 0) (small 0 1 0 0 7 8 0) ≡ small 1 1 0 0 5 6 0
unfolding merged plus lead_of ahead centre H Q tab
no_wires = refl

-- the most wires, and one more
pub edge : (wires_number 65535 ≡ 0) × (wires_number 65536 ≡ 13)
unfolding wires_number
edge = (refl, refl)

-- a refusal has no report beside it
pub refused : told (wires_number 65536) (small 0 1 0 0 1 0 1) ≡ Err Wires
unfolding told wires_number
refused = refl

-- as words: the counts from size 0 on, the largest drift, its wire, the total
abbrev worded : List ℕ
worded = 1 ∷ 2 ∷ 3 ∷ 4 ∷ (tab 29 (λ k. 0) ++ (0xFFFFFFFC ∷ 7 ∷ 10 ∷ []))

pub words : (report_words (small 1 2 3 4 0xFFFFFFFC 7 10) ≡ worded) × (report_from worded ≡ small 1 2 3 4 0xFFFFFFFC 7 10)
unfolding report_words report_from tab
words = (refl, refl)

-- words whose total is this
abbrev totalled : ℕ → List ℕ
totalled total = tab 35 (λ k. 1) ++ (total ∷ [])

-- 2 for a slice a word short or long, before 13; 13 for one wire too many, and for totals that pass 2^32 together
pub numbers : (empty_number 35 ≡ 2)
    × (empty_number 36 ≡ 0)
    × (report_number 65536 37 ≡ 2)
    × (report_number 65536 36 ≡ 13)
    × (report_number 65535 36 ≡ 0)
    × (merge_number (0 ∷ totalled 65535) (totalled 1) 36 ≡ 2)
    × (merge_number (totalled 65535) (0 ∷ totalled 1) 36 ≡ 2)
    × (merge_number (totalled 65535) (totalled 1) 35 ≡ 2)
    × (merge_number (totalled 65535) (totalled 1) 36 ≡ 13)
    × (merge_number (totalled 0xFFFFFFFF) (totalled 1) 36 ≡ 13)
    × (merge_number (totalled 65534) (totalled 1) 36 ≡ 0)
unfolding tab
numbers = (refl, refl, refl, refl, refl, refl, refl, refl, refl, refl, refl)
