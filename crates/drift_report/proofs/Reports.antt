-- What the report of a list tells: its counts make its total (`counts_make_total`), those up to 29 bits the wires that are inside (`inside_counted`), and of a list that is not empty each field is what document 02 says of it (`tells`), which no
-- other record is (`tells_only`). Citations of the laws of counts and leaders.
-- Assumes nothing.
use mathlib.Core.Path.{◌≡◌, refl, sym, ap, ◌∙◌}
use mathlib.Core.List.{List, [], ◌∷◌}
use Prim.Native.Nat.{ℕ, suc, ◌≤◌, ◌<◌}
use native.Mathlib.Omega.{arith}
use lib.Dec.{eqb}
use lib.ListN.{length}
use Rattle.ring.specs.Word.{Q, at}
use Rattle.ring.specs.Bit.{bit_number}
use Rattle.ring.specs.Sums.{sum_to}
use Rattle.ring.proofs.SumLaws.{sum_ext}
use Rattle.ring.proofs.Tab.{at-tab, length-tab, tab_of}
use Rattle.drift_size.specs.Size.{magnitude, inside_word}
use Rattle.drift_report.specs.declared.leading.Leader.{Leader}
use Rattle.drift_report.specs.declared.Report.{Report}
use Rattle.drift_report.specs.Size.{bits_of}
use Rattle.drift_report.specs.Report.{sizes, count_to, report_of}
use Rattle.drift_report.proofs.Sizes.{inside_is_size}
use Rattle.drift_report.proofs.Counts.{counts_sum, counts_within}
use Rattle.drift_report.proofs.Leaders.{no_larger, earlier_smaller, stands, leader_only}

-- 'The counts sum to the wires reported.'
pub counts_make_total : (ds : List ℕ) → sum_to sizes (at (report_of ds).counts) ≡ (report_of ds).total
unfolding report_of
counts_make_total ds = sum_ext sizes _ _ (λ k l. at-tab sizes (count_to ds (length ds)) k l) ∙ counts_sum ds (length ds)

-- The counts of the sizes up to 29 make the number of drifts that are inside: below an eighth of a turn in absolute value.
pub inside_counted : (ds : List ℕ) → sum_to 30 (at (report_of ds).counts) ≡ sum_to (length ds) (λ i. bit_number (inside_word (at ds i)))
unfolding report_of
inside_counted ds =
    sum_ext 30 _ _ (λ k l. at-tab sizes (count_to ds (length ds)) k (omega arith))
    ∙ counts_within ds (length ds) 29
    ∙ sum_ext (length ds) _ _ (λ i l. ap bit_number (sym (inside_is_size (at ds i))))

-- A record tells of these drifts what a report does.
pub record Tells (ds : List ℕ) (r : Report) : Type 0 where
  -- the total of wires
  pub all : r.total ≡ length ds
  -- a count per size, 0 to 32: how many of the drifts have it
  pub kinds : length r.counts ≡ sizes
  pub counted : (k : ℕ) → k < sizes → at r.counts k ≡ sum_to (length ds) (λ i. bit_number (eqb (bits_of (at ds i)) k))
  -- the largest is the drift at its wire, which is one of these
  pub there : at ds r.wire ≡ r.largest.0
  pub within : r.wire < r.total
  -- no drift is larger in absolute value, and every earlier one is smaller
  pub most : (i : ℕ) → i < r.total → magnitude (at ds i) ≤ magnitude r.largest.0
  pub earliest : (i : ℕ) → i < r.wire → magnitude (at ds i) < magnitude r.largest.0

pub tells : (ds : List ℕ) → 0 < length ds → ((i : ℕ) → at ds i < Q) → Tells ds (report_of ds)
unfolding report_of count_to
tells [] some words = absurd (let q : ⊥ = omega arith in q)
tells (d ∷ ds) some words =
    let m = length ds in
    let s = stands (d ∷ ds) m words in
    record {
      all = refl;
      kinds = length-tab sizes _;
      counted = λ k l. at-tab sizes _ k l;
      there = s.0;
      within = s.1;
      most = λ i l. no_larger (d ∷ ds) (length (d ∷ ds)) i l;
      earliest = λ i l. earlier_smaller (d ∷ ds) (length (d ∷ ds)) i l;
    }

-- So a report is told apart from every other record by what it tells.
pub tells_only : (ds : List ℕ) (r : Report) → 0 < length ds → ((i : ℕ) → at ds i < Q) → Tells ds r → r ≡ report_of ds
unfolding report_of count_to
tells_only [] r some words t = absurd (let q : ⊥ = omega arith in q)
tells_only (d ∷ ds) r some words t =
    let all = t.all in
    let m = length ds in
    let e = t.there in
    let most : (i : ℕ) → i < suc m → magnitude (at (d ∷ ds) i) ≤ magnitude (at (d ∷ ds) r.wire) = λ i l. rw e (t.most i (omega arith)) in
    let first : (i : ℕ) → i < r.wire → magnitude (at (d ∷ ds) i) < magnitude (at (d ∷ ds) r.wire) = λ i l. rw e (t.earliest i l) in
    let leads = leader_only (d ∷ ds) m r.wire words (let w = t.within in omega arith) most first in
    let counts = tab_of r.counts sizes _ t.kinds t.counted in
    λ i. record { counts = counts i; largest = record { 0 = (sym e ∙ ap (λ (l : Leader). l.drift) (sym leads)) i }; wire = ap (λ (l : Leader). l.wire) (sym leads) i; total = all i }
