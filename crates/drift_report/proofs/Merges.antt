-- Laws of merging. The merge of two lists' reports is the report of the first's drifts followed by the second's, refused exactly where that is (`merge_appends`, `merge_told_lem`): by the
-- laws of counts and leaders, and since so few wires do not pass 2^32. Of any records: it does not matter which two of three are merged first, refusals included (`merge_assoc`,
-- `merge_order`), the empty report is a unit (`empty_right`, `empty_right_told`, `empty_left`, `empty_left_none`; where it is not, `left_not_unit`), and one of the two has the largest drift, by the totals
-- and the drifts (`first_kept`, `second_taken`): each by the cases of a total being 0.
-- Assumes nothing.
use mathlib.Core.Path.{◌≡◌, refl, sym, ap, ap₂, ◌∙◌}
use mathlib.Core.Bool.{Bool}
use mathlib.Core.List.{List, [], ◌++◌}
use mathlib.Core.Logic.{◌⊎◌, inr, ⊎_elim}
use Prim.Native.Nat.{ℕ, zero, suc, ◌+◌, ◌%◌, ◌≤◌, ◌<◌}
use native.Mathlib.Nat.{eq-zero-or-pos, add-zero, zero-add, add_assoc, mod-eq_of_lt}
use native.Mathlib.Omega.{arith}
use lib.Dec.{leb, leb→le, nleb→lt}
use lib.ListN.{length, length-append}
use borrow.Author.Tests.{lt-leb}
use Rattle.ring.specs.Word.{Q, at}
use Rattle.ring.specs.Sums.{sum_to, tab}
use Rattle.ring.specs.Poly.{plus}
use Rattle.ring.proofs.Value.{by_test}
use Rattle.ring.proofs.Tab.{at-tab, tab_of, tab_ext}
use Rattle.ring.proofs.Laws.{plus_assoc, plus_comm}
use Rattle.std.specs.Prelude.{Result, Ok, Err}
use Rattle.params.specs.Refusal.{check}
use Rattle.params.specs.declared.refusal.Refusal.{Refusal}
use Rattle.drift_report.specs.declared.leading.Leader.{Leader}
use Rattle.drift_report.specs.declared.Report.{Report}
use Rattle.drift_size.specs.Size.{magnitude}
use Rattle.drift_report.specs.Leader.{ahead, leader_to, lead_of}
use Rattle.drift_report.specs.Report.{sizes, count_to, reported, report_of, empty_report, wires_most, wires_number, told}
use Rattle.drift_report.specs.Merge.{moved, leader, merged}
use Rattle.drift_report.proofs.Sizes.{magnitude_none}
use Rattle.drift_report.proofs.Counts.{count_most, count_append}
use Rattle.drift_report.proofs.Leaders.{at_wire, lead, shifted, ahead_first, ahead_second, ahead_cases, lead_zero, leader_append}
use Rattle.drift_report.proofs.Moved.{lead_first, lead_second, lead_both, lead_order}

-- ---- the reports of two lists

-- so few do not pass 2^32
few : (a b : ℕ) → a + b ≤ wires_most → (a + b) % Q ≡ a + b
unfolding Q
few a b h = omega arith

wire_most : (ds : List ℕ) (m : ℕ) → (leader_to ds m).wire ≤ m
unfolding leader_to
wire_most ds zero = omega arith
wire_most ds (suc m) = let a = wire_most ds m in ahead_cases (leader_to ds m) (at_wire m (at ds m)) (λ (x : Leader). x.wire ≤ suc m) (λ l. omega arith) (λ l. omega arith)

-- beside no drifts the drifts' leader leads: at a tie it is nothing too
none_ahead : (ds : List ℕ) (m : ℕ) → ahead (at_wire 0 0) (shifted 0 (leader_to ds m)) ≡ shifted 0 (leader_to ds m)
none_ahead ds m =
    let b = shifted 0 (leader_to ds m) in
    let z = magnitude_none in
    ⊎_elim (λ (e : lead b ≡ 0). ahead_first (at_wire 0 0) b (omega arith) ∙ sym (ap (shifted 0) (lead_zero ds m e)))
    (λ (l : 0 < lead b). ahead_second (at_wire 0 0) b (omega arith))
    (eq-zero-or-pos (lead b))

-- so of lists' leaders the one that is ahead leads, though one list has no wires
lead_ahead : (xs ys : List ℕ) (m n : ℕ) → lead_of (leader_to xs m) m (shifted m (leader_to ys n)) n ≡ ahead (leader_to xs m) (shifted m (leader_to ys n))
unfolding leader_to
lead_ahead xs ys m zero = let z = magnitude_none in lead_first (leader_to xs m) m (shifted m (at_wire 0 0)) 0 refl ∙ sym (ahead_first (leader_to xs m) (shifted m (at_wire 0 0)) (omega arith))
lead_ahead xs ys zero (suc n) = lead_second (at_wire 0 0) 0 (shifted 0 (leader_to ys (suc n))) (suc n) (λ e. omega arith) refl ∙ sym (none_ahead ys (suc n))
lead_ahead xs ys (suc m) (suc n) = lead_both (leader_to xs (suc m)) (suc m) (shifted (suc m) (leader_to ys (suc n))) (suc n) (λ e. omega arith) (λ e. omega arith)

module _ (xs ys : List ℕ) (h : length xs + length ys ≤ wires_most) where
  counts_added : plus sizes (tab sizes (count_to xs (length xs))) (tab sizes (count_to ys (length ys))) ≡ tab sizes (count_to (xs ++ ys) (length xs + length ys))
  unfolding plus
  counts_added = tab_ext sizes _ _ (λ k l.
      ap₂ (λ (x y : ℕ). (x + y) % Q) (at-tab sizes (count_to xs (length xs)) k l) (at-tab sizes (count_to ys (length ys)) k l)
      ∙ few (count_to xs (length xs) k) (count_to ys (length ys) k) (let x = count_most xs (length xs) k in let y = count_most ys (length ys) k in omega arith)
      ∙ sym (count_append xs ys k))

  leaders_led : lead_of (leader_to xs (length xs)) (length xs) (moved (length xs) (leader_to ys (length ys))) (length ys) ≡ leader_to (xs ++ ys) (length xs + length ys)
  leaders_led =
      let b = leader_to ys (length ys) in
      ap (λ (w : ℕ). lead_of (leader_to xs (length xs)) (length xs) (at_wire w b.drift) (length ys)) (few (length xs) b.wire (let w = wire_most ys (length ys) in omega arith))
      ∙ lead_ahead xs ys (length xs) (length ys)
      ∙ sym (leader_append xs ys (length ys))

  pub merge_appends : merged (report_of xs) (report_of ys) ≡ report_of (xs ++ ys)
  unfolding merged report_of
  merge_appends = (λ i. reported (counts_added i) (leaders_led i) (length xs + length ys))
      ∙ ap (λ (n : ℕ). reported (tab sizes (count_to (xs ++ ys) n)) (leader_to (xs ++ ys) n) n) (sym (length-append xs ys))

-- calls that are refused alike tell alike, where their reports are one when they are not refused
told_alike : (wires : ℕ) (x y : Report) → (wires ≤ wires_most → x ≡ y) → told (wires_number wires) x ≡ told (wires_number wires) y
unfolding told wires_number
told_alike wires x y f = by_test (leb wires wires_most)
    (λ (c : Bool). told (check c 13 0) x ≡ told (check c 13 0) y)
    (λ t. ap (told 0) (f (leb→le wires wires_most t)))
    (λ t. refl)

-- What `merge` tells of two records, and `report_of` of a list: that their contracts say so is in Contracts.antt.
abbrev pub merge_told : Report → Report → Result Report Refusal
merge_told a b = told (wires_number (a.total + b.total)) (merged a b)

abbrev pub report_told : List ℕ → Result Report Refusal
report_told ds = told (wires_number (length ds)) (report_of ds)

-- However long the lists are.
pub merge_told_lem : (xs ys : List ℕ) → merge_told (report_of xs) (report_of ys) ≡ report_told (xs ++ ys)
unfolding report_of
merge_told_lem xs ys =
    told_alike (length xs + length ys) (merged (report_of xs) (report_of ys)) (report_of (xs ++ ys)) (merge_appends xs ys)
    ∙ ap (λ (n : ℕ). told (wires_number n) (report_of (xs ++ ys))) (sym (length-append xs ys))

-- ---- three records

pub merge_assoc : (a b c : Report) → merged (merged a b) c ≡ merged a (merged b c)
unfolding merged
merge_assoc a b c =
    let counts = plus_assoc sizes (omega arith) a.counts b.counts c.counts in
    let leads = lead_order (leader a) a.total (leader b) b.total (leader c) c.total in
    λ i. reported (counts i) (leads i) (add_assoc a.total b.total c.total i)

-- A call that goes on with the report of another: a refusal of that stands.
abbrev pub after : Result Report Refusal → (Report → Result Report Refusal) → Result Report Refusal
after (Ok r) next = next r
after (Err e) next = Err e

-- where a part is refused, so is the whole
after-told : (part whole : ℕ) (x y : Report) (next : Report → Result Report Refusal) → part ≤ whole → next x ≡ told (wires_number whole) y
    → after (told (wires_number part) x) next ≡ told (wires_number whole) y
unfolding told wires_number
after-told part whole x y next h e = by_test (leb part wires_most)
    (λ (c : Bool). after (told (check c 13 0) x) next ≡ told (wires_number whole) y)
    (λ t. e)
    (λ t. ap (λ (c : Bool). told (check c 13 0) y) (sym (lt-leb whole wires_most (let l = nleb→lt part wires_most t in omega arith))))

-- The two ways to merge three tell the same, refused or not.
pub merge_order : (a b c : Report) → after (merge_told a b) (λ r. merge_told r c) ≡ after (merge_told b c) (λ r. merge_told a r)
unfolding merged
merge_order a b c =
    let m = a.total in
    let n = b.total in
    let p = c.total in
    after-told (m + n) (m + n + p) (merged a b) (merged (merged a b) c) (λ r. merge_told r c) (omega arith) refl
    ∙ ap₂ (λ (k : ℕ) (r : Report). told (wires_number k) r) (add_assoc m n p) (merge_assoc a b c)
    ∙ sym (after-told (n + p) (m + (n + p)) (merged b c) (merged a (merged b c)) (λ r. merge_told a r) (omega arith) refl)

-- ---- the empty report

pub empty_report_lem : report_of [] ≡ empty_report
unfolding report_of empty_report count_to sum_to leader_to
empty_report_lem = refl

module _ (r : Report) (l : length r.counts ≡ sizes) (words : (i : ℕ) → at r.counts i < Q) where
  counts_right : plus sizes r.counts (tab sizes (λ k. 0)) ≡ r.counts
  unfolding plus
  counts_right = sym (tab_of r.counts sizes (λ i. (at r.counts i + at (tab sizes (λ k. 0)) i) % Q) l (λ i k.
      sym (ap (λ (n : ℕ). (at r.counts i + n) % Q) (at-tab sizes (λ k. 0) i k) ∙ ap (λ (n : ℕ). n % Q) (add-zero (at r.counts i)) ∙ mod-eq_of_lt (words i))))

  counts_left : plus sizes (tab sizes (λ k. 0)) r.counts ≡ r.counts
  counts_left = plus_comm sizes (omega arith) (tab sizes (λ k. 0)) r.counts ∙ counts_right

  pub empty_right : merged r empty_report ≡ r
  unfolding merged empty_report
  empty_right =
      let leads = lead_first (leader r) r.total (moved r.total (leader empty_report)) 0 refl in
      λ i. reported (counts_right i) (leads i) (add-zero r.total i)

  -- Of a call: refused where the record's own total is too large.
  pub empty_right_told : merge_told r empty_report ≡ told (wires_number r.total) r
  unfolding empty_report
  empty_right_told = ap₂ (λ (n : ℕ) (x : Report). told (wires_number n) x) (add-zero r.total) empty_right

  pub empty_left : (r.total ≡ 0 → ⊥) → r.wire < Q → merged empty_report r ≡ r
  unfolding merged empty_report
  empty_left some w =
      let leads = lead_second (leader empty_report) 0 (moved 0 (leader r)) r.total some refl in
      let wire = ap (λ (n : ℕ). n % Q) (zero-add r.wire) ∙ mod-eq_of_lt w in
      λ i. reported (counts_left i) ((leads ∙ ap (λ (n : ℕ). at_wire n r.largest.0) wire) i) (zero-add r.total i)

  -- Of a record of no wires: where it names no largest drift and no wire.
  pub empty_left_none : r.total ≡ 0 → r.largest.0 ≡ 0 → r.wire ≡ 0 → merged empty_report r ≡ r
  unfolding merged empty_report
  empty_left_none none d w =
      let leads = lead_first (leader empty_report) 0 (moved 0 (leader r)) r.total none ∙ ap₂ (λ (k x : ℕ). at_wire k x) (sym w) (sym d) in
      λ i. reported (counts_left i) (leads i) (zero-add r.total i)

-- But a record of no wires that names a largest drift loses it behind the empty report.
pub left_not_unit : merged empty_report (reported (tab sizes (λ k. 0)) (at_wire 0 1) 0) ≡ reported (tab sizes (λ k. 0)) (at_wire 0 1) 0 → ⊥
unfolding merged empty_report lead_of
left_not_unit e = let q : ◌≡◌ {A = ℕ} 0 1 = ap (λ (r : Report). r.largest.0) e in omega arith

-- ---- whose largest drift is taken

module _ (a b : Report) where
  -- The first's, with its wire: where the second has no wires, or the first has some and the second's drift is not larger in absolute value.
  pub first_kept : (b.total ≡ 0) ⊎ ((a.total ≡ 0 → ⊥) × (magnitude b.largest.0 ≤ magnitude a.largest.0)) → leader (merged a b) ≡ leader a
  unfolding merged
  first_kept = ⊎_elim (lead_first (leader a) a.total (moved a.total (leader b)) b.total)
      (λ h. ⊎_elim (lead_first (leader a) a.total (moved a.total (leader b)) b.total)
      (λ (some : 0 < b.total). lead_both (leader a) a.total (moved a.total (leader b)) b.total (λ e. omega arith) h.0 ∙ ahead_first (leader a) (moved a.total (leader b)) h.1)
      (eq-zero-or-pos b.total))

  -- 'A tie goes to the first report's wire.'
  pub tie_first : (a.total ≡ 0 → ⊥) → magnitude a.largest.0 ≡ magnitude b.largest.0 → leader (merged a b) ≡ leader a
  tie_first some e = first_kept (inr (some, omega arith))

  -- Everywhere else the second's, its wire moved by the first's wires.
  pub second_taken : (b.total ≡ 0 → ⊥) → (a.total ≡ 0) ⊎ (magnitude a.largest.0 < magnitude b.largest.0) → leader (merged a b) ≡ moved a.total (leader b)
  unfolding merged
  second_taken some = ⊎_elim (lead_second (leader a) a.total (moved a.total (leader b)) b.total some)
      (λ h. ⊎_elim (lead_second (leader a) a.total (moved a.total (leader b)) b.total some)
      (λ (more : 0 < a.total). lead_both (leader a) a.total (moved a.total (leader b)) b.total some (λ e. omega arith) ∙ ahead_second (leader a) (moved a.total (leader b)) h)
      (eq-zero-or-pos a.total))
