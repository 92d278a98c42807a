-- The leader of a list of drifts: none is larger (`no_larger`), each earlier one is smaller (`earlier_smaller`), it is the drift at its wire (`stands`), and no other wire
-- has these properties (`leader_only`). Being ahead is associative, so the leader of two lists is that of their leaders (`leader_append`). Inductions on the number of drifts.
-- Assumes nothing.
use mathlib.Core.Path.{◌≡◌, refl, sym, ap, ap₂, ◌∙◌}
use mathlib.Core.Bool.{Bool, cond}
use mathlib.Core.List.{List, ◌++◌}
use mathlib.Core.Logic.{⊎_elim}
use Prim.Native.Nat.{ℕ, zero, suc, ◌+◌, ◌≤◌, ◌<◌}
use native.Mathlib.Nat.{eq-or-lt_of_le, add-zero, add-suc}
use native.Mathlib.Omega.{arith}
use lib.Dec.{ltb, ltb→lt, nltb→le}
use lib.ListN.{length, get_or-append}
use lib.Seq.{get_or-append-add}
use borrow.Author.Tests.{lt-ltb, le-ltb}
use Rattle.ring.specs.Word.{Q, at}
use Rattle.ring.proofs.Value.{by_test}
use Rattle.drift_report.specs.declared.leading.Leader.{Leader}
use Rattle.drift_size.specs.Size.{magnitude}
use Rattle.drift_report.specs.Leader.{ahead, leader_to}
use Rattle.drift_report.proofs.Sizes.{magnitude_none, magnitude-zero}

-- A drift at a wire.
abbrev pub at_wire : ℕ → ℕ → Leader
at_wire w d = record { drift = d; wire = w }

-- How large a leader's drift is.
abbrev pub lead : Leader → ℕ
lead a = magnitude a.drift

pub ahead_second : (a b : Leader) → lead a < lead b → ahead a b ≡ b
unfolding ahead
ahead_second a b l = ap (λ (c : Bool). cond c b a) (lt-ltb _ _ l)

pub ahead_first : (a b : Leader) → lead b ≤ lead a → ahead a b ≡ a
unfolding ahead
ahead_first a b l = ap (λ (c : Bool). cond c b a) (le-ltb _ _ l)

-- the two cases of being ahead
pub ahead_cases : (a b : Leader) (P : Leader → Type 0) → (lead a < lead b → P b) → (lead b ≤ lead a → P a) → P (ahead a b)
unfolding ahead
ahead_cases a b P f g = by_test (ltb (lead a) (lead b)) (λ (c : Bool). P (cond c b a)) (λ t. f (ltb→lt _ _ t)) (λ t. g (nltb→le _ _ t))

pub ahead_assoc : (a b c : Leader) → ahead (ahead a b) c ≡ ahead a (ahead b c)
ahead_assoc a b c = ahead_cases a b (λ (x : Leader). x ≡ ahead a b → ahead x c ≡ ahead a (ahead b c))
    (λ l e. sym (ahead_cases b c (λ (y : Leader). y ≡ ahead b c → ahead a y ≡ y) (λ k _. ahead_second a c (omega arith)) (λ k _. ahead_second a b l) refl))
    (λ l e. ahead_cases b c (λ (y : Leader). ahead a c ≡ ahead a y) (λ k. refl) (λ k. ahead_first a c (omega arith) ∙ sym (ahead_first a b l)))
    refl

-- No drift is larger in absolute value.
pub no_larger : (ds : List ℕ) (m i : ℕ) → i < m → magnitude (at ds i) ≤ lead (leader_to ds m)
unfolding leader_to
no_larger ds zero i h = absurd (let q : ⊥ = omega arith in q)
no_larger ds (suc m) i h = ahead_cases (leader_to ds m) (at_wire m (at ds m)) (λ (x : Leader). magnitude (at ds i) ≤ lead x)
    (λ l. ⊎_elim (λ (e : i ≡ m). rw e (omega arith)) (λ (k : i < m). let a = no_larger ds m i k in omega arith) (eq-or-lt_of_le {n = i} {m = m} (omega arith)))
    (λ l. ⊎_elim (λ (e : i ≡ m). rw e l) (λ (k : i < m). no_larger ds m i k) (eq-or-lt_of_le {n = i} {m = m} (omega arith)))

-- Each earlier one is smaller.
pub earlier_smaller : (ds : List ℕ) (m i : ℕ) → i < (leader_to ds m).wire → magnitude (at ds i) < lead (leader_to ds m)
unfolding leader_to
earlier_smaller ds zero i = λ h. absurd (let q : ⊥ = omega arith in q)
earlier_smaller ds (suc m) i = ahead_cases (leader_to ds m) (at_wire m (at ds m)) (λ (x : Leader). i < x.wire → magnitude (at ds i) < lead x)
    (λ l h. let a = no_larger ds m i h in omega arith)
    (λ l h. earlier_smaller ds m i h)

-- Its drift is the one at its wire, and its wire is one of these.
pub stands : (ds : List ℕ) (m : ℕ) → ((i : ℕ) → at ds i < Q) → (at ds (leader_to ds (suc m)).wire ≡ (leader_to ds (suc m)).drift) × ((leader_to ds (suc m)).wire < suc m)
unfolding leader_to
stands ds zero b = ahead_cases (at_wire 0 0) (at_wire 0 (at ds 0)) (λ (x : Leader). (at ds x.wire ≡ x.drift) × (x.wire < 1))
    (λ l. (refl, omega arith))
    (λ l. (magnitude-zero (at ds 0) (b 0) (let z = magnitude_none in omega arith), omega arith))
stands ds (suc m) b = ahead_cases (leader_to ds (suc m)) (at_wire (suc m) (at ds (suc m))) (λ (x : Leader). (at ds x.wire ≡ x.drift) × (x.wire < suc (suc m)))
    (λ l. (refl, omega arith))
    (λ l. let s = stands ds m b in (s.0, omega arith))

-- No other wire is so.
pub leader_only : (ds : List ℕ) (m w : ℕ) → ((i : ℕ) → at ds i < Q) → w < suc m → ((i : ℕ) → i < suc m → magnitude (at ds i) ≤ magnitude (at ds w))
    → ((i : ℕ) → i < w → magnitude (at ds i) < magnitude (at ds w)) → leader_to ds (suc m) ≡ at_wire w (at ds w)
leader_only ds m w b l most first =
    let v = (leader_to ds (suc m)).wire in
    let s = stands ds m b in
    let n = no_larger ds (suc m) w l in
    let d : magnitude (at ds v) ≡ lead (leader_to ds (suc m)) = ap magnitude s.0 in
    let e : v ≡ w = by_test (ltb v w) (λ (c : Bool). v ≡ w)
    (λ t. absurd (let q = first v (ltb→lt v w t) in let z : ⊥ = omega arith in z))
    (λ t. by_test (ltb w v) (λ (c : Bool). v ≡ w)
    (λ u. absurd (let q = earlier_smaller ds (suc m) w (ltb→lt w v u) in let r = most v s.1 in let z : ⊥ = omega arith in z))
    (λ u. let x = nltb→le v w t in let y = nltb→le w v u in omega arith)) in
    λ i. record { drift = (sym s.0 ∙ ap (at ds) e) i; wire = e i }

-- A leader that is nothing is that of no drift.
pub lead_zero : (ds : List ℕ) (m : ℕ) → lead (leader_to ds m) ≡ 0 → leader_to ds m ≡ at_wire 0 0
unfolding leader_to
lead_zero ds zero = λ e. refl
lead_zero ds (suc m) = ahead_cases (leader_to ds m) (at_wire m (at ds m)) (λ (x : Leader). lead x ≡ 0 → x ≡ at_wire 0 0)
    (λ l e. absurd (let q : ⊥ = omega arith in q))
    (λ l e. lead_zero ds m e)

-- ---- two lists, one after the other

-- A leader so many places further on.
abbrev pub shifted : ℕ → Leader → Leader
shifted k a = record { drift = a.drift; wire = k + a.wire }

shifted-ahead : (k : ℕ) (a b : Leader) → ahead (shifted k a) (shifted k b) ≡ shifted k (ahead a b)
unfolding ahead
shifted-ahead k a b = by_test (ltb (lead a) (lead b)) (λ (c : Bool). cond c (shifted k b) (shifted k a) ≡ shifted k (cond c b a)) (λ t. refl) (λ t. refl)

leader_front : (xs ys : List ℕ) (m : ℕ) → m ≤ length xs → leader_to (xs ++ ys) m ≡ leader_to xs m
unfolding leader_to
leader_front xs ys zero h = refl
leader_front xs ys (suc m) h =
    ap₂ ahead (leader_front xs ys m (omega arith)) (ap (λ (d : ℕ). at_wire m d) (get_or-append xs ys 0 m (omega arith)))

pub leader_append : (xs ys : List ℕ) (m : ℕ) → leader_to (xs ++ ys) (length xs + m) ≡ ahead (leader_to xs (length xs)) (shifted (length xs) (leader_to ys m))
unfolding leader_to
leader_append xs ys zero =
    let l : magnitude 0 ≤ lead (leader_to xs (length xs)) = let z = magnitude_none in omega arith in
    ap (leader_to (xs ++ ys)) (add-zero (length xs)) ∙ leader_front xs ys (length xs) (omega arith) ∙ sym (ahead_first (leader_to xs (length xs)) (shifted (length xs) (at_wire 0 0)) l)
leader_append xs ys (suc m) =
    let k = length xs in
    ap (leader_to (xs ++ ys)) (add-suc k m)
    ∙ ap₂ ahead (leader_append xs ys m) (ap (λ (d : ℕ). at_wire (k + m) d) (get_or-append-add xs ys m 0))
    ∙ ahead_assoc (leader_to xs k) (shifted k (leader_to ys m)) (shifted k (at_wire m (at ys m)))
    ∙ ap (ahead (leader_to xs k)) (shifted-ahead k (leader_to ys m) (at_wire m (at ys m)))
