-- The number of a gate's operands: its test is that it is 1, or even where some wire is set, and that its results leave wires enough for the gates to come. Half of an
-- even number is the number of its results.
-- Assumes nothing.
use mathlib.Core.Path.{◌≡◌}
use mathlib.Core.Logic.{◌⊎◌}
use mathlib.Core.Bool.{Bool, true, ◌&&◌, ◌||◌}
use mathlib.Core.List.{List}
use Prim.Native.Nat.{ℕ, suc, ◌+◌, ◌-◌, ◌/◌, ◌%◌, ◌≤◌, ◌<◌}
use native.Mathlib.Decide.{ℕ_discrete}
use native.Mathlib.Omega.{arith}
use borrow.Author.Tests.{leb-true, ltb-true, eqb-true, le-leb, lt-ltb, eq-eqb, ne_eqb}
use lib.Dec.{leb, ltb, eqb}
use Rattle.tokens.specs.Tokens.{no_number}
use Rattle.bristol_form.specs.Says.{gates, wires, set_count}
use Rattle.bristol_form.specs.Form.{results_for, count_good}
use Rattle.bristol_form.proofs.AcceptTests.{both_true, less_or_equal, right_true, is_less_or_equal}

pub results_one : (k : ℕ) → k ≡ 1 → results_for k ≡ 1
unfolding results_for
results_one k e = rw (eq-eqb k 1 e)

pub results_half : (k r : ℕ) → 1 ≤ r → k ≡ r + r → results_for k ≡ r
unfolding results_for
results_half k r a e = rw (ne_eqb k 1 (λ z. omega arith)) (omega arith)

-- k operands, so many wires being set: 1, or an even number where some wire is set
pub data Counts (k set : ℕ) : Type 0 where
  alone : k ≡ 1 → Counts k set
  paired : 0 < set → 1 ≤ results_for k → k ≡ results_for k + results_for k → Counts k set

abbrev count_test : ℕ → ℕ → Bool
count_test k set = eqb k 1 || ltb 0 k && eqb (k % 2) 0 && ltb 0 set

counts_are : (k set : ℕ) → count_test k set ≡ true → Counts k set
unfolding results_for
counts_are k set h = go (ℕ_discrete k 1)
  where
    go : Dec (k ≡ 1) → Counts k set
    go (yes e) = alone e
    go (no d) =
        let a = both_true (ltb 0 k && eqb (k % 2) 0) _ (rw (ne_eqb k 1 d) at h) in
        let b = both_true (ltb 0 k) _ a.0 in
        let more = ltb-true 0 k b.0 in
        let even = eqb-true (k % 2) 0 b.1 in
        let half : results_for k ≡ k / 2 = rw (ne_eqb k 1 d) in
        paired (ltb-true 0 set a.1) (omega arith) (omega arith)

counts_done : (k set : ℕ) → Counts k set → count_test k set ≡ true
counts_done k set (alone e) = rw (eq-eqb k 1 e)
counts_done k set (paired s a e) =
    let even : k % 2 ≡ 0 = omega arith in
    right_true (eqb k 1) _ (rw (lt-ltb 0 k (omega arith), eq-eqb (k % 2) 0 even, lt-ltb 0 set s))

module _ (text : List ℕ) (j k : ℕ) where
  -- what count_good says of k
  pub record CountFits : Type 0 where
    pub number : k < no_number
    pub counts : Counts k (set_count text j)
    pub room : set_count text j + results_for k + (gates text - suc j) ≤ wires text
    pub last : (suc j < gates text) ⊎ (set_count text j + results_for k ≡ wires text)

  pub count_good_lem : count_good text j k ≡ true → CountFits
  unfolding count_good
  count_good_lem h =
      let set = set_count text j in
      let room = leb (set + results_for k + (gates text - suc j)) (wires text) in
      let a = both_true (ltb k no_number && count_test k set && room) _ h in
      let b = both_true (ltb k no_number && count_test k set) room a.0 in
      let c = both_true (ltb k no_number) (count_test k set) b.0 in
      record {
        number = ltb-true _ _ c.0;
        counts = counts_are k set c.1;
        room = leb-true _ _ b.1;
        last = less_or_equal (suc j) (gates text) (set + results_for k) (wires text) a.1;
      }

  pub count_done : CountFits → count_good text j k ≡ true
  unfolding count_good
  count_done f =
      let set = set_count text j in
      rw (lt-ltb k no_number f.number, counts_done k set f.counts, le-leb (set + results_for k + (gates text - suc j)) (wires text) f.room)
      (is_less_or_equal (suc j) (gates text) (set + results_for k) (wires text) f.last)
