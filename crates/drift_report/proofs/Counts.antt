-- Counts by size: no count passes the number of wires (`count_most`), all together make it (`counts_sum`, by exchanging the sums), those up to a size the number of drifts up to it (`counts_within`), one more drift raises the count of its
-- size by one (`counted_more`), and the counts of two lists add (`count_append`).
-- Assumes nothing.
use mathlib.Core.Path.{◌≡◌, refl, sym, ap, ap₂, ◌∙◌, subst}
use mathlib.Core.Bool.{Bool}
use mathlib.Core.List.{List, ◌++◌}
use mathlib.Core.Logic.{⊎_elim}
use Prim.Native.Nat.{ℕ, zero, suc, ◌+◌, ◌≤◌, ◌<◌}
use native.Mathlib.Nat.{eq-or-lt_of_le, add-zero}
use native.Mathlib.Numerals.{add-one}
use native.Mathlib.Omega.{arith}
use lib.Dec.{T, T_not, eqb, eqb→eq, eqb_refl, leb, leb→le, nleb→lt}
use lib.ListN.{length, set, length-set, get_or-append}
use lib.Seq.{get_or-set_same, get_or-set_other, get_or-append-add}
use borrow.Author.Tests.{eq-eqb, ne_eqb}
use Rattle.ring.specs.Word.{at}
use Rattle.ring.specs.Bit.{bit_number}
use Rattle.ring.specs.Sums.{sum_to, tab}
use Rattle.ring.proofs.Value.{by_test}
use Rattle.ring.proofs.SumLaws.{sum_ext, sum_swap, sum_split}
use Rattle.ring.proofs.Tab.{at-tab, length-tab, tab_of}
use Rattle.drift_report.specs.Size.{bits_of}
use Rattle.drift_report.specs.Report.{sizes, count_to}
use Rattle.drift_report.proofs.Sizes.{bits_most}

none_of : (b n : ℕ) → n ≤ b → sum_to n (λ k. bit_number (eqb b k)) ≡ 0
unfolding sum_to
none_of b zero h = refl
none_of b (suc n) h = let a = none_of b n (omega arith) in rw (ne_eqb b n (λ e. omega arith)) (omega arith)

-- a number is exactly one of those below a bound of its own
one_of : (b n : ℕ) → b < n → sum_to n (λ k. bit_number (eqb b k)) ≡ 1
unfolding sum_to
one_of b zero h = absurd (let q : ⊥ = omega arith in q)
one_of b (suc n) h = ⊎_elim
    (λ (e : b ≡ n). let a = none_of b n (omega arith) in rw (eq-eqb b n e) (omega arith))
    (λ (l : b < n). let a = one_of b n l in rw (ne_eqb b n (λ e. omega arith)) (omega arith))
    (eq-or-lt_of_le {n = b} {m = n} (omega arith))

-- so the numbers up to n have it or not
one_within : (b n : ℕ) → sum_to (suc n) (λ k. bit_number (eqb b k)) ≡ bit_number (leb b n)
one_within b n = by_test (leb b n) (λ (c : Bool). sum_to (suc n) (λ k. bit_number (eqb b k)) ≡ bit_number c)
    (λ t. let l = leb→le b n t in one_of b (suc n) (omega arith)) (λ t. none_of b (suc n) (nleb→lt b n t))

ones : (m : ℕ) → sum_to m (λ i. 1) ≡ m
unfolding sum_to
ones zero = refl
ones (suc m) = let a = ones m in omega arith

-- The counts of all sizes make the number of drifts.
pub counts_sum : (ds : List ℕ) (m : ℕ) → sum_to sizes (count_to ds m) ≡ m
unfolding count_to
counts_sum ds m =
    sum_swap sizes m (λ k i. bit_number (eqb (bits_of (at ds i)) k))
    ∙ sum_ext m (λ i. sum_to sizes (λ k. bit_number (eqb (bits_of (at ds i)) k))) (λ i. 1) (λ i l. one_of (bits_of (at ds i)) sizes (bits_most (at ds i)))
    ∙ ones m

-- The counts of the sizes up to n make the number of drifts of at most that size.
pub counts_within : (ds : List ℕ) (m n : ℕ) → sum_to (suc n) (count_to ds m) ≡ sum_to m (λ i. bit_number (leb (bits_of (at ds i)) n))
unfolding count_to
counts_within ds m n =
    sum_swap (suc n) m (λ k i. bit_number (eqb (bits_of (at ds i)) k)) ∙ sum_ext m _ _ (λ i l. one_within (bits_of (at ds i)) n)

pub count_most : (ds : List ℕ) (m k : ℕ) → count_to ds m k ≤ m
unfolding count_to sum_to
count_most ds zero k = omega arith
count_most ds (suc m) k =
    let a : sum_to m (λ i. bit_number (eqb (bits_of (at ds i)) k)) ≤ m = count_most ds m k in
    by_test (eqb (bits_of (at ds m)) k) (λ (c : Bool). sum_to m (λ i. bit_number (eqb (bits_of (at ds i)) k)) + bit_number c ≤ suc m) (λ t. omega arith) (λ t. omega arith)

-- One more drift: the count of its size rises by one.
pub counted_more : (ds : List ℕ) (m : ℕ) → set (tab sizes (count_to ds m)) (bits_of (at ds m)) (count_to ds m (bits_of (at ds m)) + 1) ≡ tab sizes (count_to ds (m + 1))
unfolding count_to sum_to
counted_more ds m =
    let b = bits_of (at ds m) in
    let f = count_to ds m in
    let h : b < length (tab sizes f) = rw (length-tab sizes f) (bits_most (at ds m)) in
    tab_of (set (tab sizes f) b (f b + 1)) sizes (count_to ds (suc m)) (length-set (tab sizes f) b (f b + 1) ∙ length-tab sizes f)
    (λ i l. by_test (eqb b i) (λ (c : Bool). at (set (tab sizes f) b (f b + 1)) i ≡ f i + bit_number c)
    (λ t. let e : b ≡ i = eqb→eq b i t in ap (at (set (tab sizes f) b (f b + 1))) (sym e) ∙ get_or-set_same (tab sizes f) b (f b + 1) 0 h ∙ ap (λ (k : ℕ). f k + 1) e)
    (λ t. get_or-set_other (tab sizes f) b i (f b + 1) 0 (λ e. T_not (eqb b i) t (subst (λ (k : ℕ). T (eqb b k)) (sym e) (eqb_refl b))) ∙ at-tab sizes f i l ∙ sym (add-zero (f i))))
    ∙ ap (λ (n : ℕ). tab sizes (count_to ds n)) (sym (add-one m))

-- The counts of two lists, one after the other.
pub count_append : (xs ys : List ℕ) (k : ℕ) → count_to (xs ++ ys) (length xs + length ys) k ≡ count_to xs (length xs) k + count_to ys (length ys) k
unfolding count_to
count_append xs ys k =
    sum_split (length xs) (length ys) (λ i. bit_number (eqb (bits_of (at (xs ++ ys) i)) k))
    ∙ ap₂ (λ (a b : ℕ). a + b)
    (sum_ext (length xs) _ _ (λ i l. ap (λ (d : ℕ). bit_number (eqb (bits_of d) k)) (get_or-append xs ys 0 i l)))
    (sum_ext (length ys) _ _ (λ i l. ap (λ (d : ℕ). bit_number (eqb (bits_of d) k)) (get_or-append-add xs ys i 0)))
