-- The refusals taken apart and put together, and the doubled row: its window from place N - i on is X^i · b, so that the rows' sum is the product.
-- Assumes nothing.
use mathlib.Core.Path.{◌≡◌, refl, sym, ap, ap₂, ◌∙◌}
use mathlib.Core.Bool.{Bool, true, false, cond}
use mathlib.Core.List.{List, ◌++◌}
use Prim.Native.Nat.{ℕ, suc, ◌+◌, ◌-◌, ◌*◌, ◌%◌, ◌≤◌, ◌<◌}
use native.Mathlib.Nat.{mod-mod, add-mod-mod}
use native.Mathlib.Numerals.{add-one}
use native.Mathlib.Omega.{arith}
use borrow.Author.Tests.{lt-ltb, le-ltb, ltb-true, ltb-false}
use lib.Dec.{ltb, leb, leb→le, nleb→lt}
use lib.ListN.{length, take, drop, length-append, get_or-append}
use lib.Seq.{get_or-append-add}
use Rattle.params.specs.declared.Params.{Params}
use Rattle.params.specs.Ranges.{InRange}
use Rattle.params.specs.Sizes.{size}
use Rattle.params.proofs.Answers.{when_done}
use Rattle.params.proofs.Ranges.{in_range, not_refused}
use Rattle.refusals.proofs.Table.{good, done}
use Rattle.ring.specs.Word.{Q, at, neg}
use Rattle.ring.specs.Sums.{sum_to, tab}
use Rattle.ring.specs.Poly.{before, plus, minus, times}
use Rattle.ring.proofs.Tab.{length-tab, at-tab, tab_ext, tab_of}
use Rattle.ring.proofs.Parts.{slice_at}
use Rattle.ring.proofs.Places.{length-minus}
use Rattle.ring.proofs.SumLaws.{sum_back, sum_mod}
use Rattle.ring.proofs.Words.{mul-mod_r}
use Rattle.ring.proofs.Value.{by_test}
use Rattle.product.specs.Product.{product_checks, product_number, poly_mul_out}
use Rattle.product.specs.Private.{doubled_at, doubled}
use Rattle.ring.specs.Private.{acc_to}

-- ---- the refusals

-- what holds of a product that is not refused
pub record ProductGood (p : Params) (la lb lo : ℕ) : Type 0 where
  pub range : InRange p
  pub left : la ≡ size p
  pub right : lb ≡ size p
  pub into : lo ≡ size p

module _ (p : Params) (la lb lo : ℕ) where
  pub product_good : product_number p la lb lo ≡ 0 → ProductGood p la lb lo
  unfolding product_number
  product_good e =
      let f = good p (product_checks p la lb lo) refl e in
      record { range = in_range p f.0; left = f.1.0; right = f.1.1.0; into = f.1.1.1.0 }

  pub product_passes : InRange p → la ≡ size p → lb ≡ size p → lo ≡ size p → product_number p la lb lo ≡ 0
  unfolding product_number
  product_passes r a b o = done p (product_checks p la lb lo) (not_refused p r, (a, (b, (o, tt))))

-- ---- the rows

-- turn j's terms, as the code says them and as the sum does
pub row_term : (a twice : List ℕ) (n j x : ℕ) → x < n
    → at a (n - (j + 1)) * at (take (j + 1 + n - (j + 1)) (drop (j + 1) twice)) x ≡ at a (n - suc j) * at twice (suc j + x)
row_term a twice n j x l = ap (λ (y : ℕ). at a (n - (j + 1)) * y) (slice_at twice (j + 1) n x l) ∙ ap (λ (e : ℕ). at a (n - e) * at twice (e + x)) (add-one j)

-- ---- the doubled row

module _ (N : ℕ) (b : List ℕ) where
  pub doubled_low : (i : ℕ) → i < N → doubled_at N b i ≡ neg (at b i) % Q
  unfolding doubled_at
  doubled_low i l = rw (lt-ltb i N l)

  pub doubled_high : (i : ℕ) → N ≤ i → doubled_at N b i ≡ at b (i - N)
  unfolding doubled_at
  doubled_high i l = rw (le-ltb i N l)

  -- the window from place N - i on holds X^i · b
  pub window : (k i : ℕ) → k < N → i < N → at (doubled N b) (N + k - i) % Q ≡ before N b k i % Q
  unfolding before doubled
  window k i lk li =
      ap (λ (y : ℕ). y % Q) (at-tab (N + N) (doubled_at N b) (N + k - i) (omega arith))
      ∙ by_test (leb i k) (λ (c : Bool). doubled_at N b (N + k - i) % Q ≡ cond c (at b (k - i)) (neg (at b (N + k - i))) % Q)
      (λ t. ap (λ (y : ℕ). y % Q) (doubled_high (N + k - i) (let u : i ≤ k = leb→le i k t in omega arith))
      ∙ ap (λ (y : ℕ). at b y % Q) (let u : i ≤ k = leb→le i k t in omega arith))
      (λ t. ap (λ (y : ℕ). y % Q) (doubled_low (N + k - i) (let u : k < i = nleb→lt i k t in omega arith)) ∙ mod-mod _ Q)

-- the first half: b subtracted from zeros
module _ (b : List ℕ) {n : ℕ} {zeros front : List ℕ} (l : n ≡ length b) (z : zeros ≡ tab n (λ i. 0)) (f : front ≡ minus (length zeros) zeros b) where
  pub negated_length : length front ≡ length b
  negated_length = ap length f ∙ length-minus (length zeros) zeros b ∙ ap length z ∙ length-tab n (λ i. 0) ∙ l

  pub negated_at : (k : ℕ) → k < length b → at front k ≡ neg (at b k) % Q
  unfolding minus
  negated_at k h =
      let m : k < length zeros = rw (z, length-tab n (λ i. 0), l) h in
      ap (λ (x : List ℕ). at x k) f ∙ at-tab (length zeros) (λ i. (at zeros i + neg (at b i)) % Q) k m
      ∙ ap (λ (x : ℕ). (x + neg (at b k)) % Q) (ap (λ (x : List ℕ). at x k) z ∙ at-tab n (λ i. 0) k (rw l h))
      ∙ ap (λ (x : ℕ). x % Q) (let u : 0 + neg (at b k) ≡ neg (at b k) = omega arith in u)

-- the two halves, one after the other
pub doubled_parts : (b front : List ℕ) → length front ≡ length b → ((k : ℕ) → k < length b → at front k ≡ neg (at b k) % Q) → front ++ b ≡ doubled (length b) b
unfolding doubled
doubled_parts b front e low = tab_of (front ++ b) (length b + length b) (doubled_at (length b) b) (simp length-append (omega arith)) (λ k l. go k l (ltb k (length b)) refl)
  where
    go : (k : ℕ) → k < length b + length b → (t : Bool) → ltb k (length b) ≡ t → at (front ++ b) k ≡ doubled_at (length b) b k
    go k l true t =
        let q : k < length b = ltb-true k (length b) t in
        get_or-append front b 0 k (omega arith) ∙ low k q ∙ sym (doubled_low (length b) b k q)
    go k l false t =
        let q : length b ≤ k = ltb-false k (length b) t in
        let u : k ≡ length front + (k - length b) = omega arith in
        ap (at (front ++ b)) u ∙ get_or-append-add front b (k - length b) 0 ∙ sym (doubled_high (length b) b k q)

-- the rows, last coefficient first, add up to the product
pub rows_sum : (N : ℕ) (a b : List ℕ) (k : ℕ) → k < N
    → sum_to N (λ j. at a (N - suc j) * at (doubled N b) (suc j + k)) % Q ≡ sum_to N (λ i. at a i * before N b k i) % Q
rows_sum N a b k l =
    sum_mod N (λ j. at a (N - suc j) * at (doubled N b) (suc j + k)) (λ j. at a (N - suc j) * before N b k (N - suc j))
    (λ j lj. sym (mul-mod_r (at a (N - suc j)) (at (doubled N b) (suc j + k)))
    ∙ ap (λ (y : ℕ). at a (N - suc j) * y % Q) (ap (λ (y : ℕ). at (doubled N b) y % Q) (let u : suc j + k ≡ N + k - (N - suc j) = omega arith in u) ∙ window N b k (N - suc j) l (omega arith))
    ∙ mul-mod_r (at a (N - suc j)) (before N b k (N - suc j)))
    ∙ sym (ap (λ (y : ℕ). y % Q) (sum_back N (λ i. at a i * before N b k i)))

-- what the loop over the rows leaves
pub rows_product : (N : ℕ) (a b o : List ℕ) → acc_to N (at o) (λ k j. at a (N - suc j) * at (doubled N b) (suc j + k)) N ≡ plus N o (times N a b)
unfolding acc_to plus times
rows_product N a b o = tab_ext N _ _ (λ k l.
    sym (add-mod-mod (at o k) (sum_to N (λ j. at a (N - suc j) * at (doubled N b) (suc j + k))) Q)
    ∙ ap (λ (y : ℕ). (at o k + y) % Q) (rows_sum N a b k l ∙ sym (at-tab N (λ k. sum_to N (λ i. at a i * before N b k i) % Q) k l)))

-- a product added to nothing is the product
pub plus-zero : (N : ℕ) (a b : List ℕ) → plus N (tab N (λ i. 0)) (times N a b) ≡ times N a b
unfolding plus times
plus-zero N a b = tab_ext N _ _ (λ k l.
    ap₂ (λ (x y : ℕ). (x + y) % Q) (at-tab N (λ i. 0) k l) (at-tab N (λ k. sum_to N (λ i. at a i * before N b k i) % Q) k l)
    ∙ ap (λ (y : ℕ). y % Q) (let u : 0 + sum_to N (λ i. at a i * before N b k i) % Q ≡ sum_to N (λ i. at a i * before N b k i) % Q = omega arith in u)
    ∙ mod-mod _ Q)

-- a whole call, with what its two loops left
pub product_added : (N : ℕ) (a b o : List ℕ) {twice out : List ℕ} → length b ≡ N → twice ≡ doubled (length b) b
    → out ≡ acc_to N (at o) (λ k j. at a (N - suc j) * at twice (suc j + k)) N → out ≡ plus N o (times N a b)
product_added N a b o e t s =
    s ∙ ap (λ (r : List ℕ). acc_to N (at o) (λ k j. at a (N - suc j) * at r (suc j + k)) N) (t ∙ ap (λ (m : ℕ). doubled m b) e) ∙ rows_product N a b o

-- and what `poly_mul` leaves, which clears out first
pub put_out : (p : Params) (a b o : List ℕ) {zeros out : List ℕ} → product_number p (length a) (length b) (length o) ≡ 0 → length o ≡ size p
    → zeros ≡ tab (length o) (λ i. 0) → out ≡ plus (length zeros) zeros (times (length zeros) a b) → out ≡ poly_mul_out p a b o
put_out p a b o n e z s =
    let l = ap length z ∙ length-tab (length o) (λ i. 0) ∙ e in
    s ∙ ap₂ (λ (m : ℕ) (c : List ℕ). plus m c (times m a b)) l (z ∙ ap (λ (m : ℕ). tab m (λ i. 0)) e) ∙ plus-zero (size p) a b ∙ sym (when_done _ _ _ n)
