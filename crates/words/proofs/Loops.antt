-- The laws of a copy, and of a loop that stops at the shorter of two slices.
-- Assumes nothing.
use mathlib.Core.Path.{◌≡◌, refl, sym, ap, ap₂, ◌∙◌}
use mathlib.Core.List.{List, [], ◌∷◌, ◌++◌, append-nil}
use mathlib.Core.Bool.{Bool, true, false}
use Prim.Native.Nat.{ℕ, suc, ◌+◌, ◌%◌, ◌≤◌, ◌<◌, min}
use native.Mathlib.Omega.{arith}
use borrow.Author.Tests.{ltb-true, ltb-false}
use lib.Dec.{ltb}
use lib.ListN.{length, take, drop, set, get_or-eq_default, drop_of_length-le}
use lib.Seq.{take_all, drop-cons, set_at, length-take-le}
use Rattle.std.proofs.lemmas.List.{get_or-take}
use Rattle.ring.specs.Word.{Q, at, neg}
use Rattle.ring.specs.Sums.{tab}
use Rattle.ring.specs.Poly.{plus, minus}
use Rattle.ring.proofs.Tab.{tab_of}
use Rattle.words.specs.Copy.{copied}

-- as long as the slice: the list itself
pub copied_all : (a o : List ℕ) → length a ≡ length o → copied a o ≡ a
unfolding copied
copied_all a o e =
    let h : length a ≤ length o = omega arith in
    let k : length o ≤ length a = omega arith in
    rw (take_all (length o) a h, drop_of_length-le o k) (append-nil a)

-- no longer than the slice: the list, and then what stood there
pub copied_front : (a o : List ℕ) → length a ≤ length o → copied a o ≡ a ++ drop (length a) o
unfolding copied
copied_front a o h = rw (take_all (length o) a h)

-- into one word more, which is written then: the list, and that word after it
pub copied_last : (a o : List ℕ) (v : ℕ) {out : List ℕ} → length o ≡ length a + 1 → out ≡ copied a o → set out (length a) v ≡ a ++ (v ∷ [])
copied_last a o v e c =
    let h : length a < length o = omega arith in
    let f : length a ≤ length o = omega arith in
    let z : length o ≤ suc (length a) = omega arith in
    rw (c ∙ copied_front a o f, drop-cons o (length a) 0 h, drop_of_length-le o z) (set_at a (at o (length a)) [] v (length a) refl)

-- where the copy stops at the shorter
pub copied_least : (a o : List ℕ) (n : ℕ) → n ≡ min (length a) (length o) → take n a ++ drop n o ≡ copied a o
unfolding copied
copied_least a o n e = go (ltb (length o) (length a)) refl
  where
    go : (b : Bool) → ltb (length o) (length a) ≡ b → take n a ++ drop n o ≡ take (length o) a ++ drop (length a) o
    go true t =
        let h : length o < length a = ltb-true (length o) (length a) t in
        let s : n ≡ length o = omega arith in
        let k : length o ≤ length a = omega arith in
        let q : length o ≤ length o = omega arith in
        rw s (ap (λ (l : List ℕ). take (length o) a ++ l) (drop_of_length-le o q ∙ sym (drop_of_length-le o k)))
    go false t =
        let h : length a ≤ length o = ltb-false (length o) (length a) t in
        let s : n ≡ length a = omega arith in
        let q : length a ≤ length a = omega arith in
        rw s (ap (λ (l : List ℕ). l ++ drop (length a) o) (take_all (length a) a q ∙ sym (take_all (length o) a h)))

-- the same of the loop, which writes a's words one after another
pub copied_by : (a o : List ℕ) (n : ℕ) {out : List ℕ} → n ≡ min (length a) (length o) → out ≡ tab n (at a) ++ drop n o → out ≡ copied a o
copied_by a o n e h =
    let l : n ≤ length a = omega (arith, e) in
    h ∙ ap (λ (x : List ℕ). x ++ drop n o) (sym (tab_of (take n a) n (at a) (length-take-le n a l) (λ k lk. get_or-take n a k 0 lk))) ∙ copied_least a o n e

-- ---- what `combine` leaves, as the tab of an operation f whose second operand 0 changes no word

pub combined : (f : ℕ → ℕ → ℕ) (a o : List ℕ) {new : List ℕ} → length new ≡ length o
    → ((k : ℕ) → k < length a → k < length o → at new k ≡ f (at o k) (at a k)) → ((k : ℕ) → length a ≤ k → at new k ≡ at o k)
    → ((k : ℕ) → f (at new k) 0 ≡ at new k) → new ≡ tab (length o) (λ k. f (at o k) (at a k))
combined f a o {new} e both rest none = tab_of new (length o) (λ k. f (at o k) (at a k)) e (λ k l. go k l (ltb k (length a)) refl)
  where
    go : (k : ℕ) → k < length o → (b : Bool) → ltb k (length a) ≡ b → at new k ≡ f (at o k) (at a k)
    go k l true t = both k (ltb-true k (length a) t) l
    go k l false t =
        let q : length a ≤ k = ltb-false k (length a) t in
        rest k q ∙ sym (ap (f (at o k)) (get_or-eq_default a 0 q) ∙ ap (λ (x : ℕ). f x 0) (sym (rest k q)) ∙ none k ∙ rest k q)

-- the sum and the difference: nothing added to a word, or subtracted from it, leaves the word
module _ (a o : List ℕ) {new : List ℕ} (e : length new ≡ length o) (fits : (k : ℕ) → at new k < Q) (rest : (k : ℕ) → length a ≤ k → at new k ≡ at o k) where
  pub added : ((k : ℕ) → k < length a → k < length o → at new k ≡ (at o k + at a k) % Q) → new ≡ plus (length o) o a
  unfolding plus Q
  added both = combined (λ x y. (x + y) % Q) a o e both rest (λ k. let h = fits k in omega arith)

  pub subtracted : ((k : ℕ) → k < length a → k < length o → at new k ≡ (at o k + neg (at a k)) % Q) → new ≡ minus (length o) o a
  unfolding minus neg Q
  subtracted both = combined (λ x y. (x + neg y) % Q) a o e both rest (λ k. let h = fits k in omega arith)

-- ---- for callers: slices of one length N

module _ {N : ℕ} (x o : List ℕ) (lx : length x ≡ N) (lo : length o ≡ N) where
  pub copy_whole : {new : List ℕ} → new ≡ copied x o → new ≡ x
  copy_whole e = e ∙ copied_all x o (lx ∙ sym lo)

  pub difference_whole : (y : List ℕ) {new : List ℕ} → new ≡ minus (length o) (copied x o) y → new ≡ minus N x y
  difference_whole y e = e ∙ ap₂ (λ (k : ℕ) (l : List ℕ). minus k l y) lo (copied_all x o (lx ∙ sym lo))
