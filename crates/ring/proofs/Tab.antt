-- Lists made by `tab`: their length and words, equality by words, and the invariant of a loop that writes one from the front, `tab i f ++ drop i o`.
-- Each law is an induction on the length; the loop laws turn one store into one more word.
-- Assumes nothing.
use Rattle.std.proofs.Common.{◌≡◌, ℕ, zero, suc, ◌+◌, ◌<◌, ◌≤◌, List, [], ◌∷◌, ◌++◌, length, drop, set, sym, refl, ap, ◌∙◌, ap₂, append-nil, le_antisymm, add-one, arith, length-append, length-drop, drop_of_length-le, drop-cons, ext_get_or, drop_at}
use lib.Seq.{set_at, get_or_at, append_snoc}
use Rattle.ring.specs.Word.{Q, Q_pos, at}
use Rattle.ring.specs.Sums.{tab}

pub at-tab : (n : ℕ) (f : ℕ → ℕ) (i : ℕ) → i < n → at (tab n f) i ≡ f i
unfolding tab
at-tab zero f i h = absurd (let q : ⊥ = omega arith in q)
at-tab (suc n) f zero h = refl
at-tab (suc n) f (suc i) h = at-tab n (λ j. f (suc j)) i (omega arith)

pub length-tab : (n : ℕ) (f : ℕ → ℕ) → length (tab n f) ≡ n
unfolding tab
length-tab zero f = refl
length-tab (suc n) f = ap suc (length-tab n (λ j. f (suc j)))

pub tab_ext : (n : ℕ) (f g : ℕ → ℕ) → ((i : ℕ) → i < n → f i ≡ g i) → tab n f ≡ tab n g
unfolding tab
tab_ext zero f g h = refl
tab_ext (suc n) f g h = ap₂ ◌∷◌ (h 0 (omega arith)) (tab_ext n (λ i. f (suc i)) (λ i. g (suc i)) (λ i l. h (suc i) (omega arith)))

-- a list that has the words of f is the tab of f
pub tab_of : (l : List ℕ) (n : ℕ) (f : ℕ → ℕ) → length l ≡ n → ((i : ℕ) → i < n → at l i ≡ f i) → l ≡ tab n f
tab_of l n f e h = ext_get_or 0 l (tab n f) (e ∙ sym (length-tab n f)) (λ i b. let b' : i < n = omega arith in h i b' ∙ sym (at-tab n f i b'))

-- the last word apart
pub tab_snoc : (n : ℕ) (f : ℕ → ℕ) → tab (suc n) f ≡ tab n f ++ (f n ∷ [])
unfolding tab
tab_snoc zero f = refl
tab_snoc (suc n) f = ap (λ (l : List ℕ). f 0 ∷ l) (tab_snoc n (λ i. f (suc i)))

-- every word is below Q
pub tab_below : (n : ℕ) (f : ℕ → ℕ) → ((i : ℕ) → f i < Q) → (i : ℕ) → at (tab n f) i < Q
unfolding tab
tab_below zero f h i = Q_pos
tab_below (suc n) f h zero = h 0
tab_below (suc n) f h (suc i) = tab_below n (λ j. f (suc j)) (λ j. h (suc j)) i

-- ---- a loop that writes f 0, f 1, .. over the list o

pub tab_none : (f : ℕ → ℕ) (o : List ℕ) → o ≡ tab 0 f ++ drop 0 o
unfolding tab
tab_none f o = refl

module _ (f : ℕ → ℕ) (o : List ℕ) where
  pub length_filled : (i : ℕ) → i ≤ length o → length (tab i f ++ drop i o) ≡ length o
  length_filled i h = simp (length-append, length-tab, length-drop) (omega arith)

  module _ (i : ℕ) {out : List ℕ} (h : i < length o) (inv : out ≡ tab i f ++ drop i o) where
    -- what is still to be written is as it came
    pub tab_read : at out i ≡ at o i
    tab_read = rw (inv, drop-cons o i 0 h) (get_or_at (tab i f) (at o i) (drop (suc i) o) 0 i (length-tab i f))

    pub tab_more : {v : ℕ} → v ≡ f i → set out i v ≡ tab (i + 1) f ++ drop (i + 1) o
    tab_more e = rw (inv, drop-cons o i 0 h, e, set_at (tab i f) (at o i) (drop (suc i) o) (f i) i (length-tab i f), add-one, tab_snoc) (sym (append_snoc (tab i f) (f i) (drop (suc i) o)))

  -- the loop's end, n being the list's length
  pub tab_done : (i n : ℕ) {out : List ℕ} → i ≤ n → n ≤ i → length o ≡ n → out ≡ tab i f ++ drop i o → out ≡ tab n f
  tab_done i n a b e inv =
      let l : length o ≤ i = omega arith in
      inv ∙ rw (drop_of_length-le o l, append-nil, le_antisymm a b)

  -- the tab is whole, and one word comes after it
  pub tab_last : (i n v : ℕ) {out : List ℕ} → i ≤ n → n ≤ i → length o ≡ n + 1 → out ≡ tab i f ++ drop i o → set out n v ≡ tab n f ++ (v ∷ [])
  tab_last i n v {out} a b e inv =
      let h : n < length o = omega arith in
      let z : length o ≤ suc n = omega arith in
      rw (inv, le_antisymm a b, drop-cons o n 0 h, drop_of_length-le o z) (set_at (tab n f) (at o n) [] v n (length-tab n f))

  -- the tab fills the front of a list that is longer
  pub tab_part : (i n : ℕ) {out : List ℕ} → i ≤ n → n ≤ i → out ≡ tab i f ++ drop i o → out ≡ tab n f ++ drop n o
  tab_part i n a b inv = inv ∙ rw (le_antisymm a b)

  -- a second loop goes on from what the first left
  pub tab_resume : (i : ℕ) {out : List ℕ} → out ≡ tab i f ++ drop i o → out ≡ tab i f ++ drop i out
  tab_resume i inv = inv ∙ ap (λ (r : List ℕ). tab i f ++ r) (sym (ap (drop i) inv ∙ drop_at (tab i f) (drop i o) i (length-tab i f)))
