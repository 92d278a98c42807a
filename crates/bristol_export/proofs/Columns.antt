-- The tables of src/gate.rt are the columns of the table of lines: each is tested whole, at the places that a kind has lines for.
-- Assumes nothing.
use mathlib.Core.Path.{◌≡◌, ap, ap₂, subst, ◌∙◌}
use mathlib.Core.Bool.{Bool, true, cond}
use mathlib.Core.List.{List, [], ◌∷◌}
use Prim.Native.Nat.{ℕ, zero, suc, ◌+◌, ◌*◌, ◌/◌, ◌%◌, ◌≤◌, ◌<◌}
use native.Mathlib.Omega.{arith}
use borrow.Author.Tests.{lt-ltb}
use lib.Dec.{T, leb, ltb, eqb, eqb→eq, leb→le}
use lib.ListN.{get_or}
use Rattle.kinds.proofs.Table.{both, both_left, both_right, every, entry}
use Rattle.bristol_export.specs.Steps.{Step, steps, steps_of, count, step_at, source_of}

-- ---- how many lines

abbrev pub count_table : List ℕ
count_table = 1 ∷ 1 ∷ 1 ∷ 1 ∷ 3 ∷ 2 ∷ 3 ∷ 1 ∷ 2 ∷ 2 ∷ 2 ∷ 3 ∷ 3 ∷ 3 ∷ []

-- x is y, and from low to high
within : ℕ → ℕ → ℕ → ℕ → Bool
within low high y x = both (eqb x y) (both (leb low x) (leb x high))

within_is : (low high y x : ℕ) → T (within low high y x) → (x ≡ y) × (low ≤ x) × (x ≤ high)
unfolding within
within_is low high y x t =
    let r = both_right (eqb x y) (both (leb low x) (leb x high)) t in
    (eqb→eq x y (both_left (eqb x y) (both (leb low x) (leb x high)) t), leb→le low x (both_left (leb low x) (leb x high) r), leb→le x high (both_right (leb low x) (leb x high) r))

count_right : ℕ → ℕ → Bool
count_right k x = within 1 3 (count k) x

pub count_entry : (k : ℕ) → k ≤ 13 → (get_or count_table k 0 ≡ count k) × (1 ≤ get_or count_table k 0) × (get_or count_table k 0 ≤ 3)
unfolding within count_right count steps_of steps
count_entry k h = within_is 1 3 (count k) (get_or count_table k 0) (entry count_right count_table tt k (omega arith))

pub count_to : (k : ℕ) → k ≤ 13 → (1 ≤ count k) × (count k ≤ 3)
count_to k h = let e = count_entry k h in (omega arith, omega arith)

-- ---- the lines

abbrev pub line_table : List ℕ
line_table =
    455 ∷ 0 ∷ 0
    ∷ 466 ∷ 0 ∷ 0
    ∷ 300 ∷ 0 ∷ 0
    ∷ 201 ∷ 0 ∷ 0
    ∷ 101 ∷ 201 ∷ 134
    ∷ 201 ∷ 333 ∷ 0
    ∷ 300 ∷ 311 ∷ 234
    ∷ 101 ∷ 0 ∷ 0
    ∷ 101 ∷ 333 ∷ 0
    ∷ 300 ∷ 231 ∷ 0
    ∷ 311 ∷ 203 ∷ 0
    ∷ 311 ∷ 203 ∷ 344
    ∷ 300 ∷ 231 ∷ 344
    ∷ 112 ∷ 203 ∷ 142
    ∷ []

module _ (column : Step → ℕ) (digit : ℕ → ℕ) (low high : ℕ) where
  -- place i is that of line i % 3 of kind i / 3
  line_right : ℕ → ℕ → Bool
  line_right i x = cond (ltb (i % 3) (count (i / 3))) (within low high (column (step_at (i / 3) (i % 3))) (digit x)) true

  -- a digit of each line is a column of the steps
  line_entry : T (every line_right 0 line_table) → (k s : ℕ) → k ≤ 13 → s < count k → (digit (get_or line_table (3 * k + s) 0) ≡ column (step_at k s)) × (low ≤ digit (get_or line_table (3 * k + s) 0)) × (digit (get_or line_table (3 * k + s) 0) ≤ high)
  unfolding line_right
  line_entry test k s h l =
      let c = count_to k h in
      let i = 3 * k + s in
      let ek : i / 3 ≡ k = omega arith in
      let es : i % 3 ≡ s = omega arith in
      let x = digit (get_or line_table i 0) in
      let t : T (cond (ltb (i % 3) (count (i / 3))) (within low high (column (step_at (i / 3) (i % 3))) x) true) = entry line_right line_table test i (omega arith) in
      within_is low high (column (step_at k s)) x
      (subst (λ (b : Bool). T b) (ap₂ (λ (q r : ℕ). cond (ltb r (count q)) (within low high (column (step_at q r)) x) true) ek es ∙ ap (λ (b : Bool). cond b (within low high (column (step_at k s)) x) true) (lt-ltb s (count k) l)) t)

module _ (k s : ℕ) (h : k ≤ 13) (l : s < count k) where
  pub name_entry : (get_or line_table (3 * k + s) 0 / 100 ≡ (step_at k s).name) × (1 ≤ get_or line_table (3 * k + s) 0 / 100) × (get_or line_table (3 * k + s) 0 / 100 ≤ 4)
  unfolding line_right within count step_at steps_of steps
  name_entry = line_entry (λ t. t.name) (λ x. x / 100) 1 4 tt k s h l

  pub first_entry : (get_or line_table (3 * k + s) 0 / 10 % 10 ≡ (step_at k s).first) × (0 ≤ get_or line_table (3 * k + s) 0 / 10 % 10) × (get_or line_table (3 * k + s) 0 / 10 % 10 ≤ 6)
  unfolding line_right within count step_at steps_of steps
  first_entry = line_entry (λ t. t.first) (λ x. x / 10 % 10) 0 6 tt k s h l

  pub second_entry : (get_or line_table (3 * k + s) 0 % 10 ≡ (step_at k s).second) × (0 ≤ get_or line_table (3 * k + s) 0 % 10) × (get_or line_table (3 * k + s) 0 % 10 ≤ 6)
  unfolding line_right within count step_at steps_of steps
  second_entry = line_entry (λ t. t.second) (λ x. x % 10) 0 6 tt k s h l

-- ---- what a line writes for what it reads

-- each of the seven is below a bound that the five wires are below
pub source_below : (which a b c n m : ℕ) → which < 7 → a < m → b < m → c < m → n + 1 < m → source_of which a b c n < m
unfolding source_of
source_below zero a b c n m w ha hb hc hn = ha
source_below (suc zero) a b c n m w ha hb hc hn = hb
source_below (suc (suc zero)) a b c n m w ha hb hc hn = hc
source_below (suc (suc (suc zero))) a b c n m w ha hb hc hn = omega arith
source_below (suc (suc (suc (suc zero)))) a b c n m w ha hb hc hn = hn
source_below (suc (suc (suc (suc (suc zero))))) a b c n m w ha hb hc hn = omega arith
source_below (suc (suc (suc (suc (suc (suc zero)))))) a b c n m w ha hb hc hn = omega arith
source_below (suc (suc (suc (suc (suc (suc (suc x))))))) a b c n m w ha hb hc hn = absurd (let q : ⊥ = omega arith in q)
