-- The lines of each kind: they read only what is there, and the last of them has the kind's meaning. Both are tested over the whole table.
-- Assumes nothing.
use mathlib.Core.Path.{◌≡◌, refl, ap, ap₂, subst, ◌∙◌}
use mathlib.Core.Logic.{◌⊎◌, inl, inr}
use mathlib.Core.Bool.{Bool, true, false, xor, cond}
use mathlib.Core.List.{[], ◌∷◌}
use Prim.Native.Nat.{ℕ, zero, suc, ◌+◌, ◌*◌, ◌/◌, ◌%◌, ◌≤◌, ◌<◌}
use native.Mathlib.Omega.{arith}
use native.Mathlib.Decide.{ℕ_discrete}
use borrow.Author.Tests.{lt-ltb, eq-eqb, ne_eqb}
use lib.Dec.{T, leb, ltb, eqb, leb→le, ltb→lt}
use lib.ListN.{get_or}
use Rattle.kinds.specs.Kinds.{kinds, kind_of}
use Rattle.kinds.proofs.Table.{both, both_left, both_right, same, same_is, entry}
use Rattle.bristol_form.specs.Meaning.{name_meaning}
use Rattle.bristol_export.specs.Steps.{Step, steps, steps_of, count, step_at, source_of}
use Rattle.bristol_export.proofs.Columns.{count_table, line_table, count_to}

-- ---- what a line reads is there

-- an operand that the kind needs, or the wire of an earlier line of the gate
readable : ℕ → ℕ → ℕ → Bool
readable operands s zero = ltb 0 operands
readable operands s (suc zero) = ltb 1 operands
readable operands s (suc (suc zero)) = ltb 2 operands
readable operands s (suc (suc (suc zero))) = ltb 0 s
readable operands s (suc (suc (suc (suc zero)))) = ltb 1 s
readable operands s (suc (suc (suc (suc (suc x))))) = false

step_right : ℕ → ℕ → Step → Bool
step_right operands s t = cond (eqb t.name 4) (both (leb 5 t.first) (leb t.first 6)) (both (readable operands s t.first) (readable operands s t.second))

place_right : ℕ → ℕ → Bool
place_right i x = cond (ltb (i % 3) (count (i / 3))) (step_right (kind_of (i / 3)).operands (i % 3) (step_at (i / 3) (i % 3))) true

step_test : (k s : ℕ) → k ≤ 13 → s < count k → T (step_right (kind_of k).operands s (step_at k s))
unfolding place_right step_right readable count step_at steps_of steps kind_of kinds
step_test k s h l = take (entry place_right line_table tt (3 * k + s) (let c = count_to k h in omega arith))
  where
    take : T (place_right (3 * k + s) (get_or line_table (3 * k + s) 0)) → T (step_right (kind_of k).operands s (step_at k s))
    take t =
        let c = count_to k h in
        let ek : (3 * k + s) / 3 ≡ k = omega arith in
        let es : (3 * k + s) % 3 ≡ s = omega arith in
        subst (λ (b : Bool). T b)
        (ap₂ (λ (q r : ℕ). cond (ltb r (count q)) (step_right (kind_of q).operands r (step_at q r)) true) ek es ∙ ap (λ (b : Bool). cond b (step_right (kind_of k).operands s (step_at k s)) true) (lt-ltb s (count k) l)) t

-- the three operands are below the first new wire where they are needed
pub record Below (operands a b c n : ℕ) : Type 0 where
  pub a_below : 0 < operands → a < n
  pub b_below : 1 < operands → b < n
  pub c_below : 2 < operands → c < n

readable_below : (operands s x a b c n : ℕ) → T (readable operands s x) → Below operands a b c n → source_of x a b c n < n + s
unfolding readable source_of
readable_below operands s zero a b c n t h = let z = h.a_below (ltb→lt 0 operands t) in omega arith
readable_below operands s (suc zero) a b c n t h = let z = h.b_below (ltb→lt 1 operands t) in omega arith
readable_below operands s (suc (suc zero)) a b c n t h = let z = h.c_below (ltb→lt 2 operands t) in omega arith
readable_below operands s (suc (suc (suc zero))) a b c n t h = let z = ltb→lt 0 s t in omega arith
readable_below operands s (suc (suc (suc (suc zero)))) a b c n t h = let z = ltb→lt 1 s t in omega arith
readable_below operands s (suc (suc (suc (suc (suc x))))) a b c n t h = absurd t

-- EQ's constants
constant_small : (x a b c n : ℕ) → 5 ≤ x → x ≤ 6 → source_of x a b c n ≤ 1
unfolding source_of
constant_small zero a b c n l h = absurd (let q : ⊥ = omega arith in q)
constant_small (suc zero) a b c n l h = absurd (let q : ⊥ = omega arith in q)
constant_small (suc (suc zero)) a b c n l h = absurd (let q : ⊥ = omega arith in q)
constant_small (suc (suc (suc zero))) a b c n l h = absurd (let q : ⊥ = omega arith in q)
constant_small (suc (suc (suc (suc zero)))) a b c n l h = absurd (let q : ⊥ = omega arith in q)
constant_small (suc (suc (suc (suc (suc zero))))) a b c n l h = omega arith
constant_small (suc (suc (suc (suc (suc (suc zero)))))) a b c n l h = omega arith
constant_small (suc (suc (suc (suc (suc (suc (suc x))))))) a b c n l h = absurd (let q : ⊥ = omega arith in q)

constant_same : (x a b c n : ℕ) → 5 ≤ x → x ≤ 6 → source_of x a b c n ≡ source_of x 0 0 0 0
unfolding source_of
constant_same zero a b c n l h = absurd (let q : ⊥ = omega arith in q)
constant_same (suc zero) a b c n l h = absurd (let q : ⊥ = omega arith in q)
constant_same (suc (suc zero)) a b c n l h = absurd (let q : ⊥ = omega arith in q)
constant_same (suc (suc (suc zero))) a b c n l h = absurd (let q : ⊥ = omega arith in q)
constant_same (suc (suc (suc (suc zero)))) a b c n l h = absurd (let q : ⊥ = omega arith in q)
constant_same (suc (suc (suc (suc (suc zero))))) a b c n l h = refl
constant_same (suc (suc (suc (suc (suc (suc zero)))))) a b c n l h = refl
constant_same (suc (suc (suc (suc (suc (suc (suc x))))))) a b c n l h = absurd (let q : ⊥ = omega arith in q)

-- a line reads a constant if it is EQ, and else two things that are there
step_reads : (k s : ℕ) → k ≤ 13 → s < count k
    → (((step_at k s).name ≡ 4) × (5 ≤ (step_at k s).first) × ((step_at k s).first ≤ 6))
    ⊎ (((step_at k s).name ≡ 4 → ⊥) × T (readable (kind_of k).operands s (step_at k s).first) × T (readable (kind_of k).operands s (step_at k s).second))
unfolding step_right
step_reads k s h l = go (ℕ_discrete (step_at k s).name 4) (step_test k s h l)
  where
    go : Dec ((step_at k s).name ≡ 4) → T (step_right (kind_of k).operands s (step_at k s))
        → (((step_at k s).name ≡ 4) × (5 ≤ (step_at k s).first) × ((step_at k s).first ≤ 6))
        ⊎ (((step_at k s).name ≡ 4 → ⊥) × T (readable (kind_of k).operands s (step_at k s).first) × T (readable (kind_of k).operands s (step_at k s).second))
    go (yes e) t =
        let u : T (both (leb 5 (step_at k s).first) (leb (step_at k s).first 6)) = subst (λ (q : Bool). T (cond q (both (leb 5 (step_at k s).first) (leb (step_at k s).first 6)) (both (readable (kind_of k).operands s (step_at k s).first) (readable (kind_of k).operands s (step_at k s).second)))) (eq-eqb (step_at k s).name 4 e) t in
        inl (e, leb→le 5 (step_at k s).first (both_left (leb 5 (step_at k s).first) (leb (step_at k s).first 6) u), leb→le (step_at k s).first 6 (both_right (leb 5 (step_at k s).first) (leb (step_at k s).first 6) u))
    go (no d) t =
        let u : T (both (readable (kind_of k).operands s (step_at k s).first) (readable (kind_of k).operands s (step_at k s).second)) = subst (λ (q : Bool). T (cond q (both (leb 5 (step_at k s).first) (leb (step_at k s).first 6)) (both (readable (kind_of k).operands s (step_at k s).first) (readable (kind_of k).operands s (step_at k s).second)))) (ne_eqb (step_at k s).name 4 d) t in
        inr (d, both_left (readable (kind_of k).operands s (step_at k s).first) (readable (kind_of k).operands s (step_at k s).second) u, both_right (readable (kind_of k).operands s (step_at k s).first) (readable (kind_of k).operands s (step_at k s).second) u)

module _ (k s : ℕ) (h : k ≤ 13) (l : s < count k) (a b c n : ℕ) (below : Below (kind_of k).operands a b c n) where
  pub first_there : (((step_at k s).name ≡ 4) × (source_of (step_at k s).first a b c n ≤ 1)) ⊎ (((step_at k s).name ≡ 4 → ⊥) × (source_of (step_at k s).first a b c n < n + s))
  first_there = go (step_reads k s h l)
    where
      go : (((step_at k s).name ≡ 4) × (5 ≤ (step_at k s).first) × ((step_at k s).first ≤ 6))
          ⊎ (((step_at k s).name ≡ 4 → ⊥) × T (readable (kind_of k).operands s (step_at k s).first) × T (readable (kind_of k).operands s (step_at k s).second))
          → (((step_at k s).name ≡ 4) × (source_of (step_at k s).first a b c n ≤ 1)) ⊎ (((step_at k s).name ≡ 4 → ⊥) × (source_of (step_at k s).first a b c n < n + s))
      go (inl e) = inl (e.0, constant_small (step_at k s).first a b c n e.1 e.2)
      go (inr e) = inr (e.0, readable_below (kind_of k).operands s (step_at k s).first a b c n e.1 below)

  pub second_there : (step_at k s).name < 3 → source_of (step_at k s).second a b c n < n + s
  second_there m = go (step_reads k s h l)
    where
      go : (((step_at k s).name ≡ 4) × (5 ≤ (step_at k s).first) × ((step_at k s).first ≤ 6))
          ⊎ (((step_at k s).name ≡ 4 → ⊥) × T (readable (kind_of k).operands s (step_at k s).first) × T (readable (kind_of k).operands s (step_at k s).second))
          → source_of (step_at k s).second a b c n < n + s
      go (inl e) = absurd (let z = e.0 in let q : ⊥ = omega arith in q)
      go (inr e) = readable_below (kind_of k).operands s (step_at k s).second a b c n e.2 below

-- ---- what the lines come to

-- the bit of what is read, by the operands' bits and those of the first two lines
unfoldable pub pick : ℕ → Bool → Bool → Bool → Bool → Bool → Bool
pick x a b c v w = get_or (a ∷ b ∷ c ∷ v ∷ w ∷ []) x false

unfoldable pub step_bit : Step → Bool → Bool → Bool → Bool → Bool → Bool
step_bit t a b c v w = name_meaning t.name (source_of t.first 0 0 0 0) (pick t.first a b c v w) (pick t.second a b c v w)

-- the bits of a kind's first line, second and third
unfoldable pub bit_one : ℕ → Bool → Bool → Bool → Bool
bit_one k a b c = step_bit (step_at k 0) a b c false false

unfoldable pub bit_two : ℕ → Bool → Bool → Bool → Bool
bit_two k a b c = step_bit (step_at k 1) a b c (bit_one k a b c) false

unfoldable pub bit_three : ℕ → Bool → Bool → Bool → Bool
bit_three k a b c = step_bit (step_at k 2) a b c (bit_one k a b c) (bit_two k a b c)

-- that of the last
unfoldable pub last_bit : ℕ → Bool → Bool → Bool → Bool
last_bit k a b c = cond (eqb (count k) 1) (bit_one k a b c) (cond (eqb (count k) 2) (bit_two k a b c) (bit_three k a b c))

bit_right : ℕ → Bool → Bool → Bool → Bool
bit_right k a b c = same (last_bit k a b c) ((kind_of k).meaning a b c)

kind_right : ℕ → ℕ → Bool
kind_right k x = both (both (both (bit_right k false false false) (bit_right k false false true)) (both (bit_right k false true false) (bit_right k false true true))) (both (both (bit_right k true false false) (bit_right k true false true)) (both (bit_right k true true false) (bit_right k true true true)))

kind_test : (k : ℕ) → k ≤ 13 → T (kind_right k (get_or count_table k 0))
unfolding kind_right bit_right last_bit bit_one bit_two bit_three step_bit pick name_meaning source_of count step_at steps_of steps kind_of kinds xor
kind_test k h = entry kind_right count_table tt k (omega arith)

pub last_means : (k : ℕ) → k ≤ 13 → (a b c : Bool) → last_bit k a b c ≡ (kind_of k).meaning a b c
unfolding kind_right bit_right
last_means k h = go (kind_test k h)
  where
    of_two : (f : Bool → Bool) → T (both (f false) (f true)) → (x : Bool) → T (f x)
    of_two f t false = both_left (f false) (f true) t
    of_two f t true = both_right (f false) (f true) t

    go : T (kind_right k (get_or count_table k 0)) → (a b c : Bool) → last_bit k a b c ≡ (kind_of k).meaning a b c
    go t a b c =
        same_is (last_bit k a b c) ((kind_of k).meaning a b c)
        (of_two (λ z. same (last_bit k a b z) ((kind_of k).meaning a b z))
        (of_two (λ y. both (same (last_bit k a y false) ((kind_of k).meaning a y false)) (same (last_bit k a y true) ((kind_of k).meaning a y true)))
        (of_two (λ x. both (both (same (last_bit k x false false) ((kind_of k).meaning x false false)) (same (last_bit k x false true) ((kind_of k).meaning x false true))) (both (same (last_bit k x true false) ((kind_of k).meaning x true false)) (same (last_bit k x true true) ((kind_of k).meaning x true true)))) t a) b) c)

-- ---- the bit of a line from the bits of the wires that it reads

-- only EQ takes notice of the number that it reads
number_idle : (name x y : ℕ) (a b : Bool) → (name ≡ 4 → ⊥) → name ≤ 5 → name_meaning name x a b ≡ name_meaning name y a b
unfolding name_meaning
number_idle zero x y a b d h = refl
number_idle (suc zero) x y a b d h = refl
number_idle (suc (suc zero)) x y a b d h = refl
number_idle (suc (suc (suc zero))) x y a b d h = refl
number_idle (suc (suc (suc (suc zero)))) x y a b d h = absurd (d refl)
number_idle (suc (suc (suc (suc (suc zero))))) x y a b d h = refl
number_idle (suc (suc (suc (suc (suc (suc name)))))) x y a b d h = absurd (let q : ⊥ = omega arith in q)

-- and it of nothing else
eq_alone : (name x : ℕ) (a b c d : Bool) → name ≡ 4 → name_meaning name x a b ≡ name_meaning name x c d
unfolding name_meaning
eq_alone name x a b c d e = rw e

-- the bits of the wires before line s: the needed operands' and those of the gate's earlier lines
pub record Bits (operands s a b c n : ℕ) (bit : ℕ → Bool) (A B C v w : Bool) : Type 0 where
  pub of_a : 0 < operands → bit a ≡ A
  pub of_b : 1 < operands → bit b ≡ B
  pub of_c : 2 < operands → bit c ≡ C
  pub of_first : 0 < s → bit n ≡ v
  pub of_second : 1 < s → bit (n + 1) ≡ w

readable_bit : (operands s x a b c n : ℕ) (bit : ℕ → Bool) (A B C v w : Bool) → T (readable operands s x) → Bits operands s a b c n bit A B C v w → bit (source_of x a b c n) ≡ pick x A B C v w
unfolding readable source_of pick
readable_bit operands s zero a b c n bit A B C v w t h = h.of_a (ltb→lt 0 operands t)
readable_bit operands s (suc zero) a b c n bit A B C v w t h = h.of_b (ltb→lt 1 operands t)
readable_bit operands s (suc (suc zero)) a b c n bit A B C v w t h = h.of_c (ltb→lt 2 operands t)
readable_bit operands s (suc (suc (suc zero))) a b c n bit A B C v w t h = h.of_first (ltb→lt 0 s t)
readable_bit operands s (suc (suc (suc (suc zero)))) a b c n bit A B C v w t h = h.of_second (ltb→lt 1 s t)
readable_bit operands s (suc (suc (suc (suc (suc x))))) a b c n bit A B C v w t h = absurd t

pub step_bit_lem : (k s a b c n : ℕ) (bit : ℕ → Bool) (A B C v w : Bool) → k ≤ 13 → s < count k → (step_at k s).name ≤ 5 → Bits (kind_of k).operands s a b c n bit A B C v w
    → name_meaning (step_at k s).name (source_of (step_at k s).first a b c n) (bit (source_of (step_at k s).first a b c n)) (bit (source_of (step_at k s).second a b c n)) ≡ step_bit (step_at k s) A B C v w
unfolding step_bit
step_bit_lem k s a b c n bit A B C v w h l m bits = go (step_reads k s h l)
  where
    go : (((step_at k s).name ≡ 4) × (5 ≤ (step_at k s).first) × ((step_at k s).first ≤ 6))
        ⊎ (((step_at k s).name ≡ 4 → ⊥) × T (readable (kind_of k).operands s (step_at k s).first) × T (readable (kind_of k).operands s (step_at k s).second))
        → name_meaning (step_at k s).name (source_of (step_at k s).first a b c n) (bit (source_of (step_at k s).first a b c n)) (bit (source_of (step_at k s).second a b c n)) ≡ name_meaning (step_at k s).name (source_of (step_at k s).first 0 0 0 0) (pick (step_at k s).first A B C v w) (pick (step_at k s).second A B C v w)
    go (inl e) = eq_alone (step_at k s).name _ _ _ _ _ e.0 ∙ ap (λ (z : ℕ). name_meaning (step_at k s).name z (pick (step_at k s).first A B C v w) (pick (step_at k s).second A B C v w)) (constant_same (step_at k s).first a b c n e.1 e.2)
    go (inr e) =
        ap₂ (λ (p q : Bool). name_meaning (step_at k s).name (source_of (step_at k s).first a b c n) p q) (readable_bit (kind_of k).operands s (step_at k s).first a b c n bit A B C v w e.1 bits) (readable_bit (kind_of k).operands s (step_at k s).second a b c n bit A B C v w e.2 bits)
        ∙ number_idle (step_at k s).name _ _ _ _ e.0 m
