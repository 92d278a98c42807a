-- Every wire of a text that is not refused is set in the end: the wires below their number that are set before a gate are counted, each gate adds one, and a count of
-- all is all of them.
-- Assumes nothing.
use mathlib.Core.Path.{◌≡◌, refl, sym, ap, ◌∙◌}
use mathlib.Core.Logic.{⊎_elim}
use mathlib.Core.Bool.{Bool, true, false, ◌||◌, or-true, or-false}
use mathlib.Core.List.{List}
use Prim.Native.Nat.{ℕ, zero, suc, ◌+◌, ◌-◌, ◌≤◌, ◌<◌}
use native.Mathlib.Omega.{arith}
use borrow.Author.Tests.{lt-ltb, le-ltb, eq-eqb, ne_eqb}
use lib.Dec.{eqb, ltb}
use Rattle.ring.specs.Sums.{sum_to}
use Rattle.ring.specs.Bit.{bit_number}
use Rattle.ring.proofs.SumLaws.{sum_ext}
use Rattle.circuit.proofs.Accept.{lt_or_ge}
use Rattle.bristol_form.specs.Says.{gates, wires, inputs, outputs, is_set, set_count}
use Rattle.bristol_form.specs.Valid.{InForm, InLimits}
use Rattle.bristol_form.proofs.LawsForm.{inputs_and_gates, one_result}
use Rattle.bristol.proofs.TextGates.{sets, set_more}

-- ---- counting

-- How many of the first n numbers a test takes.
count : ℕ → (ℕ → Bool) → ℕ
count n f = sum_to n (λ w. bit_number (f w))

count_to : (n : ℕ) (f : ℕ → Bool) → count n f ≤ n
unfolding count sum_to
count_to zero f = omega arith
count_to (suc n) f = go (f n) (count_to n f)
  where
    go : (b : Bool) → sum_to n (λ w. bit_number (f w)) ≤ n → sum_to n (λ w. bit_number (f w)) + bit_number b ≤ suc n
    go true h = omega arith
    go false h = omega arith

-- a count of all is all of them
count_all : (n : ℕ) (f : ℕ → Bool) → count n f ≡ n → (w : ℕ) → w < n → f w ≡ true
unfolding count sum_to
count_all zero f e w l = absurd (let q : ⊥ = omega arith in q)
count_all (suc n) f e w l = go (f n) refl (count_to n f) e (count_all n f)
  where
    go : (b : Bool) → f n ≡ b → count n f ≤ n → sum_to n (λ i. bit_number (f i)) + bit_number b ≡ suc n → (count n f ≡ n → (v : ℕ) → v < n → f v ≡ true) → f w ≡ true
    go true t h s ih = ⊎_elim (λ (k : w < n). ih (omega arith) w k) (λ (k : n ≤ w). let z : w ≡ n = omega arith in ap f z ∙ t) (lt_or_ge w n)
    go false t h s ih = absurd (let q : ⊥ = omega arith in q)

-- one number more
count_more : (n : ℕ) (f g : ℕ → Bool) (r : ℕ) → f r ≡ false → ((w : ℕ) → g w ≡ (f w || eqb w r)) → r < n → count n g ≡ suc (count n f)
unfolding count sum_to
count_more zero f g r e h l = absurd (let q : ⊥ = omega arith in q)
count_more (suc n) f g r e h l = ⊎_elim (before (count_more n f g r e h)) here (lt_or_ge r n)
  where
    other : (w : ℕ) → (w ≡ r → ⊥) → g w ≡ f w
    other w d = h w ∙ ap (λ (b : Bool). f w || b) (ne_eqb w r d) ∙ or-false (f w)

    before : (r < n → count n g ≡ suc (count n f)) → r < n → sum_to n (λ w. bit_number (g w)) + bit_number (g n) ≡ suc (sum_to n (λ w. bit_number (f w)) + bit_number (f n))
    before ih k =
        let i = ih k in
        let z = ap bit_number (other n (λ q. omega arith)) in
        omega arith

    here : n ≤ r → sum_to n (λ w. bit_number (g w)) + bit_number (g n) ≡ suc (sum_to n (λ w. bit_number (f w)) + bit_number (f n))
    here k =
        let q : r ≡ n = omega arith in
        let i = sum_ext n (λ w. bit_number (g w)) (λ w. bit_number (f w)) (λ w b. ap bit_number (other w (λ z. omega arith))) in
        let t : g n ≡ true = h n ∙ ap (λ (b : Bool). f n || b) (eq-eqb n r (sym q)) ∙ or-true (f n) in
        let a : bit_number (g n) ≡ 1 = ap bit_number t in
        let b : bit_number (f n) ≡ 0 = ap bit_number (ap f (sym q) ∙ e) in
        omega arith

-- as many as are below another number
count_below : (n m : ℕ) → m ≤ n → count n (λ w. ltb w m) ≡ m
unfolding count sum_to
count_below zero m h = omega arith
count_below (suc n) m h =
    ⊎_elim
    (λ (k : n < m). let e : m ≡ suc n = omega arith in rw (lt-ltb n m k) (let i = small n (omega arith) in omega arith))
    (λ (k : m ≤ n). rw (le-ltb n m k) (let i = count_below n m k in omega arith))
    (lt_or_ge n m)
  where
    small : (i : ℕ) → i ≤ m → sum_to i (λ w. bit_number (ltb w m)) ≡ i
    small zero l = refl
    small (suc i) l = rw (lt-ltb i m (omega arith)) (let a = small i (omega arith) in omega arith)

-- ---- the wires

module _ (text : List ℕ) (form : InForm text) (limits : InLimits text) where
  set_counted : (j : ℕ) → j ≤ gates text → count (wires text) (is_set text j) ≡ set_count text j
  unfolding is_set set_count
  set_counted zero h = count_below (wires text) (inputs text) (let a = inputs_and_gates text form in omega arith)
  set_counted (suc j) h =
      let g = form.every_gate j h in
      let one = one_result text form limits j h in
      let i = set_counted j (omega arith) in
      let m = count_more (wires text) (is_set text j) (is_set text (suc j)) (sets text j) (g.results_new 0 (omega arith)) (set_more text form limits j h) (g.results_wires 0 (omega arith)) in
      omega arith

  -- every wire is set in the end
  pub all_set : (w : ℕ) → w < wires text → is_set text (gates text) w ≡ true
  all_set w h = count_all (wires text) (is_set text (gates text)) (set_counted (gates text) (omega arith) ∙ form.all_set) w h

  -- the outputs among them
  pub outputs_set : (o : ℕ) → o < outputs text → is_set text (gates text) (wires text - outputs text + o) ≡ true
  outputs_set o h = let a = form.outputs_to in all_set (wires text - outputs text + o) (omega arith)
