-- Laws of true sums over numbers: congruence (also modulo Q), linearity, exchange, splitting, and the step and the end of a loop that sums.
-- Inductions on the number of terms; omega knows the rest.
-- Assumes nothing.
use Rattle.std.proofs.Common.{◌≡◌, ℕ, zero, suc, ◌+◌, ◌-◌, ◌*◌, ◌%◌, ◌<◌, ◌≤◌, sym, refl, ap, ◌∙◌, ap₂, add-zero, add-suc, le_antisymm, add-one, arith}
use native.Mathlib.Nat.{add-mod}
use Rattle.ring.specs.Word.{Q}
use Rattle.ring.specs.Sums.{sum_to}

pub sum_ext : (n : ℕ) (f g : ℕ → ℕ) → ((i : ℕ) → i < n → f i ≡ g i) → sum_to n f ≡ sum_to n g
unfolding sum_to
sum_ext zero f g h = refl
sum_ext (suc n) f g h = ap₂ (λ (a b : ℕ). a + b) (sum_ext n f g (λ i l. h i (omega arith))) (h n (omega arith))

pub sum_mod : (n : ℕ) (f g : ℕ → ℕ) → ((i : ℕ) → i < n → f i % Q ≡ g i % Q) → sum_to n f % Q ≡ sum_to n g % Q
unfolding sum_to
sum_mod zero f g h = refl
sum_mod (suc n) f g h =
    add-mod (sum_to n f) (f n) Q ∙ ap₂ (λ (a b : ℕ). (a + b) % Q) (sum_mod n f g (λ i l. h i (omega arith))) (h n (omega arith)) ∙ sym (add-mod (sum_to n g) (g n) Q)

pub sum_zero : (n : ℕ) → sum_to n (λ i. 0) ≡ 0
unfolding sum_to
sum_zero zero = refl
sum_zero (suc n) = let a = sum_zero n in omega arith

pub sum_add : (n : ℕ) (f g : ℕ → ℕ) → sum_to n (λ i. f i + g i) ≡ sum_to n f + sum_to n g
unfolding sum_to
sum_add zero f g = refl
sum_add (suc n) f g = let a = sum_add n f g in omega arith

pub sum_mul : (n c : ℕ) (f : ℕ → ℕ) → sum_to n (λ i. f i * c) ≡ sum_to n f * c
unfolding sum_to
sum_mul zero c f = omega arith
sum_mul (suc n) c f = let a = sum_mul n c f in omega arith

pub sum_swap : (n m : ℕ) (f : ℕ → ℕ → ℕ) → sum_to n (λ i. sum_to m (f i)) ≡ sum_to m (λ j. sum_to n (λ i. f i j))
unfolding sum_to
sum_swap zero m f = sym (sum_zero m)
sum_swap (suc n) m f = ap (λ (a : ℕ). a + sum_to m (f n)) (sum_swap n m f) ∙ sym (sum_add m (λ j. sum_to n (λ i. f i j)) (f n))

pub sum_split : (m n : ℕ) (f : ℕ → ℕ) → sum_to (m + n) f ≡ sum_to m f + sum_to n (λ i. f (m + i))
unfolding sum_to
sum_split m zero f = rw add-zero (omega arith)
sum_split m (suc n) f = rw add-suc (let a = sum_split m n f in omega arith)

-- the first term apart
pub sum_first : (n : ℕ) (f : ℕ → ℕ) → sum_to (suc n) f ≡ f 0 + sum_to n (λ i. f (suc i))
unfolding sum_to
sum_first zero f = omega arith
sum_first (suc n) f = let a = sum_first n f in omega arith

-- backwards
pub sum_back : (n : ℕ) (f : ℕ → ℕ) → sum_to n f ≡ sum_to n (λ i. f (n - suc i))
unfolding sum_to
sum_back zero f = refl
sum_back (suc n) f =
    let a = sum_back n f in
    let b = sum_first n (λ i. f (suc n - suc i)) in
    let e : suc n - 1 ≡ n = omega arith in
    let g : sum_to n (λ i. f (suc n - suc (suc i))) ≡ sum_to n (λ i. f (n - suc i)) = sum_ext n _ _ (λ i l. ap f (omega arith)) in
    let z : f (suc n - 1) ≡ f n = ap f e in
    omega arith

-- ---- a loop that adds f 0, f 1, .. to a word

module _ (f : ℕ → ℕ) where
  pub sum_none : 0 ≡ sum_to 0 f % Q
  unfolding sum_to Q
  sum_none = refl

  -- one more term t, which is f i modulo Q
  pub sum_step : (i t : ℕ) {s r : ℕ} → s ≡ sum_to i f % Q → t % Q ≡ f i % Q → r ≡ (s + t) % Q → r ≡ sum_to (i + 1) f % Q
  unfolding sum_to Q
  sum_step i t es et er = rw add-one (omega arith)

  -- the loop's end
  pub sum_done : {i n s : ℕ} → i ≤ n → n ≤ i → s ≡ sum_to i f % Q → s ≡ sum_to n f % Q
  sum_done a b e = rw (le_antisymm a b) at e
