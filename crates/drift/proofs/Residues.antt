-- A whole number and a word that agree modulo 2^32 (`Is`): reduction is a homomorphism of rings, so sums, products and negatives agree, and so do
-- polynomials place by place. What is centred agrees with what it was; and the word of a number is what it agrees with, modulo 2^32.
-- Assumes nothing.
use mathlib.Core.Path.{◌≡◌, refl, sym, ap, ap₂, ◌∙◌}
use mathlib.Core.Bool.{Bool, cond}
use mathlib.Core.List.{List}
use Prim.Native.Nat.{ℕ, zero, suc, ◌+◌, ◌*◌, ◌-◌, ◌%◌, ◌≤◌, ◌<◌}
use native.Mathlib.Nat.{mod-lt, mod-eq_of_lt}
use native.Mathlib.Omega.{arith}
use lib.Dec.{leb, ltb, ltb→lt, nltb→le, nleb→lt}
use lib.IntN.{ℤ, pos, negsuc, neg_ℤ, ◌+ℤ◌, ◌-ℤ◌, ◌*ℤ◌}
use Rattle.ring.specs.Word.{Q, Q_pos, at, neg}
use Rattle.ring.specs.Sums.{sum_to, tab}
use Rattle.ring.specs.Poly.{plus, minus, before, times, total}
use Rattle.ring.specs.Turn.{source, negating}
use Rattle.ring.specs.Phase.{phase, inner, phase_of}
use Rattle.ring.specs.Centre.{centre, word_of}
use Rattle.ring.proofs.Word.{word-add, word-mul, word_mod}
use Rattle.ring.proofs.Whole.{whole_ring, map-neg, red, red-add, red-mul, reduce}
use Rattle.ring.proofs.Value.{𝓦, w, w-neg, by_test}
use Rattle.ring.proofs.Extract.{w_injective}
use Rattle.ring.proofs.Centre.{r, centre-red}
use Rattle.ring.proofs.Tab.{at-tab}
use Rattle.drift.specs.Polynomials.{centred, whole_sum, wholes, whole_times, whole_turn, whole_phase, whole_pair_phase}

-- ---- numbers

-- the whole number x is n modulo 2^32
pub data Is (x : ℤ) (n : ℕ) : Type 0 where
  is : r x ≡ w n → Is x n

pub is_pos : (n : ℕ) → Is (pos n) n
unfolding red
is_pos n = is refl

pub is_add : {x y : ℤ} {m n : ℕ} → Is x m → Is y n → Is (x +ℤ y) (m + n)
is_add {x} {y} {m} {n} (is h) (is k) = is (red-add Q Q_pos x y ∙ ap₂ 𝓦.◌⊕◌ h k ∙ sym (word-add Q Q_pos m n))

pub is_times : {x y : ℤ} {m n : ℕ} → Is x m → Is y n → Is (x *ℤ y) (m * n)
is_times {x} {y} {m} {n} (is h) (is k) = is (red-mul Q Q_pos x y ∙ ap₂ 𝓦.◌⊗◌ h k ∙ sym (word-mul Q Q_pos m n))

pub is_neg : {x : ℤ} {n : ℕ} → Is x n → Is (neg_ℤ x) (neg n)
unfolding whole_ring
is_neg {x} {n} (is h) = is (map-neg whole_ring 𝓦 (reduce Q Q_pos) x ∙ ap 𝓦.⊖◌ h ∙ sym (w-neg n))

pub is_minus : {x y : ℤ} {m n : ℕ} → Is x m → Is y n → Is (x -ℤ y) (m + neg n)
is_minus h k = is_add h (is_neg k)

-- a word may be reduced, or be any that is the same modulo 2^32
pub is_same : {x : ℤ} {m : ℕ} (n : ℕ) → Is x m → m % Q ≡ n % Q → Is x n
is_same {x} {m} n (is h) e = is (h ∙ sym (word_mod Q Q_pos m) ∙ ap w e ∙ word_mod Q Q_pos n)

pub is_mod : {x : ℤ} {n : ℕ} → Is x n → Is x (n % Q)
is_mod {x} {n} (is h) = is (h ∙ sym (word_mod Q Q_pos n))

pub is_sum : (n : ℕ) (f : ℕ → ℤ) (g : ℕ → ℕ) → ((i : ℕ) → i < n → Is (f i) (g i)) → Is (whole_sum n f) (sum_to n g)
unfolding whole_sum sum_to
is_sum zero f g h = is_pos 0
is_sum (suc n) f g h = is_add (is_sum n f g (λ i l. h i (omega arith))) (h n (omega arith))

-- ---- a number's word, and centring

pub word_below : (x : ℤ) → word_of x < Q
word_below (pos n) = mod-lt n Q_pos
word_below (negsuc n) = mod-lt (neg (suc n)) Q_pos

pub is_word : (x : ℤ) → Is x (word_of x)
unfolding red
is_word (pos n) = is (sym (word_mod Q Q_pos n))
is_word (negsuc n) = is (sym (w-neg (suc n)) ∙ sym (word_mod Q Q_pos (neg (suc n))))

-- what agrees with a number is its word
pub is_only : {x : ℤ} {n : ℕ} → Is x n → word_of x ≡ n % Q
is_only {x} {n} (is h) = go (is_word x)
  where
    go : Is x (word_of x) → word_of x ≡ n % Q
    go (is k) = sym (mod-eq_of_lt (word_below x)) ∙ w_injective (word_of x) n (sym k ∙ h)

pub is_centre : (x : ℕ) → x < Q → Is (centre x) x
is_centre x l = is (centre-red x l)

pub is_centred : {x : ℤ} {n : ℕ} → Is x n → Is (centred x) n
unfolding centred
is_centred {x} {n} (is h) = go (is_word x)
  where
    go : Is x (word_of x) → Is (centre (word_of x)) n
    go (is k) = is (centre-red (word_of x) (word_below x) ∙ sym k ∙ h)

-- ---- polynomials, place by place

-- f is the polynomial a
abbrev pub Are : ℕ → (ℕ → ℤ) → List ℕ → Type 0
Are N f a = (i : ℕ) → i < N → Is (f i) (at a i)

pub are_wholes : (N : ℕ) (a : List ℕ) → Are N (wholes a) a
are_wholes N a i l = is_pos (at a i)

pub are_tab : (N : ℕ) (f : ℕ → ℤ) (g : ℕ → ℕ) → ((i : ℕ) → i < N → Is (f i) (g i)) → Are N f (tab N g)
are_tab N f g h i l = rw (at-tab N g i l) (h i l)

pub are_plus : (N : ℕ) (f g : ℕ → ℤ) (a b : List ℕ) → Are N f a → Are N g b → Are N (λ i. f i +ℤ g i) (plus N a b)
unfolding plus
are_plus N f g a b hf hg = are_tab N (λ i. f i +ℤ g i) _ (λ i l. is_mod (is_add (hf i l) (hg i l)))

pub are_minus : (N : ℕ) (f g : ℕ → ℤ) (a b : List ℕ) → Are N f a → Are N g b → Are N (λ i. f i -ℤ g i) (minus N a b)
unfolding minus
are_minus N f g a b hf hg = are_tab N (λ i. f i -ℤ g i) _ (λ i l. is_mod (is_minus (hf i l) (hg i l)))

-- one factor of a product's term
is_before : (N : ℕ) (g : ℕ → ℤ) (b : List ℕ) → Are N g b → (k i : ℕ) → k < N → i < N → Is (cond (leb i k) (g (k - i)) (neg_ℤ (g (N + k - i)))) (before N b k i)
unfolding before
is_before N g b h k i lk li = by_test (leb i k)
    (λ (c : Bool). Is (cond c (g (k - i)) (neg_ℤ (g (N + k - i)))) (cond c (at b (k - i)) (neg (at b (N + k - i)))))
    (λ t. h (k - i) (omega arith))
    (λ t. is_neg (h (N + k - i) (let u : k < i = nleb→lt i k t in omega arith)))

pub are_times : (N : ℕ) (f g : ℕ → ℤ) (a b : List ℕ) → Are N f a → Are N g b → Are N (whole_times N f g) (times N a b)
unfolding whole_times times
are_times N f g a b hf hg = are_tab N (whole_times N f g) _ (λ k l. is_mod (is_sum N _ _ (λ i li. is_times (hf i li) (is_before N g b hg k i l li))))

source_below : (N k i : ℕ) → i < N → source N k i < N + N
unfolding source
source_below N k i l = mod-lt _ (let q : 0 < N + N = omega arith in q)

pub are_turned : (N k : ℕ) (f : ℕ → ℤ) (a : List ℕ) → Are N f a → Are N (whole_turn N k f) (negating N k a)
unfolding whole_turn negating
are_turned N k f a h = are_tab N (whole_turn N k f) _ (λ i l.
    let s = source N k i in
    by_test (ltb s N) (λ (c : Bool). Is (cond c (f s) (neg_ℤ (f (s - N)))) (cond c (at a s) (neg (at a (s - N)) % Q)))
    (λ t. h s (ltb→lt s N t))
    (λ t. is_mod (is_neg (h (s - N) (let u = source_below N k i l in let v : N ≤ s = nltb→le s N t in omega arith)))))

pub are_total : (N n : ℕ) (f : ℕ → ℕ → ℤ) (g : ℕ → List ℕ) → ((j : ℕ) → j < n → Are N (f j) (g j)) → Are N (λ k. whole_sum n (λ j. f j k)) (total N n g)
unfolding whole_sum total
are_total N zero f g h = are_tab N (λ k. pos 0) _ (λ i l. is_pos 0)
are_total N (suc n) f g h =
    are_plus N (λ k. whole_sum n (λ j. f j k)) (f n) (total N n g) (g n) (are_total N n f g (λ j l. h j (omega arith))) (h n (omega arith))

-- ---- phases

pub is_phase : (n : ℕ) (key c : List ℕ) → Is (whole_phase n key c) (phase_of n key c)
unfolding whole_phase phase_of inner
is_phase n key c = is_mod (is_minus (is_pos (at c n)) (is_sum n _ _ (λ i l. is_times (is_pos (at c i)) (is_pos (at key i)))))

pub are_phase : (N : ℕ) (z a b : List ℕ) → Are N (whole_pair_phase N z a b) (phase N z a b)
unfolding whole_pair_phase phase
are_phase N z a b =
    are_minus N (wholes b) (whole_times N (wholes a) (wholes z)) b (times N a z) (are_wholes N b) (are_times N (wholes a) (wholes z) a z (are_wholes N a) (are_wholes N z))
