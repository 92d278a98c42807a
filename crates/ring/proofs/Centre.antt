-- Drift: products reckoned in whole numbers modulo X^N + 1 reduce to the words' product (`whole_times`), and a whole number brought modulo 2^32
-- into -2^31 to 2^31 - 1 is settled by its word (`centre`, `centre-red`, `centre_only`).
-- Assumes nothing.
use Rattle.std.proofs.Common.{◌≡◌, ℕ, suc, ◌+◌, ◌-◌, ◌<◌, ◌≤◌, Bool, cond, ltb, leb, List, ℤ, pos, negsuc, sym, refl, ap, ◌∙◌, ap₂, mod-lt, mod-eq_of_lt, arith, ltb→lt, nltb→le}
use mathlib.Core.Path.{fun_ext}
use lib.Dec.{nleb→lt}
use lib.Signed.{mag}
use Rattle.ring.proofs.Ring.{CommRing, neg-neg}
use Rattle.ring.proofs.Sum.{sum, sum_cong}
use Rattle.ring.proofs.Word.{word-mul, word_mod, word_sum, word-neg}
use Rattle.ring.proofs.Whole.{whole_ring, Hom, map-neg, map-sum, red, reduce}
use Rattle.ring.specs.Centre.{H, centre, word_of}
use Rattle.ring.specs.Word.{Q, Q_pos, neg, at}
use Rattle.ring.specs.Poly.{before, times}
use Rattle.ring.proofs.Value.{W, 𝓦, w, w-neg, by_test}
use Rattle.ring.proofs.Tab.{at-tab}
use Rattle.ring.proofs.Extract.{w_injective}

-- the product modulo X^N + 1 in any ring
module _ {R : Type 0} (𝓡 : CommRing R) (N : ℕ) where
  unfoldable pub wrap : (ℕ → R) → ℕ → ℕ → R
  wrap g k i = cond (leb i k) (g (k - i)) (𝓡.⊖◌ (g (N + k - i)))

  unfoldable pub prod : (ℕ → R) → (ℕ → R) → ℕ → R
  prod f g k = sum 𝓡 N (λ i. 𝓡.◌⊗◌ (f i) (wrap g k i))

  pub prod_cong : (f g f' g' : ℕ → R) → ((i : ℕ) → i < N → f i ≡ f' i) → ((i : ℕ) → i < N → g i ≡ g' i) → (k : ℕ) → k < N → prod f g k ≡ prod f' g' k
  unfolding prod wrap
  prod_cong f g f' g' hf hg k l = sum_cong 𝓡 N _ _ (λ i li. ap₂ 𝓡.◌⊗◌ (hf i li)
      (by_test (leb i k) (λ (c : Bool). cond c (g (k - i)) (𝓡.⊖◌ (g (N + k - i))) ≡ cond c (g' (k - i)) (𝓡.⊖◌ (g' (N + k - i))))
      (λ t. hg (k - i) (omega arith)) (λ t. ap 𝓡.⊖◌ (hg (N + k - i) (let u : k < i = nleb→lt i k t in omega arith)))))

module _ {R S : Type 0} (𝓡 : CommRing R) (𝓢 : CommRing S) (φ : Hom 𝓡 𝓢) (N : ℕ) where
  pub map-prod : (f g : ℕ → R) (k : ℕ) → φ.map (prod 𝓡 N f g k) ≡ prod 𝓢 N (λ i. φ.map (f i)) (λ i. φ.map (g i)) k
  unfolding prod wrap
  map-prod f g k = map-sum 𝓡 𝓢 φ N _ ∙ ap (sum 𝓢 N) (fun_ext (λ i. φ.map_mul (f i) _ ∙ ap (𝓢.◌⊗◌ (φ.map (f i)))
      (by_test (leb i k) (λ (c : Bool). φ.map (cond c (g (k - i)) (𝓡.⊖◌ (g (N + k - i)))) ≡ cond c (φ.map (g (k - i))) (𝓢.⊖◌ (φ.map (g (N + k - i)))))
      (λ t. refl) (λ t. map-neg 𝓡 𝓢 φ (g (N + k - i))))))

pub times-prod : (N : ℕ) (a b : List ℕ) (k : ℕ) → k < N → w (at (times N a b) k) ≡ prod 𝓦 N (λ i. w (at a i)) (λ i. w (at b i)) k
unfolding times before prod wrap
times-prod N a b k l = ap w (at-tab N _ k l) ∙ word_mod Q Q_pos _ ∙ word_sum Q Q_pos N _ ∙ ap (sum 𝓦 N) (fun_ext (λ i.
    word-mul Q Q_pos _ _ ∙ ap (𝓦.◌⊗◌ (w (at a i)))
    (by_test (leb i k) (λ (c : Bool). w (cond c (at b (k - i)) (neg (at b (N + k - i)))) ≡ cond c (w (at b (k - i))) (𝓦.⊖◌ (w (at b (N + k - i)))))
    (λ t. refl) (λ t. w-neg (at b (N + k - i))))))

-- whole numbers modulo 2^32
abbrev pub r : ℤ → W
r = red Q Q_pos

pub whole_times : (N : ℕ) (f g : ℕ → ℤ) (a b : List ℕ) → ((i : ℕ) → i < N → r (f i) ≡ w (at a i)) → ((i : ℕ) → i < N → r (g i) ≡ w (at b i))
    → (k : ℕ) → k < N → r (prod whole_ring N f g k) ≡ w (at (times N a b) k)
unfolding whole_ring
whole_times N f g a b hf hg k l =
    map-prod whole_ring 𝓦 (reduce Q Q_pos) N f g k
    ∙ prod_cong 𝓦 N (λ i. r (f i)) (λ i. r (g i)) (λ i. w (at a i)) (λ i. w (at b i)) hf hg k l
    ∙ sym (times-prod N a b k l)

-- ---- centred

pub Q_is : Q ≡ H + H
unfolding Q H
Q_is = refl

pub centre_in : (x : ℕ) → x < Q → mag (centre x) < H
unfolding centre
centre_in x l = by_test (ltb x H) (λ (c : Bool). mag (cond c (pos x) (negsuc (Q - suc x))) < H) (λ t. ltb→lt x H t)
    (λ t. let u : H ≤ x = nltb→le x H t in omega (arith, Q_is))

pub centre-red : (x : ℕ) → x < Q → r (centre x) ≡ w x
unfolding centre red
centre-red x l = by_test (ltb x H) (λ (c : Bool). r (cond c (pos x) (negsuc (Q - suc x))) ≡ w x) (λ t. refl)
    (λ t. ap (λ (y : ℕ). 𝓦.⊖◌ (w y)) (let u : suc (Q - suc x) ≡ Q - x = omega arith in u)
    ∙ ap 𝓦.⊖◌ (word-neg Q Q_pos x (omega arith)) ∙ neg-neg 𝓦 (w x))

-- what is centred is settled by its word
pub centre_only : (z : ℤ) (x : ℕ) → mag z < H → x < Q → r z ≡ w x → z ≡ centre x
unfolding centre red
centre_only (pos n) x m l q =
    by_test (ltb x H) (λ (c : Bool). pos n ≡ cond c (pos x) (negsuc (Q - suc x))) (λ t. ap pos same)
    (λ t. absurd (let u : H ≤ x = nltb→le x H t in let v : ⊥ = omega (arith, same) in v))
  where
    same : n ≡ x
    same = sym (mod-eq_of_lt (let u : n < Q = omega (arith, Q_is) in u)) ∙ w_injective n x q ∙ mod-eq_of_lt l
centre_only (negsuc n) x m l q =
    by_test (ltb x H) (λ (c : Bool). negsuc n ≡ cond c (pos x) (negsuc (Q - suc x)))
    (λ t. absurd (let u : x < H = ltb→lt x H t in let v : ⊥ = omega (arith, same, Q_is) in v))
    (λ t. ap negsuc (let u : n ≡ Q - suc x = omega (arith, same, Q_is) in u))
  where
    same : Q - suc n ≡ x
    same = sym (mod-eq_of_lt (let u : Q - suc n < Q = omega (arith, Q_pos) in u))
        ∙ w_injective (Q - suc n) x (word-neg Q Q_pos (suc n) (let u : suc n ≤ Q = omega (arith, Q_is) in u) ∙ q) ∙ mod-eq_of_lt l

-- the word of a whole number is a word
pub number_below : (x : ℤ) → word_of x < Q
number_below (pos n) = mod-lt n Q_pos
number_below (negsuc n) = mod-lt (neg (suc n)) Q_pos
