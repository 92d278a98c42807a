-- The lists of coefficients as elements of the ring of polynomials modulo X^N + 1 over the words: `value`, what each operation of `Coef` means
-- there, and that reduced lists with one value are one list. Laws of rings so become laws of lists.
-- Assumes nothing.
use Rattle.std.proofs.Common.{◌≡◌, ℕ, zero, suc, ◌+◌, ◌-◌, ◌*◌, ◌%◌, ◌<◌, ◌≤◌, Bool, true, false, cond, not, T, ltb, leb, List, [], ◌∷◌, length, sym, ap, ◌∙◌, ap₂, le_of_lt, mod-lt, mod-eq_of_lt, add_comm as +_comm, arith, ltb→lt, leb→le, nltb→le, ext_get_or}
use mathlib.Core.Path.{fun_ext}
use lib.Dec.{nleb→lt}
use Rattle.ring.proofs.Tab.{at-tab, tab_below}
use Rattle.ring.proofs.Ring.{CommRing, neg-zero, one-mul, zero-mul}
use Rattle.ring.proofs.Sum.{sum, sum_cong}
use Rattle.ring.proofs.Anti.{turn, conv, turn-conv, turn-turn, anti_before, anti_wrap, anti_source}
use Rattle.ring.proofs.Poly.{Poly, poly_ring, poly, poly_eq, turned, scaled, scaled_is, delta, ext, ext_anti, ext_below, anti_eq}
use Rattle.ring.proofs.Word.{Word, word_ring, word, word-add, word-mul, word_mod, word-neg, word_comp, word_sum, word_fst, word-zero, word-one}
use Rattle.ring.specs.Word.{Q, Q_pos, neg, comp, at}
use Rattle.ring.specs.Sums.{tab}
use Rattle.ring.specs.Poly.{plus, minus, before, times, scale, total}
use Rattle.ring.specs.Turn.{source, negating, rotated, complemented}

-- each coefficient is a word
pub data Reduced (a : List ℕ) : Type 0 where
  words : ((i : ℕ) → at a i < Q) → Reduced a

pub below : {a : List ℕ} → Reduced a → (i : ℕ) → at a i < Q
below (words f) = f

pub tab_reduced : (n : ℕ) (f : ℕ → ℕ) → ((i : ℕ) → f i < Q) → Reduced (tab n f)
tab_reduced n f h = words (tab_below n f h)

-- ---- the words' ring, and the ring of polynomials over it

abbrev pub W : Type 0
W = Word Q Q_pos

abbrev pub 𝓦 : CommRing W
𝓦 = word_ring Q Q_pos

abbrev pub w : ℕ → W
w = word Q Q_pos

pub w-neg : (x : ℕ) → w (neg x) ≡ 𝓦.⊖◌ (w x)
unfolding neg
w-neg x = word-neg Q Q_pos (x % Q) (le_of_lt (mod-lt x Q_pos)) ∙ ap 𝓦.⊖◌ (word_mod Q Q_pos x)

pub w-comp : (x : ℕ) → w (comp x) ≡ 𝓦.◌⊕◌ (𝓦.⊖◌ (w x)) (𝓦.⊖◌ (w 1))
unfolding comp
w-comp x = word_comp Q Q_pos (x % Q) (mod-lt x Q_pos) ∙ ap (λ (u : W). 𝓦.◌⊕◌ (𝓦.⊖◌ u) (𝓦.⊖◌ (w 1))) (word_mod Q Q_pos x)

-- a test's two cases
pub by_test {ℓ} : (c : Bool) (P : Bool → Type ℓ) → (T c → P true) → (T (not c) → P false) → P c
by_test true P f g = f tt
by_test false P f g = g tt

module _ (N : ℕ) (h : 0 < N) where
  abbrev pub p : ℕ
  p = N + N - 1

  pub e : suc p ≡ N + N
  e = omega arith

  abbrev pub P : Type 0
  P = Poly 𝓦 N p

  unfoldable pub 𝓟 : CommRing P
  𝓟 = poly_ring 𝓦 N p e

  unfoldable pub value : List ℕ → P
  value a = poly 𝓦 N p e (λ i. w (at a i))

  open 𝓟 use {𝟘, 𝟙, ◌⊕◌, ◌⊗◌, ⊖◌}

  infixl 60 ◌⊕◌
  infixl 70 ◌⊗◌
  infix 80 ⊖◌
  -- a list made by tab is an element if its places agree
  pub value-tab : (f : ℕ → ℕ) (u : P) → ((i : ℕ) → i < N → w (f i) ≡ u.0 i) → value (tab N f) ≡ u
  unfolding value
  value-tab f u g = poly_eq 𝓦 N p (anti_eq 𝓦 N p e _ u.0 (ext_anti 𝓦 N p e _) u.1
      (λ i l. ext_below 𝓦 N p e (λ j. w (at (tab N f) j)) i l ∙ ap w (at-tab N f i l) ∙ g i l))

  pub value-at : (a : List ℕ) (i : ℕ) → i < N → (value a).0 i ≡ w (at a i)
  unfolding value
  value-at a i l = ext_below 𝓦 N p e (λ j. w (at a j)) i l

  pub value-plus : (a b : List ℕ) → value (plus N a b) ≡ value a ⊕ value b
  unfolding plus value 𝓟
  value-plus a b = value-tab _ (value a ⊕ value b) (λ i l. word_mod Q Q_pos _ ∙ word-add Q Q_pos _ _ ∙ rw (value-at a i l, value-at b i l))

  pub value-minus : (a b : List ℕ) → value (minus N a b) ≡ value a ⊕ ⊖ value b
  unfolding minus value 𝓟
  value-minus a b = value-tab _ (value a ⊕ ⊖ value b) (λ i l.
      word_mod Q Q_pos _ ∙ word-add Q Q_pos _ _ ∙ rw (value-at a i l, value-at b i l, w-neg))

  -- one place of X^i · b
  value_before : (b : List ℕ) → (k i : ℕ) → k < N → i < N → w (before N b k i) ≡ (value b).0 (k + p * i)
  unfolding before value 𝓟
  value_before b k i lk li = by_test (leb i k)
      (λ (c : Bool). w (cond c (at b (k - i)) (neg (at b (N + k - i)))) ≡ (value b).0 (k + p * i))
      (λ t. let le : i ≤ k = leb→le i k t in
      sym (anti_before 𝓦 N p e (value b).0 (value b).1 k i le ∙ value-at b (k - i) (omega arith)))
      (λ t. let lt : k < i = nleb→lt i k t in
      w-neg (at b (N + k - i))
      ∙ sym (anti_wrap 𝓦 N p e (value b).0 (value b).1 k i (omega arith) ∙ ap 𝓦.⊖◌ (value-at b (N + k - i) (omega arith))))

  pub value-times : (a b : List ℕ) → value (times N a b) ≡ value a ⊗ value b
  unfolding times conv value 𝓟
  value-times a b = value-tab _ (value a ⊗ value b) (λ k l.
      word_mod Q Q_pos _ ∙ word_sum Q Q_pos N (λ i. at a i * before N b k i)
      ∙ sum_cong 𝓦 N (λ i. w (at a i * before N b k i)) (λ i. 𝓦.◌⊗◌ ((value a).0 i) ((value b).0 (k + p * i)))
      (λ i li. word-mul Q Q_pos _ _ ∙ rw (value-at a i li, value_before b k i l li)))

  -- X^k
  unfoldable pub X : ℕ → P
  unfolding 𝓟
  X k = turned 𝓦 N p e k 𝟙

  turned_is : (k : ℕ) (u : P) → turned 𝓦 N p e k u ≡ u ⊗ X k
  unfolding 𝓟 X
  turned_is k u = ap (turned 𝓦 N p e k) (sym (𝓟.mul-one u)) ∙ poly_eq 𝓦 N p (turn-conv 𝓦 N p e k u.0 𝟙.0)

  pub X-add : (j k : ℕ) → X j ⊗ X k ≡ X ((j + k) % (N + N))
  unfolding 𝓟 X
  X-add j k = sym (turned_is k (X j)) ∙ poly_eq 𝓦 N p (turn-turn 𝓦 N p e 𝟙.0 𝟙.1 k j ∙ ap (λ (n : ℕ). turn 𝓦 N p (n % (N + N)) 𝟙.0) (+_comm k j))

  -- one place of X^k · a
  value-source : (a : List ℕ) (i k : ℕ) → k ≤ N + N → (turned 𝓦 N p e k (value a)).0 i ≡ (value a).0 (source N k i)
  unfolding value turn source
  value-source a i k l = anti_source 𝓦 N p e (value a).0 (value a).1 i k l

  source_below : (k i : ℕ) → source N k i < N + N
  unfolding source
  source_below k i = mod-lt _ (let q : 0 < N + N = omega arith in q)

  -- past N: negated
  value_past : (a : List ℕ) (s : ℕ) → N ≤ s → s < N + N → (value a).0 s ≡ 𝓦.⊖◌ (w (at a (s - N)))
  unfolding value 𝓟
  value_past a s l u =
      ap (value a).0 (let q : s ≡ s - N + N = omega arith in q) ∙ (value a).1 (s - N) ∙ ap 𝓦.⊖◌ (value-at a (s - N) (omega arith))

  pub value-negating : (k : ℕ) (a : List ℕ) → k ≤ N + N → value (negating N k a) ≡ value a ⊗ X k
  unfolding negating value 𝓟
  value-negating k a lk = value-tab _ (turned 𝓦 N p e k (value a)) (λ i l.
      by_test (ltb (source N k i) N)
      (λ (c : Bool). w (cond c (at a (source N k i)) (neg (at a (source N k i - N)) % Q)) ≡ (value a).0 (source N k i))
      (λ t. sym (value-at a (source N k i) (ltb→lt _ _ t)))
      (λ t. word_mod Q Q_pos _ ∙ w-neg _ ∙ sym (value_past a (source N k i) (nltb→le _ _ t) (source_below k i)))
      ∙ sym (value-source a i k lk)) ∙ turned_is k (value a)

  pub value-rotated : (k : ℕ) (a : List ℕ) → k ≤ N + N → value (rotated N k a) ≡ value a ⊗ X k ⊕ ⊖ value (complemented N k)
  unfolding rotated complemented value 𝓟
  value-rotated k a lk = value-tab _ (turned 𝓦 N p e k (value a) ⊕ ⊖ value (complemented N k)) (λ i l.
      by_test (ltb (source N k i) N)
      (λ (c : Bool). w (cond c (at a (source N k i)) (comp (at a (source N k i - N)))) ≡ 𝓦.◌⊕◌ ((value a).0 (source N k i)) (𝓦.⊖◌ (w (cond c 0 1))))
      (λ t. rw (value-at a (source N k i) (ltb→lt _ _ t), ← word-zero Q Q_pos, neg-zero 𝓦) (sym (𝓦.add-zero _)))
      (λ t. w-comp _
      ∙ ap (λ (x : W). 𝓦.◌⊕◌ x (𝓦.⊖◌ (w 1))) (sym (value_past a (source N k i) (nltb→le _ _ t) (source_below k i))))
      ∙ sym (ap₂ (λ (x y : W). 𝓦.◌⊕◌ x (𝓦.⊖◌ y)) (value-source a i k lk) (value-at (complemented N k) i l ∙ ap w (at-tab N _ i l))))
      ∙ ap (λ (u : P). u ⊕ ⊖ value (complemented N k)) (turned_is k (value a))

  -- the number c as a polynomial
  unfoldable pub const : ℕ → P
  unfolding 𝓟
  const c = scaled 𝓦 N p e (w c) 𝟙

  pub value-scale : (c : ℕ) (a : List ℕ) → value (scale N c a) ≡ const c ⊗ value a
  unfolding scale value 𝓟 const
  value-scale c a =
      value-tab _ (scaled 𝓦 N p e (w c) (value a)) (λ i l. word_mod Q Q_pos _ ∙ word-mul Q Q_pos c (at a i) ∙ rw (← value-at a i l))
      ∙ scaled_is 𝓦 N p e (w c) (value a)

  pub const-mul : (c d : ℕ) → const (c * d) ≡ const c ⊗ const d
  unfolding 𝓟 const
  const-mul c d =
      poly_eq 𝓦 N p (fun_ext (λ i. ap (λ (x : W). 𝓦.◌⊗◌ x (𝟙.0 i)) (word-mul Q Q_pos c d) ∙ 𝓦.mul_assoc (w c) (w d) (𝟙.0 i)))
      ∙ scaled_is 𝓦 N p e (w c) (const d)

  pub const-one : const 1 ≡ 𝟙
  unfolding 𝓟 const
  const-one = poly_eq 𝓦 N p (fun_ext (λ i. ap (λ (x : W). 𝓦.◌⊗◌ x (𝟙.0 i)) (sym (word-one Q Q_pos)) ∙ one-mul 𝓦 (𝟙.0 i)))

  pub const-zero : const 0 ≡ 𝟘
  unfolding 𝓟 const
  const-zero = poly_eq 𝓦 N p (fun_ext (λ i. ap (λ (x : W). 𝓦.◌⊗◌ x (𝟙.0 i)) (sym (word-zero Q Q_pos)) ∙ zero-mul 𝓦 (𝟙.0 i)))

  pub value-one : value (1 ∷ []) ≡ 𝟙
  unfolding value 𝓟 delta
  value-one = poly_eq 𝓦 N p (ap (ext 𝓦 N) (fun_ext (λ i. go i)))
    where
      go : (i : ℕ) → w (at (1 ∷ []) i) ≡ delta 𝓦 i
      go zero = sym (word-one Q Q_pos)
      go (suc i) = sym (word-zero Q Q_pos)

  pub value-total : (n : ℕ) (f : ℕ → List ℕ) → value (total N n f) ≡ sum 𝓟 n (λ i. value (f i))
  unfolding total sum 𝓟
  value-total zero f = value-zero
    where
      value-zero : value (tab N (λ i. 0)) ≡ 𝟘
      value-zero = value-tab _ 𝟘 (λ i l. sym (word-zero Q Q_pos))
  value-total (suc n) f = value-plus (total N n f) (f n) ∙ ap (λ (u : P). u ⊕ value (f n)) (value-total n f)

  pub value_injective : (a b : List ℕ) → length a ≡ N → length b ≡ N → Reduced a → Reduced b → value a ≡ value b → a ≡ b
  unfolding value
  value_injective a b la lb ra rb q = ext_get_or 0 a b (la ∙ sym lb) (λ i l.
      let l' : i < N = omega arith in
      sym (word_fst Q Q_pos (at a i) ∙ mod-eq_of_lt (below ra i))
      ∙ ap (λ (u : W). u.0) (sym (value-at a i l') ∙ ap (λ (u : P). u.0 i) q ∙ value-at b i l')
      ∙ word_fst Q Q_pos (at b i) ∙ mod-eq_of_lt (below rb i))

  -- N words: what every operation of `Coef` gives
  pub data Proper (a : List ℕ) : Type 0 where
    proper : length a ≡ N → Reduced a → Proper a

  pub by_value : {a b : List ℕ} → Proper a → Proper b → value a ≡ value b → a ≡ b
  by_value {a} {b} (proper la ra) (proper lb rb) q = value_injective a b la lb ra rb q

  pub proper_reduced : {a : List ℕ} → Proper a → Reduced a
  proper_reduced (proper la ra) = ra
