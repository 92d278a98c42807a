-- The laws of the lists of coefficients: the product is associative and commutative and distributes, and the phase of a sum, of a difference
-- and of a rotation by the Rust, which complements. Each is a law of rings, carried over by `value`.
-- Assumes nothing.
use Rattle.std.proofs.Common.{◌≡◌, ℕ, ◌+◌, ◌-◌, ◌*◌, ◌%◌, ◌<◌, ◌≤◌, Bool, cond, ltb, List, [], ◌∷◌, sym, refl, ap, ◌∙◌, mod-lt, arith, lit<}
use Rattle.ring.proofs.Ring.{ring}
use Rattle.ring.proofs.Phase as R
use Rattle.ring.proofs.Solve.{#, :1, ◌:+◌, ◌:-◌, ◌:*◌, solve}
use Rattle.ring.specs.Word.{Q, Q_pos, neg, comp, at}
use Rattle.ring.specs.Sums.{tab}
use Rattle.ring.specs.Poly.{plus, minus, times, scale, total}
use Rattle.ring.specs.Turn.{source, negating, rotated, complemented}
use Rattle.ring.specs.Phase.{phase}
use Rattle.ring.proofs.Value.{Reduced, below, Proper, proper, proper_reduced, by_value, tab_reduced, P, 𝓟, X, X-add, value, value-plus, value-minus, value-times, value-negating, value-rotated, value-scale, value-total, value-one, const, const-one, const-zero, const-mul, by_test}
use Rattle.ring.proofs.Tab.{length-tab}

-- ---- every operation gives N words, and may be replaced by its value

module _ (N : ℕ) (h : 0 < N) where
  pub tab_proper : (f : ℕ → ℕ) → ((i : ℕ) → f i < Q) → Proper N h (tab N f)
  tab_proper f g = proper (length-tab N f) (tab_reduced N f g)

  pub plus_proper : (a b : List ℕ) → Proper N h (plus N a b)
  unfolding plus
  plus_proper a b = tab_proper _ (λ i. mod-lt _ Q_pos)

  pub minus_proper : (a b : List ℕ) → Proper N h (minus N a b)
  unfolding minus
  minus_proper a b = tab_proper _ (λ i. mod-lt _ Q_pos)

  pub times_proper : (a b : List ℕ) → Proper N h (times N a b)
  unfolding times
  times_proper a b = tab_proper _ (λ i. mod-lt _ Q_pos)

  pub scale_proper : (c : ℕ) (a : List ℕ) → Proper N h (scale N c a)
  unfolding scale
  scale_proper c a = tab_proper _ (λ i. mod-lt _ Q_pos)

  pub phase_proper : (z a b : List ℕ) → Proper N h (phase N z a b)
  unfolding phase
  phase_proper z a b = minus_proper b (times N a z)

  pub complemented_proper : (k : ℕ) → Proper N h (complemented N k)
  unfolding complemented Q
  complemented_proper k = tab_proper _ (λ i. by_test (ltb (source N k i) N) (λ (c : Bool). cond c 0 1 < Q) (λ t. lit< tt) (λ t. lit< tt))

  pub rotated_proper : (k : ℕ) (a : List ℕ) → Reduced a → Proper N h (rotated N k a)
  unfolding rotated comp
  rotated_proper k a ra = tab_proper _ (λ i. by_test (ltb (source N k i) N)
      (λ (c : Bool). cond c (at a (source N k i)) (comp (at a (source N k i - N))) < Q) (λ t. below ra _) (λ t. omega (arith, Q_pos)))

  pub negating_proper : (k : ℕ) (a : List ℕ) → Reduced a → Proper N h (negating N k a)
  unfolding negating
  negating_proper k a ra = tab_proper _ (λ i. by_test (ltb (source N k i) N)
      (λ (c : Bool). cond c (at a (source N k i)) (neg (at a (source N k i - N)) % Q) < Q) (λ t. below ra _) (λ t. mod-lt _ Q_pos))

ruleset propers = (plus_proper, minus_proper, times_proper, scale_proper, phase_proper, complemented_proper, rotated_proper, negating_proper)

module _ (N : ℕ) (h : 0 < N) where
  open 𝓟 N h use {𝟘, 𝟙, ◌⊕◌, ◌⊗◌, ⊖◌, add_comm, mul_comm, mul_assoc, mul-one}

  infixl 60 ◌⊕◌
  infixl 70 ◌⊗◌
  infix 80 ⊖◌
  pub times_assoc : (a b c : List ℕ) → times N (times N a b) c ≡ times N a (times N b c)
  times_assoc a b c = by_value N h (search propers) (search propers)
      (simp (value-times N h, ring, 𝓟 N h))

  pub times_comm : (a b : List ℕ) → times N a b ≡ times N b a
  times_comm a b = by_value N h (search propers) (search propers)
      (simp (value-times N h, ring, 𝓟 N h))

  pub times-plus : (a b c : List ℕ) → times N a (plus N b c) ≡ plus N (times N a b) (times N a c)
  times-plus a b c = by_value N h (search propers) (search propers)
      (simp (value-times N h, value-plus N h, ring, 𝓟 N h))

  -- X^k goes into either factor
  pub times-negating : (k : ℕ) (a b : List ℕ) → k ≤ N + N → times N (negating N k a) b ≡ negating N k (times N a b)
  times-negating k a b lk = by_value N h (search propers) (negating_proper N h k _ (proper_reduced N h (times_proper N h a b)))
      (simp (value-times N h, value-negating N h, ring, 𝓟 N h))

  pub negating-times : (k : ℕ) (a b : List ℕ) → k ≤ N + N → times N a (negating N k b) ≡ negating N k (times N a b)
  negating-times k a b lk = by_value N h (search propers) (negating_proper N h k _ (proper_reduced N h (times_proper N h a b)))
      (simp (value-times N h, value-negating N h, ring, 𝓟 N h))

  -- turns with true negation compose, amounts added modulo 2N
  pub negating-negating : (j k : ℕ) (a : List ℕ) → Reduced a → j ≤ N + N → k ≤ N + N → negating N j (negating N k a) ≡ negating N ((j + k) % (N + N)) a
  negating-negating j k a ra lj lk =
      let l : (j + k) % (N + N) < N + N = mod-lt (j + k) (let q : 0 < N + N = omega arith in q) in
      by_value N h (negating_proper N h j _ (proper_reduced N h (negating_proper N h k a ra))) (negating_proper N h _ a ra)
      (value-negating N h j (negating N k a) lj ∙ ap (λ (u : P N h). u ⊗ X N h j) (value-negating N h k a lk)
      ∙ mul_assoc (value N h a) (X N h k) (X N h j) ∙ ap (λ (u : P N h). value N h a ⊗ u) (mul_comm (X N h k) (X N h j) ∙ X-add N h j k)
      ∙ sym (value-negating N h ((j + k) % (N + N)) a (omega arith)))

  pub negating-plus : (k : ℕ) (a b : List ℕ) → k ≤ N + N → negating N k (plus N a b) ≡ plus N (negating N k a) (negating N k b)
  negating-plus k a b lk = by_value N h (negating_proper N h k _ (proper_reduced N h (plus_proper N h a b))) (search propers)
      (simp (value-plus N h, value-negating N h, ring, 𝓟 N h))

  -- sums in any order
  pub plus_assoc : (a b c : List ℕ) → plus N (plus N a b) c ≡ plus N a (plus N b c)
  plus_assoc a b c = by_value N h (search propers) (search propers) (simp (value-plus N h, ring, 𝓟 N h))

  pub plus_comm : (a b : List ℕ) → plus N a b ≡ plus N b a
  plus_comm a b = by_value N h (search propers) (search propers) (simp (value-plus N h, ring, 𝓟 N h))

  pub times-minus : (a b c : List ℕ) → times N a (minus N b c) ≡ minus N (times N a b) (times N a c)
  times-minus a b c = by_value N h (search propers) (search propers) (simp (value-times N h, value-minus N h, ring, 𝓟 N h))

  pub value-phase : (z a b : List ℕ) → value N h (phase N z a b) ≡ value N h b ⊕ ⊖ (value N h a ⊗ value N h z)
  unfolding phase
  value-phase z a b = simp (value-minus N h, value-times N h)

  pub phase-plus : (z a b c d : List ℕ) → phase N z (plus N a c) (plus N b d) ≡ plus N (phase N z a b) (phase N z c d)
  phase-plus z a b c d = by_value N h (search propers) (search propers)
      (simp (value-phase, value-plus N h, ring, 𝓟 N h))

  pub phase-minus : (z a b c d : List ℕ) → phase N z (minus N a c) (minus N b d) ≡ minus N (phase N z a b) (phase N z c d)
  phase-minus z a b c d = by_value N h (search propers) (search propers)
      (simp (value-phase, value-minus N h, ring, 𝓟 N h))

  -- the Rust's rotation: the phase turns, and W · z less W is added, W being 1 where a coefficient was complemented
  pub phase-rotated : (k : ℕ) (z a b : List ℕ) → k ≤ N + N
      → phase N z (rotated N k a) (rotated N k b)
      ≡ plus N (negating N k (phase N z a b)) (minus N (times N (complemented N k) z) (complemented N k))
  phase-rotated k z a b lk = by_value N h (search propers) (search propers)
      (simp (value-phase, value-plus N h, value-minus N h, value-times N h, value-negating N h, value-rotated N h, ring, 𝓟 N h))

  -- the external product: 2L rows, of which row i carries ⊖ m · g i · z and row L + i carries m · g i, each with its error, and digits that
  -- recompose the pair (ca, cb)
  pub phase_external : (L m : ℕ) (z ca cb : List ℕ) (d ra rb err : ℕ → List ℕ) (g : ℕ → ℕ)
      → ((i : ℕ) → i < L → phase N z (ra i) (rb i) ≡ minus N (err i) (scale N (m * g i) z))
      → ((i : ℕ) → i < L → phase N z (ra (L + i)) (rb (L + i)) ≡ plus N (scale N (m * g i) (1 ∷ [])) (err (L + i)))
      → total N L (λ i. scale N (g i) (d i)) ≡ ca
      → total N L (λ i. scale N (g i) (d (L + i))) ≡ cb
      → phase N z (total N (L + L) (λ i. times N (d i) (ra i))) (total N (L + L) (λ i. times N (d i) (rb i)))
      ≡ plus N (scale N m (phase N z ca cb)) (total N (L + L) (λ i. times N (d i) (err i)))
  phase_external L m z ca cb d ra rb err g lo hi da db =
      by_value N h (search propers) (search propers)
      (simp (value-phase, value-plus N h, value-scale N h, value-total N h, value-times N h)
      (R.external (𝓟 N h) L (value N h z) (const N h m) (value N h ca) (value N h cb)
      (λ i. value N h (d i)) (λ i. value N h (ra i)) (λ i. value N h (rb i)) (λ i. value N h (err i)) (λ i. const N h (g i))
      (λ i l. sym (value-phase z (ra i) (rb i)) ∙ ap (value N h) (lo i l) ∙ simp (value-minus N h, value-scale N h, const-mul N h) (add_comm _ _))
      (λ i l. sym (value-phase z (ra (L + i)) (rb (L + i))) ∙ ap (value N h) (hi i l) ∙ simp (value-plus N h, value-scale N h, const-mul N h, value-one N h, mul-one))
      (sym (ap (value N h) (sym da) ∙ simp (value-total N h, value-scale N h, mul_comm)))
      (sym (ap (value N h) (sym db) ∙ simp (value-total N h, value-scale N h, mul_comm)))))

  -- a step of the blind rotation with the key bit m: (a, b) and the external product (xa, xb) of the rotated pair less (a, b), whose cleared
  -- low bits are (la, lb)
  pub phase_step : (k m : ℕ) (z a b la lb xa xb err : List ℕ)
      → phase N z xa xb ≡ plus N (scale N m (phase N z (minus N (minus N (rotated N k a) a) la) (minus N (minus N (rotated N k b) b) lb))) err
      → phase N z (plus N a xa) (plus N b xb)
      ≡ plus N (plus N (phase N z a b) (scale N m (minus N (minus N (phase N z (rotated N k a) (rotated N k b)) (phase N z a b)) (phase N z la lb)))) err
  phase_step k m z a b la lb xa xb err e =
      phase-plus z a b xa xb ∙ ap (plus N (phase N z a b)) e
      ∙ by_value N h (search propers) (search propers) (simp (value-phase, value-plus N h, value-minus N h, value-scale N h, ring, 𝓟 N h))

  -- key bit 0: the phase stays
  pub step_zero : (p d err : List ℕ) → plus N (plus N p (scale N 0 d)) err ≡ plus N p err
  step_zero p d err = by_value N h (search propers) (search propers) (simp (value-plus N h, value-scale N h, const-zero N h, ring, 𝓟 N h))

  -- key bit 1: the phase of the rotated pair, less the cleared bits'
  pub step_one : (p r l err : List ℕ) → plus N (plus N p (scale N 1 (minus N (minus N r p) l))) err ≡ plus N (minus N r l) err
  step_one p r l err = by_value N h (search propers) (search propers) (simp (value-plus N h, value-minus N h, value-scale N h, const-one N h)
      (solve (𝓟 N h) (value N h p ∷ value N h r ∷ value N h l ∷ value N h err ∷ [])
      (# 0 :+ :1 :* (# 1 :- # 0 :- # 2) :+ # 3) (# 1 :- # 2 :+ # 3) refl))
