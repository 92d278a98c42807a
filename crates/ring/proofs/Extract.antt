-- The phase of an extracted sample: the coefficient of the phase, and one for each one of the key after the place, for there the Rust
-- complements instead of negating.
-- Assumes nothing.
use Rattle.std.proofs.Common.{◌≡◌, ℕ, ◌+◌, ◌-◌, ◌*◌, ◌%◌, ◌<◌, Bool, true, false, cond, leb, List, [], ◌∷◌, ◌++◌, length, sym, ap, ◌∙◌, ap₂}
use lib.ListN.{get_or-append}
use lib.Seq.{get_or_at}
use Rattle.ring.proofs.Ring.{ring}
use Rattle.ring.proofs.Sum.{sum, sum_cong, sum-add}
use Rattle.ring.proofs.Word.{word-add, word-mul, word_mod, word_sum, word_fst, word-zero, word-one}
use Rattle.ring.specs.Phase.{after, phase, extract, inner, phase_of}
use Rattle.ring.specs.Sums.{sum_to}
use Rattle.ring.specs.Word.{Q, Q_pos, neg, comp, at}
use Rattle.ring.specs.Poly.{before, times, minus}
use Rattle.ring.proofs.Value.{W, 𝓦, w, w-neg, w-comp}
use Rattle.ring.proofs.Tab.{at-tab, length-tab}
use Rattle.ring.proofs.SumLaws.{sum_ext}
use Rattle.ring.proofs.Laws.{times_comm}
open 𝓦 use {𝟘, 𝟙, ◌⊕◌, ◌⊗◌, ⊖◌}

infixl 60 ◌⊕◌
infixl 70 ◌⊗◌
infix 80 ⊖◌
pub w_injective : (x y : ℕ) → w x ≡ w y → x % Q ≡ y % Q
w_injective x y q = sym (word_fst Q Q_pos x) ∙ ap (λ (u : W). u.0) q ∙ word_fst Q Q_pos y

-- one term
term : (c : Bool) (x y z : ℕ) → w (z * cond c x (neg y)) ≡ w (cond c x (comp y) * z) ⊕ w (cond c 0 z)
term true x y z = rw (word-mul Q Q_pos z x, word-mul Q Q_pos x z, ← word-zero Q Q_pos) (simp (ring, 𝓦))
term false x y z = rw (word-mul Q Q_pos z (neg y), word-mul Q Q_pos (comp y) z, w-neg, w-comp, ← word-one Q Q_pos) (simp (ring, 𝓦))

-- the phase of a sample, by its n masks m and its last word b
pub phase_row : (n : ℕ) (key m : List ℕ) (b : ℕ) → length m ≡ n → phase_of n key (m ++ (b ∷ [])) ≡ (b + neg (inner n key m)) % Q
unfolding phase_of inner
phase_row n key m b e =
    ap₂ (λ (x s : ℕ). (x + neg s) % Q) (get_or_at m b [] 0 n e)
    (sum_ext n (λ i. at (m ++ (b ∷ [])) i * at key i) (λ i. at m i * at key i) (λ i l. ap (λ (x : ℕ). x * at key i) (get_or-append m (b ∷ []) 0 i (rw e l))))

pub phase-extract : (N : ℕ) → 0 < N → (k : ℕ) (z a b : List ℕ) → k < N
    → phase_of N z (extract N k a ++ (at b k ∷ [])) ≡ (at (phase N z a b) k + after N k z) % Q
unfolding inner phase minus times before extract after
phase-extract N h k z a b l = phase_row N z (extract N k a) (at b k) (length-tab N _) ∙ w_injective _ _ (left ∙ sym right)
  where
    s : W
    s = sum 𝓦 N (λ i. w (at (extract N k a) i * at z i))

    c : W
    c = w (after N k z)

    left : w (at b k + neg (sum_to N (λ i. at (extract N k a) i * at z i))) ≡ w (at b k) ⊕ ⊖ s
    left = word-add Q Q_pos _ _ ∙ ap (λ (x : W). w (at b k) ⊕ x) (w-neg _ ∙ ap ⊖◌ (word_sum Q Q_pos N _))

    product : w (at (times N a z) k) ≡ s ⊕ c
    product =
        ap (λ (t : List ℕ). w (at t k)) (times_comm N h a z) ∙ ap w (at-tab N _ k l) ∙ word_mod Q Q_pos _
        ∙ word_sum Q Q_pos N (λ i. at z i * before N a k i)
        ∙ sum_cong 𝓦 N (λ i. w (at z i * before N a k i)) (λ i. w (at (extract N k a) i * at z i) ⊕ w (cond (leb i k) 0 (at z i)))
        (λ i li. term (leb i k) (at a (k - i)) (at a (N + k - i)) (at z i) ∙ rw (at-tab N _ i li))
        ∙ sum-add 𝓦 N _ _ ∙ ap (λ (x : W). s ⊕ x) (sym (word_sum Q Q_pos N _))

    right : w (at (phase N z a b) k + after N k z) ≡ w (at b k) ⊕ ⊖ s
    right =
        word-add Q Q_pos _ _
        ∙ ap (λ (x : W). x ⊕ c) (ap w (at-tab N _ k l) ∙ word_mod Q Q_pos _ ∙ word-add Q Q_pos _ _ ∙ ap (λ (x : W). w (at b k) ⊕ x) (w-neg _ ∙ ap ⊖◌ product))
        ∙ simp (ring, 𝓦)
