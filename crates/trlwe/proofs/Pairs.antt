-- Pairs of polynomials: what the calls on one leave, put together; the phase of a fresh pair is the plain words plus the noise, and so decryption
-- gives its bits back where the noise is strictly inside 2^29; the phase of an extracted sample is the pair's at k and the ones of the key after k.
-- Assumes nothing.
use mathlib.Core.Path.{◌≡◌, refl, sym, ap, ◌∙◌}
use mathlib.Core.List.{List, [], ◌∷◌}
use Prim.Native.Nat.{ℕ, ◌+◌, ◌%◌, ◌<◌}
use native.Mathlib.Omega.{arith}
use lib.IntN.{nat_abs}
use lib.ListN.{length}
use Rattle.params.specs.declared.Params.{Params}
use Rattle.params.specs.Ranges.{InRange}
use Rattle.params.specs.Sizes.{size}
use Rattle.ring.specs.Word.{Q, at, neg, eighth}
use Rattle.ring.specs.Sums.{tab}
use Rattle.ring.specs.Poly.{plus, minus, times}
use Rattle.ring.specs.Phase.{phase, phase_of, after}
use Rattle.ring.specs.Centre.{centre}
use Rattle.ring.proofs.Tab.{at-tab, tab_ext}
use Rattle.ring.proofs.Solve.{#, ◌:+◌, ◌:-◌, ◌:*◌, solve}
use Rattle.ring.proofs.Value.{by_value, 𝓟, value, value-plus, value-times}
use Rattle.ring.proofs.Laws.{phase_proper, plus_proper, value-phase}
use Rattle.ring.proofs.Extract.{phase-extract}
use Rattle.product.specs.Product.{poly_mul_out, poly_mul_add_out}
use Rattle.product.proofs.Uses.{poly_mul_done, poly_mul_add_done}
use Rattle.ring.proofs.Places.{length-plus}
use Rattle.tlwe.specs.Plain.{bit_word}
use Rattle.tlwe.specs.Decrypt.{bit_of}
use Rattle.tlwe.proofs.Inverse.{bit_back}
use Rattle.trlwe.specs.Extract.{extracted}
use Rattle.trlwe.specs.Encrypt.{fresh_body, words_of_bits}
use Rattle.trlwe.specs.Decrypt.{decrypted}
use Rattle.ring.specs.Bit.{truth, bit_number}

-- ---- what the code leaves

-- b after the noise and the product were added to it
pub sealed : (p : Params) → InRange p → (masks noise key o : List ℕ) {sum out : List ℕ} → length masks ≡ size p → length key ≡ size p → length o ≡ size p
    → sum ≡ plus (length o) o noise → out ≡ poly_mul_add_out p masks key sum → out ≡ fresh_body (size p) o noise masks key
unfolding fresh_body
sealed p r masks noise key o {sum} lm lk lo e f =
    let s : sum ≡ plus (size p) o noise = e ∙ ap (λ (m : ℕ). plus m o noise) lo in
    f ∙ poly_mul_add_done p r masks key sum lm lk (ap length s ∙ length-plus (size p) o noise)
    ∙ ap (λ (l : List ℕ). plus (size p) l (times (size p) masks key)) s

-- the bits of b less the product
pub opened : (p : Params) → InRange p → (a b key o z : List ℕ) {az out : List ℕ} → length a ≡ size p → length key ≡ size p → length o ≡ size p → length z ≡ size p
    → az ≡ poly_mul_out p a key z → out ≡ tab (length o) (λ i. bit_number (bit_of ((at b i + neg (at az i)) % Q))) → out ≡ decrypted (size p) key a b
unfolding decrypted phase minus
opened p r a b key o z {az} la lk lo lz e f =
    let s : az ≡ times (size p) a key = e ∙ poly_mul_done p r a key z la lk lz in
    f ∙ ap (λ (m : ℕ). tab m (λ i. bit_number (bit_of ((at b i + neg (at az i)) % Q)))) lo
    ∙ tab_ext (size p) _ _ (λ i l. ap (λ (x : ℕ). bit_number (bit_of x))
    (ap (λ (t : List ℕ). (at b i + neg (at t i)) % Q) s ∙ sym (at-tab (size p) (λ j. (at b j + neg (at (times (size p) a key) j)) % Q) i l)))

-- ---- the phase of a fresh pair, and decryption

module _ (N : ℕ) (h : 0 < N) where
  pub phase_fresh : (plain noise masks z : List ℕ) → phase N z masks (fresh_body N plain noise masks z) ≡ plus N plain noise
  unfolding fresh_body
  phase_fresh plain noise masks z = by_value N h (phase_proper N h z masks _) (plus_proper N h plain noise)
      (simp (value-phase N h, value-plus N h, value-times N h)
      (solve (𝓟 N h) (value N h plain ∷ value N h noise ∷ value N h masks ∷ value N h z ∷ [])
      (# 0 :+ # 1 :+ # 2 :* # 3 :- # 2 :* # 3) (# 0 :+ # 1) refl))

  -- decryption inverts encryption of bits
  pub bits_back : (bytes noise masks z : List ℕ) → length bytes ≡ N → ((i : ℕ) → at noise i < Q) → ((i : ℕ) → i < N → nat_abs (centre (at noise i)) < eighth)
      → decrypted N z masks (fresh_body N (words_of_bits bytes) noise masks z) ≡ tab N (λ i. bit_number (truth (at bytes i)))
  unfolding decrypted plus
  bits_back bytes noise masks z e w s = tab_ext N _ _ (λ i l.
      let li : i < length bytes = omega arith in
      ap (λ (t : List ℕ). bit_number (bit_of (at t i))) (phase_fresh (words_of_bits bytes) noise masks z)
      ∙ ap (λ (x : ℕ). bit_number (bit_of x)) (at-tab N (λ j. (at (words_of_bits bytes) j + at noise j) % Q) i l
      ∙ ap (λ (x : ℕ). (x + at noise i) % Q) (at-tab (length bytes) (λ j. bit_word (truth (at bytes j))) i li))
      ∙ ap bit_number (bit_back (truth (at bytes i)) (at noise i) (w i) (s i l)))

  -- ---- extraction

  -- the sample's phase: the coefficient at k of the pair's phase, and one for each one of the key after k
  pub phase-extracted : (k : ℕ) (z a b : List ℕ) → k < N → phase_of N z (extracted N k a b) ≡ (at (phase N z a b) k + after N k z) % Q
  phase-extracted k z a b l = phase-extract N h k z a b l
