-- What the rows carry: the error of each generated row, in the sense of 01's Drift, is its noise. The masks' product and what the row should carry
-- fall out of its phase by the laws of rings; the row is found in the whole by the lengths.
-- Assumes nothing.
use mathlib.Core.Path.{◌≡◌, refl, sym, ap, ap₂, ◌∙◌}
use mathlib.Core.Bool.{Bool, true, false, cond}
use mathlib.Core.List.{List, [], ◌∷◌, ◌++◌}
use Prim.Native.Nat.{ℕ, ◌+◌, ◌-◌, ◌*◌, ◌%◌, ◌<◌}
use native.Mathlib.Nat.{one-mul}
use native.Mathlib.Omega.{arith}
use lib.Dec.{ltb}
use lib.ListN.{length, take, drop, length-append}
use lib.Seq.{take-take, take-add, take_at, drop_at, drop-drop}
use Rattle.ring.specs.Word.{Q, at}
use Rattle.ring.specs.Sums.{tab}
use Rattle.ring.specs.Poly.{plus, minus, times, scale}
use Rattle.ring.specs.Phase.{phase}
use Rattle.ring.proofs.Tab.{tab_ext}
use Rattle.ring.proofs.Parts.{part_at}
use Rattle.ring.proofs.Solve.{#, :0, :1, ◌:+◌, ◌:-◌, ◌:*◌, solve}
use Rattle.ring.proofs.Value.{by_value, 𝓟, value, value-plus, value-minus, value-times, value-scale, value-one, const, const-zero, const-one}
use Rattle.ring.proofs.Laws.{plus_proper, minus_proper, scale_proper, value-phase}
use Rattle.params.specs.declared.Params.{Params}
use Rattle.params.specs.Sizes.{size, bit_words}
use Rattle.params.proofs.Ranges.{size_from}
use Rattle.ring.proofs.Places.{length-plus}
use Rattle.ring.proofs.Joins.{length-joined, joined-part}
use Rattle.decomposition.specs.Digit.{digit_weight}
use Rattle.trgsw.specs.External.{row_a, row_b}
use Rattle.trgsw.specs.Errors.{bootstrapping_row_error}
use Rattle.bootstrapping.specs.Rows.{row_draw, torus_row, torus_rows, bit_draws, bit_draw, key_bit, bootstrapping_key}
use Rattle.bootstrapping.specs.Private.{mask_message, body_message, row_mask, row_body}
use Rattle.bootstrapping.proofs.Parts.{fits, row_halved}
use Rattle.ring.specs.Lists.{part}

-- ---- the phase of a row, less what it should carry

module _ (N : ℕ) (h : 0 < N) (z masks noise : List ℕ) (c : ℕ) where
  -- c added to a[0]: the phase should be -c·z
  low : plus N (phase N z (plus N masks (scale N c (1 ∷ []))) (plus N (plus N noise (times N masks z)) (scale N 0 (1 ∷ [])))) (scale N c z) ≡ scale N 1 noise
  low = by_value N h (plus_proper N h _ _) (scale_proper N h 1 noise)
      (simp (value-plus N h, value-phase N h, value-times N h, value-scale N h, value-one N h, const-zero N h, const-one N h)
      (solve (𝓟 N h) (value N h noise ∷ value N h masks ∷ value N h z ∷ const N h c ∷ [])
      (# 0 :+ # 1 :* # 2 :+ :0 :* :1 :- (# 1 :+ # 3 :* :1) :* # 2 :+ # 3 :* # 2) (:1 :* # 0) refl))

  -- c added to b[0]: it should be c
  high : minus N (phase N z (plus N masks (scale N 0 (1 ∷ []))) (plus N (plus N noise (times N masks z)) (scale N c (1 ∷ [])))) (scale N c (1 ∷ [])) ≡ scale N 1 noise
  high = by_value N h (minus_proper N h _ _) (scale_proper N h 1 noise)
      (simp (value-plus N h, value-minus N h, value-phase N h, value-times N h, value-scale N h, value-one N h, const-zero N h, const-one N h)
      (solve (𝓟 N h) (value N h noise ∷ value N h masks ∷ value N h z ∷ const N h c ∷ [])
      (# 0 :+ # 1 :* # 2 :+ # 3 :* :1 :- (# 1 :+ :0 :* :1) :* # 2 :- # 3 :* :1) (:1 :* # 0) refl))

-- the error of a row that was made so
module _ (p : Params) (m r : ℕ) (z masks noise rows : List ℕ) where
  abbrev N : ℕ
  N = size p

  abbrev error_by : Bool → List ℕ → List ℕ → List ℕ
  error_by t a b = cond t (plus N (phase N z a b) (scale N (m * digit_weight p r) z)) (minus N (phase N z a b) (scale N (m * digit_weight p (r - p.l)) (1 ∷ [])))

  pub error_of : row_a p rows r ≡ row_mask p m r masks → row_b p rows r ≡ row_body p m r z masks noise → bootstrapping_row_error p z rows m r ≡ scale N 1 noise
  unfolding bootstrapping_row_error row_mask row_body mask_message body_message
  error_of ea eb = ap₂ (error_by (ltb r p.l)) ea eb ∙ go (ltb r p.l)
    where
      go : (t : Bool)
          → error_by t (plus N masks (scale N (cond t (m * digit_weight p r) 0) (1 ∷ [])))
          (plus N (plus N noise (times N masks z)) (scale N (cond t 0 (m * digit_weight p (r - p.l))) (1 ∷ []))) ≡ scale N 1 noise
      go true = low N (size_from p) z masks noise (m * digit_weight p r)
      go false = high N (size_from p) z masks noise (m * digit_weight p (r - p.l))

-- ---- the rows in the whole

-- a list of two halves, by a part of a longer one
halves : (N : ℕ) (x a b : List ℕ) → length a ≡ N → take (N + N) x ≡ a ++ b → (take N x ≡ a) × (take N (drop N x) ≡ b)
halves N x a b la e =
    let first : take N x ≡ a = sym (take-take N (N + N) x (omega arith)) ∙ ap (take N) e ∙ take_at a b N la in (
      first,
      sym (drop_at (take N x) (take N (drop N x)) N (ap length first ∙ la)) ∙ ap (drop N) (sym (take-add N N x) ∙ e) ∙ drop_at a b N la,
    )

module _ (p : Params) (m : ℕ) (z masks noise : List ℕ) where
  pub length_row : (r : ℕ) → length (torus_row p m z masks noise r) ≡ size p + size p
  unfolding torus_row row_mask row_body
  length_row r = ap length (row_halved p m r z (row_draw p masks r) (row_draw p noise r)) ∙ simp (length-append, length-plus (size p))

  pub length_rows : length (torus_rows p m z masks noise) ≡ bit_words p
  unfolding torus_rows
  length_rows = length-joined (size p + size p) (torus_row p m z masks noise) (p.l + p.l) (λ r l. length_row r)

  module _ (r : ℕ) (hr : r < p.l + p.l) where
    -- row r of the rows, by halves
    row_halves : (row_a p (torus_rows p m z masks noise) r ≡ row_mask p m r (row_draw p masks r)) × (row_b p (torus_rows p m z masks noise) r ≡ row_body p m r z (row_draw p masks r) (row_draw p noise r))
    unfolding row_a row_b part torus_rows torus_row row_mask
    row_halves =
        let k = r * (size p + size p) in
        let e = halves (size p) (drop k (torus_rows p m z masks noise)) (row_mask p m r (row_draw p masks r)) (row_body p m r z (row_draw p masks r) (row_draw p noise r)) (length-plus (size p) _ _)
        (joined-part (size p + size p) (torus_row p m z masks noise) (p.l + p.l) (λ q l. length_row q) r hr ∙ row_halved p m r z (row_draw p masks r) (row_draw p noise r)) in
        (e.0, ap (take (size p)) (sym (drop-drop (size p) k (torus_rows p m z masks noise))) ∙ e.1)

    -- the error of row r of an encryption of m is its noise
    pub error_noise : bootstrapping_row_error p z (torus_rows p m z masks noise) m r ≡ tab (size p) (λ x. at noise (r * size p + x) % Q)
    unfolding scale row_draw
    error_noise =
        error_of p m r z (row_draw p masks r) (row_draw p noise r) (torus_rows p m z masks noise) row_halves.0 row_halves.1
        ∙ tab_ext (size p) _ _ (λ x l. ap (λ (y : ℕ). y % Q) (one-mul (at (row_draw p noise r) x) ∙ part_at noise (r * size p) (size p) x l))

-- ---- the bits in the whole key

module _ (p : Params) (key z masks noise : List ℕ) (i : ℕ) (hi : i < p.n) where
  -- bit i's part of the key
  pub bit_part : part (bit_words p) (i * bit_words p) (bootstrapping_key p key z masks noise) ≡ key_bit p key z masks noise i
  unfolding bootstrapping_key key_bit
  bit_part = joined-part (bit_words p) (key_bit p key z masks noise) p.n (λ j l. length_rows p (at key j) z (bit_draw p masks j) (bit_draw p noise j)) i hi

  -- the error of row r of bit i is its noise, drawn in row order
  pub key_error_noise : (r : ℕ) → r < p.l + p.l
      → bootstrapping_row_error p z (part (bit_words p) (i * bit_words p) (bootstrapping_key p key z masks noise)) (at key i) r ≡ tab (size p) (λ x. at noise (i * bit_draws p + (r * size p + x)) % Q)
  unfolding key_bit bit_draw
  key_error_noise r hr =
      ap (λ (rows : List ℕ). bootstrapping_row_error p z rows (at key i) r) bit_part
      ∙ error_noise p (at key i) z (bit_draw p masks i) (bit_draw p noise i) r hr
      ∙ tab_ext (size p) _ _ (λ x l.
      let f = fits r (p.l + p.l) (size p) (size p) {len = bit_draws p} hr refl refl in
      ap (λ (y : ℕ). y % Q) (part_at noise (i * bit_draws p) (bit_draws p) (r * size p + x) (omega arith)))
