-- Each part of a gate's drift in whole numbers agrees modulo 2^32 with the same part in words: definition by definition, sums with sums and products
-- with products; the rotation by induction on its steps.
-- Assumes nothing.
use mathlib.Core.Path.{◌≡◌, sym, ap, ◌∙◌}
use mathlib.Core.Bool.{Bool, true, false, cond}
use mathlib.Core.List.{List, [], ◌∷◌}
use Prim.Native.Nat.{ℕ, zero, suc, ◌+◌, ◌*◌, ◌-◌, ◌/◌, ◌%◌, ◌^◌, ◌≤◌, ◌<◌}
use native.Mathlib.Nat.{mod-lt}
use native.Mathlib.Omega.{arith}
use borrow.Author.Tests.{ne_eqb}
use lib.Dec.{eqb, ltb}
use lib.IntN.{ℤ, pos, neg_ℤ, neg_ℤ-neg_ℤ, ◌+ℤ◌, ◌-ℤ◌, ◌*ℤ◌}
use Rattle.ring.specs.Word.{Q, Q_pos, at, neg}
use Rattle.ring.specs.Sums.{sum_to}
use Rattle.ring.specs.Poly.{plus, minus, times, scale}
use Rattle.ring.specs.Turn.{negating, complemented}
use Rattle.ring.specs.Phase.{phase, after}
use Rattle.ring.proofs.SumLaws.{sum_add}
use Rattle.ring.proofs.Tab.{tab_below}
use Rattle.params.specs.declared.Params.{Params}
use Rattle.params.specs.Sizes.{size}
use Rattle.params.proofs.Ranges.{size_from}
use Rattle.rotation.specs.Amount.{half, step, mask_amount, body_amount}
use Rattle.key.specs.Switching.{row_part, carried, switching_row_error as switching_row}
use Rattle.decomposition.specs.Digit.{digit_weight, digit_of, digit_poly}
use Rattle.decomposition.specs.Pair.{pair_digit}
use Rattle.trgsw.specs.External.{row_a, row_b}
use Rattle.trgsw.specs.Errors.{bootstrapping_row_error, digit_errors, low_poly}
use Rattle.blind_rotation.specs.Blind.{steps_to, start_of}
use Rattle.blind_rotation.specs.Drift.{complement_words, step_moved, drift_step, drift_to}
use Rattle.switching.specs.Switched.{rounding, mask_field}
use Rattle.switching.specs.Drift.{dropped, used, used_errors, rounded_by, switching_drift}
use Rattle.drift.specs.Polynomials.{whole_sum, wholes, signeds, whole_times, whole_turn, whole_pair_phase}
use Rattle.drift.specs.Whole.{should_carry, bootstrapping_error, switching_error, remainder, rounding_drift, complements_drift, rows_drift, step_drift, rotation_drift, extracted_drift, switched_drift}
use Rattle.drift.specs.PrivateWords.{remainder_word, selected_word, rounding_word, extracted_word}
use Rattle.drift.proofs.Residues.{Is, is_pos, is_add, is_times, is_neg, is_minus, is_same, is_mod, is_sum, is_centre, is_centred, Are, are_wholes, are_tab, are_plus, are_minus, are_times, are_turned, are_total, is_phase, are_phase}
use Rattle.ring.specs.Pair.{Pair}
use Rattle.key.specs.Bits.{bit_rows}

-- ---- remainders

is_remainder : (p : Params) (x : ℕ) → Is (remainder p x) (remainder_word p x)
unfolding remainder remainder_word
is_remainder p x = is_mod (is_minus (is_pos ((x + half p) / step p * step p)) (is_pos x))

is_selected : (p : Params) (key src : List ℕ) → Is (whole_sum p.n (λ i. wholes key i *ℤ remainder p (at src i))) (selected_word p key src)
unfolding selected_word
is_selected p key src = is_sum p.n _ _ (λ i l. is_times (is_pos (at key i)) (is_remainder p (at src i)))

pub is_rounding : (p : Params) (key src : List ℕ) → Is (rounding_drift p key src) (rounding_word p key src)
unfolding rounding_drift rounding_word
is_rounding p key src = is_mod (is_minus (is_remainder p (at src p.n)) (is_selected p key src))

-- ---- the rotation

module _ (p : Params) (z : List ℕ) where
  abbrev N : ℕ
  N = size p

  are_complements : (k : ℕ) → Are N (complements_drift p z k) (complement_words p z k)
  unfolding complements_drift complement_words
  are_complements k =
      are_minus N (whole_times N (wholes (complemented N k)) (wholes z)) (wholes (complemented N k)) (times N (complemented N k) z) (complemented N k)
      (are_times N (wholes (complemented N k)) (wholes z) (complemented N k) z (are_wholes N (complemented N k)) (are_wholes N z)) (are_wholes N (complemented N k))

  -- digits are words, so what they are read as signed is the same modulo 2^32
  digit_below : (x : Pair) (j i : ℕ) → at (pair_digit p x j) i < Q
  unfolding pair_digit digit_poly digit_of
  digit_below x j i = go (ltb j p.l)
    where
      go : (c : Bool) → at (cond c (digit_poly p j x.a) (digit_poly p (j - p.l) x.b)) i < Q
      go true = tab_below N _ (λ y. mod-lt _ Q_pos) i
      go false = tab_below N _ (λ y. mod-lt _ Q_pos) i

  are_digits : (x : Pair) (j : ℕ) → Are N (signeds (pair_digit p x j)) (pair_digit p x j)
  are_digits x j i l = is_centre (at (pair_digit p x j) i) (digit_below x j i)

  -- what a row should carry
  place : (c i : ℕ) → Is (cond (eqb i 0) (pos c) (pos 0)) (c * at (1 ∷ []) i)
  place c zero = is_same (c * 1) (is_pos c) (ap (λ (n : ℕ). n % Q) (let q : c ≡ c * 1 = omega arith in q))
  place c (suc i) = rw (ne_eqb (suc i) 0 (λ e. let q : ⊥ = omega arith in q)) (is_same (c * 0) (is_pos 0) (ap (λ (n : ℕ). n % Q) (let q : 0 ≡ c * 0 = omega arith in q)))

  are_scaled : (c : ℕ) (f : ℕ → ℤ) (a : List ℕ) → ((i : ℕ) → i < N → Is (f i) (c * at a i)) → Are N f (scale N c a)
  unfolding scale
  are_scaled c f a h = are_tab N f _ (λ i l. is_mod (h i l))

  are_errors : (rows : List ℕ) (m j : ℕ) → Are N (bootstrapping_error p z rows m j) (bootstrapping_row_error p z rows m j)
  unfolding bootstrapping_error bootstrapping_row_error should_carry
  are_errors rows m j i l = is_centred (go (ltb j p.l))
    where
      ph : ℕ → ℤ
      ph = whole_pair_phase N z (row_a p rows j) (row_b p rows j)

      pw : List ℕ
      pw = phase N z (row_a p rows j) (row_b p rows j)

      c : ℕ
      c = m * digit_weight p j

      d : ℕ
      d = m * digit_weight p (j - p.l)

      go : (t : Bool) → Is (ph i -ℤ cond t (neg_ℤ (pos c *ℤ wholes z i)) (cond (eqb i 0) (pos d) (pos 0))) (at (cond t (plus N pw (scale N c z)) (minus N pw (scale N d (1 ∷ [])))) i)
      go true = rw (neg_ℤ-neg_ℤ (pos c *ℤ wholes z i)) (are_plus N ph (λ y. pos c *ℤ wholes z y) pw (scale N c z) (are_phase N z (row_a p rows j) (row_b p rows j))
          (are_scaled c (λ y. pos c *ℤ wholes z y) z (λ y b. is_times (is_pos c) (is_pos (at z y)))) i l)
      go false = are_minus N ph (λ y. cond (eqb y 0) (pos d) (pos 0)) pw (scale N d (1 ∷ [])) (are_phase N z (row_a p rows j) (row_b p rows j))
          (are_scaled d (λ y. cond (eqb y 0) (pos d) (pos 0)) (1 ∷ []) (λ y b. place d y)) i l

  are_rows : (rows : List ℕ) (m : ℕ) (x : Pair) → Are N (rows_drift p z rows m x) (digit_errors p z rows m x)
  unfolding rows_drift digit_errors
  are_rows rows m x = are_total N (p.l + p.l) (λ j. whole_times N (signeds (pair_digit p x j)) (bootstrapping_error p z rows m j)) (λ j. times N (pair_digit p x j) (bootstrapping_row_error p z rows m j))
      (λ j b. are_times N (signeds (pair_digit p x j)) (bootstrapping_error p z rows m j) (pair_digit p x j) (bootstrapping_row_error p z rows m j) (are_digits x j) (are_errors rows m j))

  -- one step
  are_stepped : (bsk : List ℕ) (i bit mask : ℕ) (x : Pair) (f : ℕ → ℤ) (e : List ℕ) → bit ≤ 1 → Are N f e → Are N (step_drift p z bsk i bit mask x f) (drift_step p z bsk i bit mask x e)
  unfolding step_drift drift_step
  are_stepped bsk i zero mask x f e b h = are_plus N f (rows_drift p z (bit_rows p bsk i) 0 (step_moved p mask x)) e (digit_errors p z (bit_rows p bsk i) 0 (step_moved p mask x)) h
      (are_rows (bit_rows p bsk i) 0 (step_moved p mask x))
  are_stepped bsk i (suc zero) mask x f e b h =
      let k = mask_amount p mask in
      let y = step_moved p mask x in
      let t = whole_turn N k f in
      let low = whole_pair_phase N z (low_poly p y.a) (low_poly p y.b) in
      are_plus N (λ i. t i +ℤ complements_drift p z k i -ℤ low i) (rows_drift p z (bit_rows p bsk i) 1 y)
      (minus N (plus N (negating N k e) (complement_words p z k)) (phase N z (low_poly p y.a) (low_poly p y.b))) (digit_errors p z (bit_rows p bsk i) 1 y)
      (are_minus N (λ i. t i +ℤ complements_drift p z k i) low (plus N (negating N k e) (complement_words p z k)) (phase N z (low_poly p y.a) (low_poly p y.b))
      (are_plus N t (complements_drift p z k) (negating N k e) (complement_words p z k) (are_turned N k f e h) (are_complements k))
      (are_phase N z (low_poly p y.a) (low_poly p y.b)))
      (are_rows (bit_rows p bsk i) 1 y)
  are_stepped bsk i (suc (suc bit)) mask x f e b h = absurd (let q : ⊥ = omega arith in q)

  module _ (key : List ℕ) (bits : (i : ℕ) → at key i ≤ 1) (bsk : List ℕ) (v : Pair) (src : List ℕ) where
    pub are_drifts : (i : ℕ) → Are N (rotation_drift p key z bsk v src i) (drift_to p key z bsk src v i)
    unfolding rotation_drift drift_to
    are_drifts zero = are_complements (body_amount p (at src p.n))
    are_drifts (suc i) = are_stepped bsk i (at key i) (at src i) (steps_to p bsk src (start_of p v (at src p.n)) i) (rotation_drift p key z bsk v src i)
        (drift_to p key z bsk src v i) (bits i) (are_drifts i)

    pub is_extracted : Is (extracted_drift p key z bsk v src) (extracted_word p key z bsk v src)
    unfolding extracted_drift extracted_word
    is_extracted = is_mod (is_add (are_drifts p.n 0 (size_from p)) (is_pos (after N 0 z)))

-- ---- switching

module _ (p : Params) (key z ksk : List ℕ) where
  is_error : (i j k : ℕ) → Is (switching_error p key z ksk i j k) (switching_row p key z ksk i j k)
  unfolding switching_error switching_row carried
  is_error i j k = is_centred (is_mod (is_minus (is_phase p.n key (row_part p ksk i j k)) (is_mod (is_pos (k * at z i * 2 ^ (32 - (j + 1) * p.basebit))))))

  is_used : (k : ℕ) {x : ℤ} {n : ℕ} → Is x n → Is (cond (eqb k 0) (pos 0) x) (used k n)
  unfolding used
  is_used k {x} {n} h = go (eqb k 0)
    where
      go : (c : Bool) → Is (cond c (pos 0) x) (cond c 0 n)
      go true = is_pos 0
      go false = h

  -- less two sums is less one sum of both
  apart : (s t : ℕ) → (neg s + neg t) % Q ≡ neg (s + t) % Q
  unfolding neg Q
  apart s t = omega arith

  pub is_switched : (sample : List ℕ) → Is (switched_drift p key z ksk sample) (switching_drift p key z ksk sample)
  unfolding switched_drift switching_drift used_errors rounded_by
  is_switched sample = is_mod (is_same _ (is_minus
      (is_neg (is_sum (size p) _ (used_errors p key z ksk sample) (λ i l. is_sum p.t _ _ (λ j b. is_used (mask_field p sample i j) (is_error i j (mask_field p sample i j))))))
      (is_sum (size p) _ (rounded_by p z sample) (λ i l. is_times (is_pos (at z i)) (is_minus (is_pos (rounding p)) (is_pos (dropped p (at sample i)))))))
      (apart (sum_to (size p) (used_errors p key z ksk sample)) (sum_to (size p) (rounded_by p z sample))
      ∙ ap (λ (n : ℕ). neg n % Q) (sym (sum_add (size p) (used_errors p key z ksk sample) (rounded_by p z sample)))))
