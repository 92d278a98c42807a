-- Where a rotation ends: the amounts turned, in steps, are less the sum's phase and what rounding brings in; so with a brought-in drift inside, the
-- place that comes to the front lies in the half of the turn that the sum's eighths name.
-- Assumes nothing.
use mathlib.Core.Path.{◌≡◌, sym, ap, ap₂, ◌∙◌}
use mathlib.Core.Bool.{Bool, true, false}
use mathlib.Core.Logic.{◌⊎◌, inl, inr}
use mathlib.Core.List.{List}
use Prim.Native.Nat.{ℕ, ◌+◌, ◌*◌, ◌-◌, ◌/◌, ◌%◌, ◌≤◌, ◌<◌}
use native.Mathlib.Nat.{mod-lt, mod-eq_of_lt, mod_self, div-add-mod, add-mul-div_right, add-mul-mod_self_left, mul-le-mul_right}
use native.Mathlib.Decide.{ℕ_discrete, dec_lt}
use native.Mathlib.Omega.{arith}
use borrow.Author.Tests.{ltb-true, eqb-true, ne_eqb, lt-ltb, le-ltb}
use Rattle.ring.specs.Word.{Q, Q_pos, at, neg, eighth}
use Rattle.ring.specs.Sums.{sum_to}
use Rattle.ring.specs.Phase.{inner, phase_of}
use Rattle.ring.specs.Turn.{source}
use Rattle.ring.specs.Centre.{H}
use Rattle.ring.proofs.SumLaws.{sum_mod, sum_add, sum_mul}
use Rattle.ring.proofs.Words.{mul-mod_r}
use Rattle.params.specs.declared.Params.{Params}
use Rattle.params.specs.Ranges.{InRange}
use Rattle.params.specs.Sizes.{size}
use Rattle.rotation.specs.Amount.{half, step, mask_amount, body_amount}
use Rattle.rotation.proofs.Amounts.{turn_steps, step_halves, half_pos, body_steps}
use Rattle.params.proofs.Ranges.{size_from}
use Rattle.ring.proofs.Centre.{Q_is}
use Rattle.tlwe.specs.Plain.{bit_word}
use Rattle.tlwe.specs.Decrypt.{bit_of}
use Rattle.tlwe.proofs.Inverse.{inside_cases, bit_back}
use Rattle.blind_rotation.specs.Drift.{turn_to}
use Rattle.gate_sums.specs.Kind.{stands_for}
use Rattle.blind_rotation.proofs.Start.{turn_sum}
use Rattle.drift.specs.PrivateShort.{side_of}
use Rattle.drift.specs.PrivateWords.{remainder_word, selected_word, rounding_word}
use Rattle.drift_size.specs.Size.{inside_word}

pub source_below : (N k i : ℕ) → 0 < N → source N k i < N + N
unfolding source
source_below N k i h = mod-lt _ (let q : 0 < N + N = omega arith in q)

-- ---- drifts inside

-- what inside says of a word
pub inside_word_lem : (w : ℕ) → w < Q → inside_word w ≡ true → (w < eighth) ⊎ (Q < w + eighth)
unfolding inside_word
inside_word_lem w l h = inside_cases eighth w l (ltb-true _ _ h)

-- a ciphertext whose drift is inside decrypts to its bit
pub inside_decrypts : (v : Bool) (d t : ℕ) → t ≡ (bit_word v + d) % Q → d < Q → inside_word d ≡ true → bit_of t ≡ v
unfolding inside_word
inside_decrypts v d t e l h = ap bit_of e ∙ bit_back v d l (ltb-true _ _ h)

-- ---- which half of the turn

-- the eighths that stand for a bit
stands_true : (e : ℕ) → stands_for true e ≡ true → (e ≡ 1) ⊎ (e ≡ 3)
stands_true e h = go (ℕ_discrete e 1)
  where
    go : Dec (e ≡ 1) → (e ≡ 1) ⊎ (e ≡ 3)
    go (yes q) = inl q
    go (no n) = inr (eqb-true e 3 (rw (ne_eqb e 1 n) at h))

stands_false : (e : ℕ) → stands_for false e ≡ true → (e ≡ 7) ⊎ (e ≡ 5)
stands_false e h = go (ℕ_discrete e 7)
  where
    go : Dec (e ≡ 7) → (e ≡ 7) ⊎ (e ≡ 5)
    go (yes q) = inl q
    go (no n) = inr (eqb-true e 5 (rw (ne_eqb e 7 n) at h))

-- the front half, and the back half
front : (e B : ℕ) → (e ≡ 1) ⊎ (e ≡ 3) → (B < eighth) ⊎ (Q < B + eighth) → B < Q → (e * eighth + B) % Q < H
unfolding Q H
front e B (inl q) (inl i) l = rw q (omega arith)
front e B (inl q) (inr i) l = rw q (omega arith)
front e B (inr q) (inl i) l = rw q (omega arith)
front e B (inr q) (inr i) l = rw q (omega arith)

back : (e B : ℕ) → (e ≡ 7) ⊎ (e ≡ 5) → (B < eighth) ⊎ (Q < B + eighth) → B < Q → H ≤ (e * eighth + B) % Q
unfolding Q H
back e B (inl q) (inl i) l = rw q (omega arith)
back e B (inl q) (inr i) l = rw q (omega arith)
back e B (inr q) (inl i) l = rw q (omega arith)
back e B (inr q) (inr i) l = rw q (omega arith)

-- a number of steps in the front half, and in the back half
steps_front : (N S R : ℕ) → R * S < N * S → R < N
steps_front N S R l = go (dec_lt R N)
  where
    go : Dec (R < N) → R < N
    go (yes u) = u
    go (no u) = absurd (let v : N ≤ R = omega arith in let m = mul-le-mul_right S v in let q : ⊥ = omega arith in q)

steps_back : (N S R : ℕ) → 0 < S → N * S ≤ R * S → N ≤ R
steps_back N S R h l = go (dec_lt R N)
  where
    go : Dec (R < N) → N ≤ R
    go (no u) = omega arith
    go (yes u) = absurd (let v : R + 1 ≤ N = omega arith in let m = mul-le-mul_right S v in let q : ⊥ = omega arith in q)

-- ---- the amounts, in steps

-- sums that cancel
cancel_two : (i s : ℕ) → (i + s + (neg i + neg s)) % Q ≡ 0
unfolding neg Q
cancel_two i s = omega arith

cancel_parts : (x b y c z : ℕ) → (x + ((b + y) % Q + (c + z) % Q)) % Q ≡ (x + (b + c + (y + z))) % Q
unfolding Q
cancel_parts x b y c z = omega arith

cancel_all : (B M c n j : ℕ) → (B + c) % Q ≡ 0 → M % Q ≡ j % Q → (j + n) % Q ≡ 0 → (B + M + (c + n)) % Q ≡ 0
unfolding Q
cancel_all B M c n j h e f = omega arith

settle : (B M b rb i s : ℕ) → (B + (b + rb)) % Q ≡ 0 → M % Q ≡ (i + s) % Q → (B + M + ((b + neg i) % Q + (rb + neg s) % Q)) % Q ≡ 0
settle B M b rb i s h e = cancel_parts (B + M) b (neg i) rb (neg s) ∙ cancel_all B M (b + rb) (neg i + neg s) (i + s) h e (cancel_two i s)

module _ (p : Params) (r : InRange p) where
  step_pos : 0 < step p
  step_pos = omega (arith, half_pos p r, step_halves p r)

  -- the rounded steps, before any wrap, are the word and its remainder
  nearest : (x : ℕ) → (x + half p) / step p * step p % Q ≡ (x + remainder_word p x) % Q
  unfolding remainder_word neg Q
  nearest x = omega arith

  -- a wrap takes whole turns off
  wrapped : (y : ℕ) → y % Q / step p * step p % Q ≡ y / step p * step p % Q
  wrapped y =
      let t : (size p + size p) * (y / Q) * step p ≡ Q * (y / Q) = (let u = ap (λ (n : ℕ). n * (y / Q)) (turn_steps p r) in omega arith) in
      let e : y ≡ y % Q + (size p + size p) * (y / Q) * step p = (let u = div-add-mod y Q in omega arith) in
      let f : y / step p ≡ y % Q / step p + (size p + size p) * (y / Q) = ap (λ (n : ℕ). n / step p) e ∙ add-mul-div_right (y % Q) ((size p + size p) * (y / Q)) step_pos in
      sym (ap (λ (n : ℕ). n * step p % Q) f ∙ whole (y % Q / step p) ((size p + size p) * (y / Q)) (y / Q) t)
    where
      whole : (a b q : ℕ) → b * step p ≡ Q * q → (a + b) * step p % Q ≡ a * step p % Q
      whole a b q e =
          ap (λ (n : ℕ). n % Q) ((let u : (a + b) * step p ≡ a * step p + b * step p = omega arith in u) ∙ ap (λ (n : ℕ). a * step p + n) e)
          ∙ add-mul-mod_self_left (a * step p) Q q

  mask_turn : (x : ℕ) → mask_amount p x * step p % Q ≡ (x + remainder_word p x) % Q
  unfolding mask_amount
  mask_turn x = wrapped (x + half p) ∙ nearest x

  body_turn : (b : ℕ) → b < Q → (body_amount p b * step p + (b + remainder_word p b)) % Q ≡ 0
  unfolding Q
  body_turn b l =
      let e = ap (λ (n : ℕ). n * step p) (body_steps p r b l) in
      let f = nearest b in
      let t = turn_steps p r in
      omega arith

  -- one mask under the key
  mask_under : (k x : ℕ) → k * mask_amount p x * step p % Q ≡ (x * k + k * remainder_word p x) % Q
  mask_under k x =
      ap (λ (n : ℕ). n % Q) (let q : k * mask_amount p x * step p ≡ k * (mask_amount p x * step p) = omega arith in q)
      ∙ sym (mul-mod_r k (mask_amount p x * step p)) ∙ ap (λ (n : ℕ). k * n % Q) (mask_turn x) ∙ mul-mod_r k (x + remainder_word p x)
      ∙ ap (λ (n : ℕ). n % Q) (let q : k * (x + remainder_word p x) ≡ x * k + k * remainder_word p x = omega arith in q)

  module _ (key src : List ℕ) where
    masks_turn : (n : ℕ) → sum_to n (λ j. at key j * mask_amount p (at src j)) * step p % Q ≡ (inner n key src + sum_to n (λ i. at key i * remainder_word p (at src i))) % Q
    unfolding inner
    masks_turn n =
        ap (λ (x : ℕ). x % Q) (sym (sum_mul n (step p) (λ j. at key j * mask_amount p (at src j))))
        ∙ sum_mod n _ (λ j. at src j * at key j + at key j * remainder_word p (at src j)) (λ j l. mask_under (at key j) (at src j))
        ∙ ap (λ (x : ℕ). x % Q) (sum_add n (λ j. at src j * at key j) (λ j. at key j * remainder_word p (at src j)))

    -- all amounts turned, in steps, cancel with the sum's phase and what rounding brings in
    turns_cancel : at src p.n < Q
        → ((body_amount p (at src p.n) + sum_to p.n (λ j. at key j * mask_amount p (at src j))) * step p + (phase_of p.n key src + rounding_word p key src)) % Q ≡ 0
    unfolding rounding_word phase_of selected_word
    turns_cancel l =
        let B = body_amount p (at src p.n) in
        let M = sum_to p.n (λ j. at key j * mask_amount p (at src j)) in
        ap (λ (n : ℕ). (n + (phase_of p.n key src + rounding_word p key src)) % Q) (let q : (B + M) * step p ≡ B * step p + M * step p = omega arith in q)
        ∙ settle (B * step p) (M * step p) (at src p.n) (remainder_word p (at src p.n)) (inner p.n key src) (selected_word p key src) (body_turn (at src p.n) l) (masks_turn p.n)

  -- whole turns
  multiple : (q : ℕ) → Q * q % Q ≡ 0
  unfolding Q
  multiple q = omega arith

  -- the place that comes to the front, and the amount, make whole turns
  source_turn : (T : ℕ) → (source (size p) (T % (size p + size p)) 0 * step p + T * step p) % Q ≡ 0
  unfolding source
  source_turn T = go (ℕ_discrete K 0)
    where
      M : ℕ
      M = size p + size p

      K : ℕ
      K = T % M

      q : ℕ
      q = T / M

      M_pos : 0 < M
      M_pos = omega (arith, size_from p)

      steps : M * q * step p ≡ Q * q
      steps = let u = ap (λ (n : ℕ). n * q) (turn_steps p r) in omega arith

      parts : M * q + K ≡ T
      parts = div-add-mod T M

      go : Dec (K ≡ 0) → ((0 + M - K) % M * step p + T * step p) % Q ≡ 0
      go (yes z) =
          let a : (0 + M - K) % M ≡ 0 = ap (λ (n : ℕ). n % M) (let u : 0 + M - K ≡ M = omega arith in u) ∙ mod_self M in
          let t : T ≡ M * q = omega (arith, parts) in
          ap₂ (λ (m n : ℕ). (m * step p + n * step p) % Q) a t ∙ ap (λ (n : ℕ). n % Q) (let u : 0 * step p + M * q * step p ≡ M * q * step p = omega arith in u ∙ steps) ∙ multiple q
      go (no n) =
          let l : K < M = mod-lt T M_pos in
          let a : (0 + M - K) % M ≡ M - K = ap (λ (n : ℕ). n % M) (let u : 0 + M - K ≡ M - K = omega arith in u) ∙ mod-eq_of_lt (let u : M - K < M = omega arith in u) in
          let b : (M - K) + T ≡ M * q + M = omega (arith, parts) in
          let f : (M - K) * step p + T * step p ≡ Q * (q + 1) = (let u = ap (λ (n : ℕ). n * step p) b in let v = turn_steps p r in omega (arith, steps)) in
          ap (λ (m : ℕ). (m * step p + T * step p) % Q) a ∙ ap (λ (n : ℕ). n % Q) f ∙ multiple (q + 1)

  -- so many steps, less than a turn
  steps_below : (R : ℕ) → R < size p + size p → R * step p < Q
  steps_below R l = let m = mul-le-mul_right (step p) (let u : R + 1 ≤ size p + size p = omega arith in u) in omega (arith, turn_steps p r, step_pos)

  pub half_turn : size p * step p ≡ H
  half_turn = let u = turn_steps p r in omega (arith, Q_is)

  -- the place in steps
  place : (R T X : ℕ) → R * step p < Q → (R * step p + T) % Q ≡ 0 → (T + X) % Q ≡ 0 → R * step p ≡ X % Q
  unfolding Q
  place R T X l e f = omega arith

  apart : {x : ℕ} (f d : ℕ) → d < Q → x ≡ (f + d) % Q → d ≡ (x + neg f) % Q
  unfolding neg Q
  apart f d b e = omega arith

  -- the rounded phase, in steps: the place that the turns bring to the front
  pub near : (key src : List ℕ) → at src p.n < Q → source (size p) (turn_to p key src p.n) 0 * step p ≡ (phase_of p.n key src + rounding_word p key src) % Q
  near key src l =
      let T = body_amount p (at src p.n) + sum_to p.n (λ j. at key j * mask_amount p (at src j)) in
      let R = source (size p) (turn_to p key src p.n) 0 in
      place R (T * step p) _ (steps_below R (source_below (size p) (turn_to p key src p.n) 0 (size_from p)))
      (ap (λ (k : ℕ). (source (size p) k 0 * step p + T * step p) % Q) (turn_sum p key src p.n) ∙ source_turn T) (turns_cancel key src l)

  -- so what rounding brings in is that less the phase
  pub rounding_near : (key src : List ℕ) → at src p.n < Q
      → rounding_word p key src ≡ (source (size p) (turn_to p key src p.n) 0 * step p + neg (phase_of p.n key src)) % Q
  unfolding rounding_word
  rounding_near key src l = apart (phase_of p.n key src) (rounding_word p key src) (mod-lt _ Q_pos) (near key src l)

  module _ (key src : List ℕ) (l : at src p.n < Q) (e B : ℕ) (i : inside_word B ≡ true) (lb : B < Q)
      (h : (phase_of p.n key src + rounding_word p key src) % Q ≡ (e * eighth + B) % Q) where
    abbrev K : ℕ
    K = turn_to p key src p.n

    in_steps : source (size p) K 0 * step p ≡ (e * eighth + B) % Q
    in_steps = near key src l ∙ h

    in_front : stands_for true e ≡ true → source (size p) K 0 < size p
    in_front s = steps_front (size p) (step p) (source (size p) K 0) (rw (in_steps, half_turn) (front e B (stands_true e s) (inside_word_lem B lb i) lb))

    in_back : stands_for false e ≡ true → size p ≤ source (size p) K 0
    in_back s = steps_back (size p) (step p) (source (size p) K 0) step_pos (rw (in_steps, half_turn) (back e B (stands_false e s) (inside_word_lem B lb i) lb))

    -- the side is the bit that the eighths stand for
    pub side_is : (m : Bool) → stands_for m e ≡ true → side_of p key src ≡ m
    unfolding side_of
    side_is true s = lt-ltb (source (size p) K 0) (size p) (in_front s)
    side_is false s = le-ltb (source (size p) K 0) (size p) (in_back s)
