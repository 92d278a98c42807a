-- Decryption inverts encryption where the centred noise is strictly inside its bound: 2^29 for a bit, 2^31/(2M) for a message of modulus M.
-- A centred word inside r is below r or within r of Q; the rest is reckoned at numerals, a message at each of the six moduli.
-- Assumes nothing.
use mathlib.Core.Path.{◌≡◌, refl, sym, ap, ◌∙◌}
use mathlib.Core.Logic.{◌⊎◌, inl, inr, ⊎_elim}
use mathlib.Core.Bool.{Bool, true, false, cond}
use mathlib.Core.List.{List}
use Prim.Native.Nat.{ℕ, suc, ◌+◌, ◌-◌, ◌*◌, ◌/◌, ◌%◌, ◌^◌, ◌≤◌, ◌<◌}
use native.Mathlib.Nat.{mod-lt, mod-eq_of_lt, le_of_lt, mul-le-mul_right, mul-lt-mul_of_pos_right, add-mod_right, mod_self}
use native.Mathlib.Decide.{ℕ_discrete}
use native.Mathlib.Omega.{arith}
use borrow.Author.Tests.{lt-ltb, le-ltb}
use lib.Dec.{ltb, ltb→lt, nltb→le}
use lib.IntN.{pos, negsuc, nat_abs}
use lib.ListN.{length, length-append}
use Rattle.ring.specs.Word.{Q, eighth}
use Rattle.ring.specs.Centre.{H, centre}
use Rattle.ring.proofs.Value.{by_test}
use Rattle.params.specs.declared.Params.{Params}
use Rattle.tlwe.specs.declared.Level.{Level}
use Rattle.tlwe.specs.declared.Plain.TheVariants.{Bit, Message}
use Rattle.tlwe.specs.Level.{dimension, cipher_words}
use Rattle.tlwe.specs.Key.{keyed_number}
use Rattle.tlwe.specs.Plain.{modulus_number, bit_word, message_word}
use Rattle.tlwe.specs.Encrypt.{encrypted}
use Rattle.tlwe.specs.Decrypt.{bit_of, message_of, message_number}
use Rattle.tlwe.proofs.Refusals.{Encryptable, keyed_done, message_then}
use Rattle.tlwe.proofs.Messages.{by_modulus, modulus_bounds}
use Rattle.tlwe.proofs.Phases.{phase_fresh}
use Rattle.ring.specs.Phase.{phase_of}

-- ---- inside

-- a word whose centred number is strictly inside r
pub inside_cases : (r w : ℕ) → w < Q → nat_abs (centre w) < r → (w < r) ⊎ (Q < w + r)
unfolding centre
inside_cases r w l =
    by_test (ltb w H) (λ (c : Bool). nat_abs (cond c (pos w) (negsuc (Q - suc w))) < r → (w < r) ⊎ (Q < w + r))
    (λ t h. inl h) (λ t h. inr (omega arith))

-- the same, as one comparison of words: w + (r - 1), wrapping, is below 2r - 1
pub inside_word : (r w : ℕ) → 1 ≤ r → r ≤ H → w < Q → nat_abs (centre w) < r → (w + (r - 1)) % Q < r + r - 1
unfolding H Q
inside_word r w o k l h = ⊎_elim (λ a. omega arith) (λ a. omega arith) (inside_cases r w l h)

pub word_inside : (r w : ℕ) → 1 ≤ r → r ≤ H → w < Q → (w + (r - 1)) % Q < r + r - 1 → nat_abs (centre w) < r
unfolding centre H Q
word_inside r w o k l h =
    by_test (ltb w H) (λ (c : Bool). nat_abs (cond c (pos w) (negsuc (Q - suc w))) < r)
    (λ t. let u : w < H = ltb→lt w H t in omega arith) (λ t. let u : H ≤ w = nltb→le w H t in omega arith)

-- ---- bits

bit_true : (w : ℕ) → (w < eighth) ⊎ (Q < w + eighth) → w < Q → (bit_word true + w) % Q < H
unfolding H Q
bit_true w c l = ⊎_elim (λ a. omega arith) (λ a. omega arith) c

bit_false : (w : ℕ) → (w < eighth) ⊎ (Q < w + eighth) → w < Q → H ≤ (bit_word false + w) % Q
unfolding H Q
bit_false w c l = ⊎_elim (λ a. omega arith) (λ a. omega arith) c

pub bit_back : (b : Bool) (noise : ℕ) → noise < Q → nat_abs (centre noise) < eighth → bit_of ((bit_word b + noise) % Q) ≡ b
bit_back true noise l h = lt-ltb _ H (bit_true noise (inside_cases eighth noise l h) l)
bit_back false noise l h = le-ltb _ H (bit_false noise (inside_cases eighth noise l h) l)

-- ---- messages

-- half a step, r: 2^31/(2m), exactly; a message's word is a whole number of steps
halves : (v m : ℕ) → modulus_number m ≡ 0 → (H / (2 * m) * m ≡ 2 ^ 30) × (message_word v m ≡ v % m * (2 * (H / (2 * m))))
unfolding H
halves v = by_modulus (λ (m : ℕ). (2 ^ 31 / (2 * m) * m ≡ 2 ^ 30) × (v % m * 2 ^ 31 / m ≡ v % m * (2 * (2 ^ 31 / (2 * m)))))
    (refl, omega arith) (refl, omega arith) (refl, omega arith) (refl, omega arith) (refl, omega arith) (refl, omega arith)

module _ (m r q : ℕ) (e : r * m ≡ 2 ^ 30) (o : 0 < m) where
  -- q steps and less than half a step more
  more : (w : ℕ) → w < r → ((q * (2 * r) + w) * (2 * m) + 2 ^ 31) / 2 ^ 32 ≡ q
  more w h =
      let a : q * (r * m) ≡ q * 2 ^ 30 = ap (λ (n : ℕ). q * n) e in
      let b : w * m < r * m = mul-lt-mul_of_pos_right h o in
      omega arith

  -- q steps less k, k below half a step
  less : (k t : ℕ) → k < r → t + k ≡ q * (2 * r) → (t * (2 * m) + 2 ^ 31) / 2 ^ 32 ≡ q
  less k t h f =
      let a : q * (r * m) ≡ q * 2 ^ 30 = ap (λ (n : ℕ). q * n) e in
      let b : k * m < r * m = mul-lt-mul_of_pos_right h o in
      let g : (t + k) * m ≡ q * (2 * r) * m = ap (λ (n : ℕ). n * m) f in
      omega arith

  -- a whole turn less k: 2m steps of a turn, so message 0
  turn : (k t : ℕ) → k < r → t + k ≡ 2 ^ 32 → (t * (2 * m) + 2 ^ 31) / 2 ^ 32 ≡ m + m
  turn k t h f =
      let b : k * m < r * m = mul-lt-mul_of_pos_right h o in
      let g : (t + k) * m ≡ 2 ^ 32 * m = ap (λ (n : ℕ). n * m) f in
      omega arith

-- twice m is a multiple of m
add-mod_self : (m : ℕ) → (m + m) % m ≡ 0
add-mod_self m = add-mod_right m m ∙ mod_self m

-- the rule at a word of q steps and noise w
nearest : (m r q w : ℕ) → r * m ≡ 2 ^ 30 → q < m → w < Q → (w < r) ⊎ (Q < w + r) → message_of m ((q * (2 * r) + w) % Q) ≡ q
unfolding H Q
nearest m r q w e l lw = ⊎_elim
    (λ a.
    let s : (q * (2 * r) + w) % 2 ^ 32 ≡ q * (2 * r) + w = omega (arith, steps, half) in
    ap (λ (t : ℕ). (t * (2 * m) + 2 ^ 31) / 2 ^ 32 % m) s ∙ ap (λ (t : ℕ). t % m) (more m r q e o w a) ∙ mod-eq_of_lt l)
    (λ a. go a (ℕ_discrete q 0))
  where
    o : 0 < m
    o = omega arith

    -- q steps are at most half a turn, and half a step at most a quarter
    steps : q * r ≤ 2 ^ 30
    steps = omega (arith, mul-le-mul_right r (le_of_lt l))

    half : r ≤ 2 ^ 30
    half = omega (arith, mul-le-mul_right r o)

    go : 2 ^ 32 < w + r → Dec (q ≡ 0) → ((q * (2 * r) + w) % 2 ^ 32 * (2 * m) + 2 ^ 31) / 2 ^ 32 % m ≡ q
    go a (yes z) =
        let y : q * (2 * r) ≡ 0 * (2 * r) = ap (λ (n : ℕ). n * (2 * r)) z in
        let s : (q * (2 * r) + w) % 2 ^ 32 + (2 ^ 32 - w) ≡ 2 ^ 32 = omega (arith, half) in
        ap (λ (t : ℕ). t % m) (turn m r q e o (2 ^ 32 - w) _ (omega arith) s) ∙ add-mod_self m ∙ sym z
    go a (no n) =
        let p : 1 * r ≤ q * r = mul-le-mul_right r (let h : 1 ≤ q = omega arith in h) in
        let s : (q * (2 * r) + w) % 2 ^ 32 + (2 ^ 32 - w) ≡ q * (2 * r) = omega (arith, steps, half, p) in
        ap (λ (t : ℕ). t % m) (less m r q e o (2 ^ 32 - w) _ (omega arith) s) ∙ mod-eq_of_lt l

pub message_back : (v m noise : ℕ) → modulus_number m ≡ 0 → noise < Q → nat_abs (centre noise) < H / (2 * m) → message_of m ((message_word v m + noise) % Q) ≡ v % m
message_back v m noise t l h =
    let g = halves v m t in
    let o : 0 < m = (modulus_bounds m t).0 in
    ap (λ (x : ℕ). message_of m ((x + noise) % Q)) g.1
    ∙ nearest m (H / (2 * m)) (v % m) noise g.0 (mod-lt v o) l (inside_cases (H / (2 * m)) noise l h)

-- ---- encryption, then decryption

module _ (p : Params) (level : Level) (masks key : List ℕ) (lo noise : ℕ) (small : noise < Q) where
  -- a fresh ciphertext has its level's words
  fresh_length : (word : ℕ) → length masks ≡ dimension p level → length (encrypted (dimension p level) word masks noise key) ≡ cipher_words p level
  unfolding encrypted
  fresh_length word e = length-append masks _ ∙ ap (λ (n : ℕ). n + 1) e

  -- an encryption of a bit that was not refused decrypts to the bit, if the noise is inside 2^29
  pub decrypts_bit : (b : Bool) → Encryptable p level (Bit b) (length masks) key lo → nat_abs (centre noise) < eighth
      → (keyed_number p level (length (encrypted (dimension p level) (bit_word b) masks noise key)) key ≡ 0)
      × (bit_of (phase_of (dimension p level) key (encrypted (dimension p level) (bit_word b) masks noise key)) ≡ b)
  decrypts_bit b g h = (
    keyed_done p level _ key g.good (fresh_length (bit_word b) g.masks) g.keys g.bits,
    ap bit_of (phase_fresh (dimension p level) (bit_word b) masks noise key g.masks) ∙ bit_back b noise small h,
  )

  -- an encryption of a message that was not refused decrypts to the message modulo M, if the noise is inside 2^31/(2M)
  pub decrypts_message : (v m : ℕ) → Encryptable p level (Message v m) (length masks) key lo → nat_abs (centre noise) < H / (2 * m)
      → (message_number p level m (length (encrypted (dimension p level) (message_word v m) masks noise key)) key ≡ 0)
      × (message_of m (phase_of (dimension p level) key (encrypted (dimension p level) (message_word v m) masks noise key)) ≡ v % m)
  decrypts_message v m g h = (
    message_then p level _ key m (keyed_done p level _ key g.good (fresh_length (message_word v m) g.masks) g.keys g.bits) ∙ g.message,
    ap (message_of m) (phase_fresh (dimension p level) (message_word v m) masks noise key g.masks) ∙ message_back v m noise g.message small h,
  )
