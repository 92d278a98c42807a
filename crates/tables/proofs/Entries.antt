-- Which entry a coefficient takes. With N coefficients, even, place i's entry is the nearest multiple of N/M, so it is at most M; and a place within half a step of entry q's takes entry q.
-- The front law: a place that lies, in steps of a turn, within half a message's step of message q's word takes q's entry where it is in the first half of the turn, and the negative of the
-- negated first entry where it is just before the turn's end. So what a rotation brings to the front is f(q), whichever way the drift went.
-- Assumes nothing.
use mathlib.Core.Path.{◌≡◌, refl, sym, ap, ◌∙◌}
use mathlib.Core.Bool.{Bool, true, false, cond}
use mathlib.Core.Logic.{◌⊎◌, ⊎_elim}
use mathlib.Core.List.{List}
use Prim.Native.Nat.{ℕ, ◌+◌, ◌-◌, ◌*◌, ◌/◌, ◌%◌, ◌^◌, ◌≤◌, ◌<◌}
use native.Mathlib.Nat.{le_of_lt, mul-le-mul_right, mul-lt-mul_of_pos_right, lt_of_mul-lt-mul_right, div-eq_of_lt-le, div-add-mod, div-mul-le_self}
use native.Mathlib.Decide.{ℕ_discrete, dec_lt}
use native.Mathlib.Omega.{arith}
use borrow.Author.Tests.{eq-eqb, ne_eqb, eqb-true, lt-ltb, le-ltb}
use lib.Dec.{eqb, ltb}
use Rattle.ring.specs.Word.{Q, at, neg}
use Rattle.ring.specs.Centre.{H}
use Rattle.std.specs.Result.{is_ok}
use Rattle.params.specs.Refusal.{check, answer, Outcome, outcome}
use Rattle.tlwe.specs.Plain.{is_modulus, modulus_number}
use Rattle.tlwe.proofs.Messages.{modulus_bounds}
use Rattle.tables.specs.Table.{is_table, nearest_entry, table_word}

-- ---- a modulus that fits

both : (b c : Bool) → cond b c false ≡ true → (b ≡ true) × (c ≡ true)
both true c e = (refl, e)
both false c e = absurd (let z : ◌≡◌ {A = ℕ} 0 1 = cc in let q : ⊥ = omega arith in q)

-- what the code tests
pub not_modulus : (N m : ℕ) → (modulus_number m ≡ 0 → ⊥) → false ≡ is_table N m
unfolding is_table
not_modulus N m n = go (is_modulus m) n
  where
    go : (b : Bool) → (check b 5 0 ≡ 0 → ⊥) → false ≡ cond b (eqb (N % (2 * m)) 0) false
    go true k = absurd (k refl)
    go false k = refl

pub taken_modulus : (N m : ℕ) → modulus_number m ≡ 0 → eqb (N % (2 * m)) 0 ≡ is_table N m
unfolding is_table
taken_modulus N m e = go (is_modulus m) e
  where
    go : (b : Bool) → check b 5 0 ≡ 0 → eqb (N % (2 * m)) 0 ≡ cond b (eqb (N % (2 * m)) 0) false
    go true k = refl
    go false k = absurd (let q : ⊥ = omega arith in q)

-- what the call of `modulus_number` tells of it
module _ (m : ℕ) {o : Outcome} (e : o ≡ outcome (answer (modulus_number m))) where
  pub modulus_ok : is_ok o ≡ true → modulus_number m ≡ 0
  modulus_ok t = go (is_modulus m) (ap is_ok (sym e) ∙ t)
    where
      go : (b : Bool) → is_ok (outcome (answer (check b 5 0))) ≡ true → check b 5 0 ≡ 0
      go true k = refl
      go false k = absurd cc

  pub modulus_err : is_ok o ≡ false → modulus_number m ≡ 0 → ⊥
  modulus_err t = go (is_modulus m) (ap is_ok (sym e) ∙ t)
    where
      go : (b : Bool) → is_ok (outcome (answer (check b 5 0))) ≡ false → check b 5 0 ≡ 0 → ⊥
      go true k z = cc
      go false k z = omega arith

-- it is a message modulus
pub table_modulus : (N m : ℕ) → is_table N m ≡ true → modulus_number m ≡ 0
unfolding is_table
table_modulus N m e = rw (both (is_modulus m) _ e).0

pub table_bounds : (N m : ℕ) → is_table N m ≡ true → (1 ≤ m) × (m ≤ 64)
table_bounds N m e = modulus_bounds m (table_modulus N m e)

-- and N is even
pub table_halves : (N m : ℕ) → is_table N m ≡ true → N ≡ N / 2 + N / 2
unfolding is_table
table_halves N m e =
    let z : N % (2 * m) ≡ 0 = eqb-true _ _ (both (is_modulus m) _ e).1 in
    let d : 2 * m * (N / (2 * m)) + N % (2 * m) ≡ N = div-add-mod N (2 * m) in
    let k : ℕ = m * (N / (2 * m)) in
    let f : N ≡ k + k = omega arith in
    omega arith

-- ---- entries

-- an entry is at most M
pub entry_most : (N m i : ℕ) → i < N → nearest_entry N m i ≤ m
entry_most N m i l =
    let a : i * m ≤ N * m = mul-le-mul_right m (le_of_lt l) in
    go (dec_lt m (nearest_entry N m i)) a
  where
    go : Dec (m < nearest_entry N m i) → i * m ≤ N * m → nearest_entry N m i ≤ m
    go (no n) a = omega arith
    go (yes u) a =
        let b : (m + 1) * N ≤ nearest_entry N m i * N = mul-le-mul_right N (let q : m + 1 ≤ nearest_entry N m i = omega arith in q) in
        let c : nearest_entry N m i * N ≤ i * m + N / 2 = div-mul-le_self (i * m + N / 2) N in
        absurd (let q : ⊥ = omega arith in q)

-- the first again, negated, where it is M
pub last_entry : (N m i : ℕ) (f : List ℕ) → nearest_entry N m i ≡ m → table_word N m f i ≡ neg (at f 0) % Q
unfolding table_word
last_entry N m i f e = rw (eq-eqb (nearest_entry N m i) m e)

pub inner_entry : (N m i : ℕ) (f : List ℕ) → (nearest_entry N m i ≡ m → ⊥) → table_word N m f i ≡ at f (nearest_entry N m i)
unfolding table_word
inner_entry N m i f n = rw (ne_eqb (nearest_entry N m i) m n)

-- ---- places in steps of a turn: N steps s are half a turn, half a message's step is r words

module _ (N s m r : ℕ) (turn : N * s ≡ H) (half : r * m ≡ 2 ^ 30) (even : N ≡ N / 2 + N / 2) where
  -- half of N, in steps: a quarter of a turn
  quarter : N / 2 * s ≡ 2 ^ 30
  unfolding H
  quarter = let e : N * s ≡ (N / 2 + N / 2) * s = ap (λ (n : ℕ). n * s) even in omega (arith, turn)

  -- place S within half a message's step of q of them takes entry q
  pub entry_near : (q S : ℕ) → q * (2 * r) < S * s + r → S * s < q * (2 * r) + r → nearest_entry N m S ≡ q
  unfolding H
  entry_near q S lo hi = go (ℕ_discrete m 0)
    where
      -- times m, and s taken off
      over : (x y : ℕ) → x < y → 0 < m → x * m < y * m
      over x y l o = mul-lt-mul_of_pos_right l o

      halves : q * (2 * r) * m ≡ q * N * s
      halves = let a : q * (r * m) ≡ q * 2 ^ 30 = ap (λ (n : ℕ). q * n) half in let b : q * (N * s) ≡ q * 2 ^ 31 = ap (λ (n : ℕ). q * n) turn in omega arith

      go : Dec (m ≡ 0) → nearest_entry N m S ≡ q
      go (yes z) = absurd (let a : r * m ≡ r * 0 = ap (λ (n : ℕ). r * n) z in let q : ⊥ = omega (arith, half) in q)
      go (no n) =
          let o : 0 < m = omega arith in
          let a : q * N < S * m + N / 2 = lt_of_mul-lt-mul_right s (let u = over _ _ lo o in let v : q * N * s < (S * m + N / 2) * s = omega (arith, halves, quarter, half, u) in v) in
          let b : S * m < q * N + N / 2 = lt_of_mul-lt-mul_right s (let u = over _ _ hi o in let v : S * m * s < (q * N + N / 2) * s = omega (arith, halves, quarter, half, u) in v) in
          let c : q * N ≤ S * m + N / 2 = le_of_lt a in
          let d : S * m + N / 2 < (q + 1) * N = omega (arith, even, b) in
          div-eq_of_lt-le N c d

-- ---- what comes to the front

neg_twice : (x : ℕ) → neg (neg x % Q) % Q % Q ≡ x % Q
unfolding neg Q
neg_twice x = omega arith

-- the coefficient that place S, below 2N, brings to the front
abbrev pub front_entry : ℕ → ℕ → List ℕ → ℕ → ℕ
front_entry N m f S = cond (ltb S N) (table_word N m f S) (neg (table_word N m f (S - N)) % Q)

module _ (N s m r : ℕ) (turn : N * s ≡ H) (half : r * m ≡ 2 ^ 30) (even : N ≡ N / 2 + N / 2) (f : List ℕ) (q S : ℕ) (l : q < m) where
  -- q messages' steps and a half are at most half a turn
  steps : q * (2 * r) + 2 * r ≤ 2 ^ 31
  steps = let a : (q + 1) * r ≤ m * r = mul-le-mul_right r (let b : q + 1 ≤ m = omega arith in b) in omega (arith, half)

  -- in the first half of the turn: entry q
  early : q * (2 * r) < S * s + r → S * s < q * (2 * r) + r → front_entry N m f S % Q ≡ at f q % Q
  unfolding H
  early lo hi =
      let e = entry_near N s m r turn half even q S lo hi in
      let b : S < N = lt_of_mul-lt-mul_right s (let u : S * s < N * s = omega (arith, steps, turn, hi) in u) in
      rw (lt-ltb S N b, inner_entry N m S f (λ z. let n : ⊥ = omega (arith, e, z, l) in n), e)

  -- just before the turn's end: message 0, whose entry is there negated
  late : q ≡ 0 → (k : ℕ) → k < r → S * s + k ≡ 2 ^ 32 → front_entry N m f S % Q ≡ at f q % Q
  unfolding H
  late z k h e = go (dec_lt S N)
    where
      small : 2 * r ≤ 2 ^ 31
      small = omega (arith, steps)

      go : Dec (S < N) → front_entry N m f S % Q ≡ at f q % Q
      go (yes b) = absurd (let a : S * s ≤ N * s = mul-le-mul_right s (le_of_lt b) in let n : ⊥ = omega (arith, turn, small) in n)
      go (no n) =
          let b : N ≤ S = omega arith in
          let a : (S - N) * s + k ≡ 2 ^ 31 = (let u : S * s ≡ (S - N + N) * s = ap (λ (x : ℕ). x * s) (let v : S ≡ S - N + N = omega arith in v) in omega (arith, turn)) in
          let w : m * (2 * r) ≡ 2 ^ 31 = omega (arith, half) in
          let d = entry_near N s m r turn half even m (S - N) (omega arith) (omega arith) in
          rw (le-ltb S N b, last_entry N m (S - N) f d, z) (neg_twice (at f 0))

  -- the front law: the drift B is inside half a message's step
  pub front_entry_lem : (B : ℕ) → B < Q → (B < r) ⊎ (Q < B + r) → S * s ≡ (q * (2 * r) + B) % Q → front_entry N m f S % Q ≡ at f q % Q
  unfolding Q
  front_entry_lem B b c e = ⊎_elim
      (λ h. let x : S * s ≡ q * (2 * r) + B = omega (arith, steps, e) in early (omega arith) (omega arith))
      (λ h. go h (ℕ_discrete q 0)) c
    where
      go : 2 ^ 32 < B + r → Dec (q ≡ 0) → front_entry N m f S % 2 ^ 32 ≡ at f q % 2 ^ 32
      go h (yes z) =
          let y : q * (2 * r) ≡ 0 * (2 * r) = ap (λ (n : ℕ). n * (2 * r)) z in
          late z (2 ^ 32 - B) (omega arith) (omega (arith, e))
      go h (no n) =
          let p : 1 * r ≤ q * r = mul-le-mul_right r (let o : 1 ≤ q = omega arith in o) in
          let x : S * s + (2 ^ 32 - B) ≡ q * (2 * r) = omega (arith, steps, e, p) in
          early (omega arith) (omega arith)
