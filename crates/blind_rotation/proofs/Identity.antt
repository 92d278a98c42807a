-- The identity that demand 3 rests on, for any key rows at all: after every step the phase of the accumulator is X^K times the phase of the start vector, plus the
-- drift reckoned by document 01, K being the amount turned so far. An induction on the steps by the law of one step.
-- Assumes nothing.
use mathlib.Core.Path.{◌≡◌, refl, sym, ap, ap₂, ◌∙◌}
use mathlib.Core.Bool.{Bool, true, false, cond}
use mathlib.Core.List.{List, [], ◌∷◌}
use Prim.Native.Nat.{ℕ, zero, suc, ◌+◌, ◌*◌, ◌-◌, ◌%◌, ◌≤◌, ◌<◌}
use native.Mathlib.Nat.{mod-lt, mod-eq_of_lt, mod_self, add-mod_right, le_of_lt}
use native.Mathlib.Omega.{arith}
use native.Mathlib.Decide.{ℕ_discrete, dec_lt}
use lib.Dec.{eqb, ltb}
use borrow.Author.Tests.{eq-eqb, ne_eqb}
use Rattle.ring.specs.Word.{Q, at, neg}
use Rattle.ring.specs.Poly.{plus, minus}
use Rattle.ring.specs.Turn.{source, negating}
use Rattle.ring.proofs.Tab.{tab_ext}
use Rattle.ring.specs.Phase.{phase}
use Rattle.ring.proofs.Value.{Reduced, Proper, proper_reduced, by_value, value, value-plus, value-minus, 𝓟}
use Rattle.ring.proofs.Solve.{#, ◌:+◌, ◌:-◌, solve}
use Rattle.ring.proofs.Laws.{plus_proper, minus_proper, phase_proper, phase-rotated, negating-negating, negating-plus}
use Rattle.params.specs.declared.Params.{Params}
use Rattle.params.specs.Ranges.{InRange}
use Rattle.params.specs.Sizes.{size}
use Rattle.params.proofs.Ranges.{size_from}
use Rattle.rotation.specs.Amount.{mask_amount, body_amount}
use Rattle.rotation.proofs.Amounts.{mask_below, body_to}
use Rattle.trgsw.specs.Errors.{digit_errors, low_poly}
use Rattle.blind_rotation.specs.Blind.{turned, blind_step, steps_to, start_of, blind_rotated}
use Rattle.blind_rotation.specs.Drift.{complement_words, step_moved, drift_step, drift_to, turn_to}
use Rattle.blind_rotation.proofs.Phase.{step_phase_zero, step_phase_one}
use Rattle.ring.specs.Pair.{Pair}
use Rattle.key.specs.Bits.{bit_rows}

-- ---- regrouping

module _ (N : ℕ) (h : 0 < N) (t e err : List ℕ) where
  -- key bit 0
  stays : plus N (plus N t e) err ≡ plus N t (plus N e err)
  stays = by_value N h (plus_proper N h _ _) (plus_proper N h _ _) (simp (value-plus N h)
      (solve (𝓟 N h) (value N h t ∷ value N h e ∷ value N h err ∷ []) (# 0 :+ # 1 :+ # 2) (# 0 :+ (# 1 :+ # 2)) refl))

  -- key bit 1
  turns : (w l : List ℕ) → plus N (minus N (plus N (plus N t e) w) l) err ≡ plus N t (plus N (minus N (plus N e w) l) err)
  turns w l = by_value N h (plus_proper N h _ _) (plus_proper N h _ _) (simp (value-plus N h, value-minus N h)
      (solve (𝓟 N h) (value N h t ∷ value N h e ∷ value N h err ∷ value N h w ∷ value N h l ∷ [])
      (# 0 :+ # 1 :+ # 3 :- # 4 :+ # 2) (# 0 :+ (# 1 :+ # 3 :- # 4 :+ # 2)) refl))

-- the amount counts modulo 2N
pub negating-mod : (N : ℕ) (a : List ℕ) (k : ℕ) → k ≤ N + N → negating N (k % (N + N)) a ≡ negating N k a
unfolding negating source
negating-mod N a k lk = go (dec_lt k (N + N))
  where
    go : Dec (k < N + N) → negating N (k % (N + N)) a ≡ negating N k a
    go (yes u) = ap (λ (x : ℕ). negating N x a) (mod-eq_of_lt u)
    go (no n) =
        let e : k ≡ N + N = omega arith in
        let z : k % (N + N) ≡ 0 = ap (λ (x : ℕ). x % (N + N)) e ∙ mod_self (N + N) in
        tab_ext N _ _ (λ i l. ap (λ (s : ℕ). cond (ltb s N) (at a s) (neg (at a (s - N)) % Q))
        (ap (λ (x : ℕ). (i + (N + N) - x) % (N + N)) z
        ∙ ap (λ (x : ℕ). x % (N + N)) (let q : i + (N + N) - 0 ≡ i + (N + N) = omega arith in q) ∙ add-mod_right i (N + N)
        ∙ sym (ap (λ (x : ℕ). (i + (N + N) - x) % (N + N)) e ∙ ap (λ (x : ℕ). x % (N + N)) (let q : i + (N + N) - (N + N) ≡ i = omega arith in q))))

-- one of two
either : (N : ℕ) (h : 0 < N) (c : Bool) {a b : List ℕ} → Proper N h a → Proper N h b → Proper N h (cond c a b)
either N h true pa pb = pa
either N h false pa pb = pb

module _ (p : Params) (r : InRange p) (s z key src : List ℕ) (v : Pair) where
  abbrev N : ℕ
  N = size p

  h : 0 < N
  h = size_from p

  -- the phase of the start vector
  abbrev began : List ℕ
  began = phase N z v.a v.b

  -- the accumulator after k steps
  abbrev acc : ℕ → Pair
  acc k = steps_to p key src (start_of p v (at src p.n)) k

  reduced_began : Reduced began
  reduced_began = proper_reduced N h (phase_proper N h z v.a v.b)

  turn_below : (k : ℕ) → turn_to p s src k < N + N
  unfolding turn_to
  turn_below zero = mod-lt _ (let q : 0 < N + N = omega (arith, h) in q)
  turn_below (suc k) = mod-lt _ (let q : 0 < N + N = omega (arith, h) in q)

  -- every drift has N words below Q
  drift_proper : (k : ℕ) → Proper N h (drift_to p s z key src v k)
  unfolding drift_to drift_step complement_words
  drift_proper zero = minus_proper N h _ _
  drift_proper (suc k) = either N h (eqb (at s k) 0) (plus_proper N h _ _) (plus_proper N h _ _)

  module _ (k : ℕ) (e : phase N z (acc k).a (acc k).b ≡ plus N (negating N (turn_to p s src k) began) (drift_to p s z key src v k)) where
    -- the drift after k steps, and step k's amount, moved pair, added complements, cleared bits and errors
    abbrev D : List ℕ
    D = drift_to p s z key src v k

    abbrev j : ℕ
    j = mask_amount p (at src k)

    abbrev low : List ℕ
    low = phase N z (low_poly p (step_moved p (at src k) (acc k)).a) (low_poly p (step_moved p (at src k) (acc k)).b)

    abbrev errs : ℕ → List ℕ
    errs m = digit_errors p z (bit_rows p key k) m (step_moved p (at src k) (acc k))

    -- the phase of the next accumulator
    abbrev next : List ℕ
    next = phase N z (blind_step p key k (at src k) (acc k)).a (blind_step p key k (at src k) (acc k)).b

    onward_zero : next ≡ plus N (negating N (turn_to p s src k) began) (plus N D (errs 0))
    onward_zero = step_phase_zero p r z key k (at src k) (acc k) ∙ ap (λ (u : List ℕ). plus N u (errs 0)) e ∙ stays N h (negating N (turn_to p s src k) began) D (errs 0)

    turned_on : negating N j (plus N (negating N (turn_to p s src k) began) D) ≡ plus N (negating N ((j + turn_to p s src k) % (N + N)) began) (negating N j D)
    turned_on =
        let lj : j ≤ N + N = le_of_lt (mask_below p r (at src k)) in
        negating-plus N h j (negating N (turn_to p s src k) began) D lj
        ∙ ap (λ (u : List ℕ). plus N u (negating N j D)) (negating-negating N h j (turn_to p s src k) began reduced_began lj (le_of_lt (turn_below k)))

    onward_one : next ≡ plus N (negating N ((j + turn_to p s src k) % (N + N)) began) (plus N (minus N (plus N (negating N j D) (complement_words p z j)) low) (errs 1))
    unfolding complement_words
    onward_one =
        step_phase_one p r z key k (at src k) (acc k)
        ∙ ap (λ (u : List ℕ). plus N (minus N (plus N u (complement_words p z j)) low) (errs 1)) (ap (negating N j) e ∙ turned_on)
        ∙ turns N h (negating N ((j + turn_to p s src k) % (N + N)) began) (negating N j D) (errs 1) (complement_words p z j) low

    -- a step that goes on from the identity
    onward : at s k ≤ 1 → next ≡ plus N (negating N ((turn_to p s src k + at s k * j) % (N + N)) began) (drift_step p z key k (at s k) (at src k) (acc k) D)
    unfolding drift_step
    onward l = go (ℕ_discrete (at s k) 0)
      where
        stay : List ℕ
        stay = plus N D (errs 0)

        turn : List ℕ
        turn = plus N (minus N (plus N (negating N j D) (complement_words p z j)) low) (errs 1)

        go : Dec (at s k ≡ 0) → next ≡ plus N (negating N ((turn_to p s src k + at s k * j) % (N + N)) began) (cond (eqb (at s k) 0) stay turn)
        go (yes q) =
            onward_zero ∙ ap₂ (λ (n : ℕ) (u : List ℕ). plus N (negating N n began) u)
            (sym (ap (λ (b : ℕ). (turn_to p s src k + b * j) % (N + N)) q ∙ ap (λ (n : ℕ). n % (N + N)) (let w : turn_to p s src k + 0 * j ≡ turn_to p s src k = omega arith in w) ∙ mod-eq_of_lt (turn_below k)))
            (sym (ap (λ (c : Bool). cond c stay turn) (eq-eqb (at s k) 0 q)))
        go (no q) =
            let one : at s k ≡ 1 = omega arith in
            onward_one ∙ ap₂ (λ (n : ℕ) (u : List ℕ). plus N (negating N n began) u)
            (sym (ap (λ (b : ℕ). (turn_to p s src k + b * j) % (N + N)) one ∙ ap (λ (n : ℕ). n % (N + N)) (let w : turn_to p s src k + 1 * j ≡ j + turn_to p s src k = omega arith in w)))
            (sym (ap (λ (c : Bool). cond c stay turn) (ne_eqb (at s k) 0 q)))

  -- after k steps, k at most n, of a binary key s
  pub identity : ((i : ℕ) → at s i ≤ 1) → (k : ℕ)
      → phase N z (acc k).a (acc k).b ≡ plus N (negating N (turn_to p s src k) began) (drift_to p s z key src v k)
  unfolding steps_to start_of turned turn_to drift_to complement_words
  identity bits zero =
      phase-rotated N h (body_amount p (at src p.n)) z v.a v.b (body_to p r (at src p.n))
      ∙ ap (λ (u : List ℕ). plus N u (complement_words p z (body_amount p (at src p.n)))) (sym (negating-mod N began (body_amount p (at src p.n)) (body_to p r (at src p.n))))
  identity bits (suc k) = onward k (identity bits k) (bits k)

  -- after the whole rotation
  pub rotation_identity : ((i : ℕ) → at s i ≤ 1) → phase N z (blind_rotated p key src v).a (blind_rotated p key src v).b
      ≡ plus N (negating N (turn_to p s src p.n) began) (drift_to p s z key src v p.n)
  unfolding blind_rotated
  rotation_identity bits = identity bits p.n
