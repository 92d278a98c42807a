-- The numbers behind a rotation's turns: the turns modulo 2N, as the loop adds them up modulo 2^32, and what rounding brings in as the rounded phase less the phase
-- (`rounding_near` of `drift`). By the laws of remainders: 2N steps are a whole turn.
-- Assumes nothing.
use mathlib.Core.Path.{◌≡◌, sym, ap, ap₂, ◌∙◌}
use mathlib.Core.List.{List}
use Prim.Native.Nat.{ℕ, ◌+◌, ◌-◌, ◌*◌, ◌/◌, ◌%◌, ◌^◌, ◌≤◌, ◌<◌}
use native.Mathlib.Nat.{mod-lt, mod-eq_of_lt, mod-add-mod, add-mod-mod, add-mul-mod_self_left, div-add-mod, zero-add}
use native.Mathlib.Omega.{arith}
use lib.Pow.{pow_mono}
use Rattle.ring.specs.Word.{Q, at, neg}
use Rattle.ring.specs.Sums.{sum_to}
use Rattle.ring.specs.Turn.{source}
use Rattle.ring.specs.Phase.{phase_of}
use Rattle.params.specs.declared.Params.{Params}
use Rattle.params.specs.Ranges.{InRange}
use Rattle.params.specs.Sizes.{size}
use Rattle.params.proofs.Ranges.{size_from, size_to}
use Rattle.rotation.specs.Amount.{step, mask_amount, body_amount}
use Rattle.rotation.proofs.Amounts.{turn_is, turn_steps}
use Rattle.blind_rotation.specs.Drift.{turn_to}
use Rattle.blind_rotation.proofs.Start.{turn_sum}
use Rattle.drift.specs.PrivateWords.{rounding_word}
use Rattle.drift.specs.PrivateShort.{place_of}
use Rattle.drift.proofs.Round.{rounding_near}

module _ (p : Params) (r : InRange p) where
  turn_fits : size p + size p < Q
  unfolding Q
  turn_fits = let h = size_to p r in omega arith

  pub turn_power : 2 ^ (p.nbit + 1) % Q ≡ size p + size p
  turn_power = ap (λ (n : ℕ). n % Q) (turn_is p r) ∙ mod-eq_of_lt turn_fits

  -- nothing of it passes 32 bits
  pub turns_fit : (body masks : ℕ) {turn : ℕ} → turn ≡ size p + size p → body ≤ size p + size p → body + masks % turn < Q
  unfolding Q
  turns_fit body masks {turn} e h = let l = mod-lt masks (let q : 0 < turn = omega (arith, size_from p) in q) in let m = size_to p r in omega arith

  pub turn_pos : {turn : ℕ} → turn ≡ size p + size p → 0 < turn
  turn_pos e = omega (arith, size_from p)

  -- N, as the code has it
  pub size_power : 2 ^ p.nbit % Q ≡ size p
  size_power = mod-eq_of_lt (let h = turn_fits in omega arith)

  step_power : 2 ^ (31 - p.nbit) % Q ≡ step p
  unfolding step Q
  step_power = mod-eq_of_lt (let l : 31 - p.nbit ≤ 31 = omega arith in let h = pow_mono {i = 31 - p.nbit} {j = 31} l in omega arith)

  -- a turn is a whole number of 2N steps, so what is added up modulo 2^32 serves
  modulo_turn : (x : ℕ) → x % Q % (size p + size p) ≡ x % (size p + size p)
  modulo_turn x =
      let M = size p + size p in
      let e : x ≡ x % Q + M * (step p * (x / Q)) = (let d = div-add-mod x Q in let t = ap (λ (n : ℕ). n * (x / Q)) (turn_steps p r) in omega arith) in
      sym (ap (λ (n : ℕ). n % M) e ∙ add-mul-mod_self_left (x % Q) M (step p * (x / Q)))

  -- the place, from the amounts
  pub place_is : (key src : List ℕ) {turn body masks : ℕ} → turn ≡ size p + size p → body ≡ body_amount p (at src p.n)
      → masks ≡ sum_to p.n (λ j. at key j * mask_amount p (at src j)) % Q
      → (turn - (body + masks % turn) % turn) % turn ≡ place_of p key src
  unfolding source
  place_is key src {turn} {body} {masks} et eb em =
      let M = size p + size p in
      let B = body_amount p (at src p.n) in
      let S = sum_to p.n (λ j. at key j * mask_amount p (at src j)) in
      ap (λ (t : ℕ). (t - (body + masks % t) % t) % t) et
      ∙ ap₂ (λ (x y : ℕ). (M - (x + y % M) % M) % M) eb em
      ∙ ap (λ (x : ℕ). (M - (B + x) % M) % M) (modulo_turn S)
      ∙ ap (λ (x : ℕ). (M - x) % M) (add-mod-mod B S M ∙ sym (turn_sum p key src p.n))
      ∙ ap (λ (x : ℕ). (x - turn_to p key src p.n) % M) (sym (zero-add M))

  -- what rounding brings in, from the place and the phase
  pub rounding_is : (key src : List ℕ) {place power near phase rounding : ℕ} → at src p.n < Q → place ≡ place_of p key src → power ≡ 2 ^ (31 - p.nbit) % Q → near ≡ place * power % Q
      → phase ≡ phase_of p.n key src → rounding ≡ (near + neg phase) % Q → rounding ≡ rounding_word p key src
  rounding_is key src l ep ew en es er =
      er ∙ ap₂ (λ (x y : ℕ). (x + neg y) % Q) (en ∙ ap₂ (λ (x y : ℕ). x * y % Q) ep (ew ∙ step_power)) es
      ∙ mod-add-mod (place_of p key src * step p) Q (neg (phase_of p.n key src))
      ∙ sym (rounding_near p r key src l)
