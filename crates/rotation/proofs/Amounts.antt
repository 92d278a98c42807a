-- Amounts: a mask's is below 2N and b's at most 2N, since a word is less than 2N steps.
-- Assumes nothing.
use mathlib.Core.Path.{◌≡◌, refl, sym, ap, ◌∙◌}
use Prim.Native.Nat.{ℕ, suc, ◌+◌, ◌-◌, ◌*◌, ◌/◌, ◌%◌, ◌^◌, ◌≤◌, ◌<◌}
use native.Mathlib.Nat.{mod-lt, two-pow-succ, div-lt_iff_lt-mul}
use native.Mathlib.Omega.{arith}
use lib.Pow.{pow-add, pow_pos}
use Rattle.params.specs.declared.Params.{Params}
use Rattle.params.specs.declared.refusal.Refusal.{Refusal}
use Rattle.params.specs.declared.refusal.Refusal.TheVariants.{Parameters}
use Rattle.params.specs.Ranges.{params_number, InRange}
use Rattle.params.specs.Refusal.{answer, given, unless}
use Rattle.params.specs.Private.{fits}
use Rattle.params.proofs.Ranges.{by_fits, not_refused}
use Rattle.std.specs.Prelude.{Bool, true, false, cond, eqb, Result, Ok}
use Rattle.std.specs.Result.{result_unwrap_or}
use Rattle.utils.specs.declared.Amount.{Amount}
use Rattle.params.specs.Sizes.{size}
use Rattle.ring.specs.Word.{Q, Q_pos}
use Rattle.ring.proofs.Words.{power_below}
use Rattle.rotation.specs.Amount.{half, step, mask_amount, body_amount, rounded_to}

module _ (p : Params) (r : InRange p) where
  -- 2N as a power
  pub turn_is : 2 ^ (p.nbit + 1) ≡ size p + size p
  turn_is = pow-add 2 p.nbit 1 ∙ (let q : 2 ^ p.nbit * 2 ^ 1 ≡ 2 ^ p.nbit + 2 ^ p.nbit = omega arith in q)

  -- what `ring::power` gives of them
  pub half_power : 2 ^ (30 - p.nbit) % Q ≡ half p
  unfolding half
  half_power = power_below (30 - p.nbit) (omega (arith, r.nbit_to))

  pub step_power : 2 ^ (31 - p.nbit) % Q ≡ step p
  unfolding step
  step_power = power_below (31 - p.nbit) (omega (arith, r.nbit_from))

  pub turn_power : 2 ^ (p.nbit + 1) % Q ≡ size p + size p
  turn_power = power_below (p.nbit + 1) (omega (arith, r.nbit_to)) ∙ turn_is

  -- 2N steps make a turn
  pub turn_steps : (size p + size p) * step p ≡ Q
  unfolding step Q
  turn_steps =
      ap (λ (n : ℕ). n * 2 ^ (31 - p.nbit)) (sym turn_is) ∙ sym (pow-add 2 (p.nbit + 1) (31 - p.nbit))
      ∙ ap (λ (n : ℕ). 2 ^ n) (let q : p.nbit + 1 + (31 - p.nbit) ≡ 32 = omega (arith, r.nbit_to) in q)

  -- a step is two halves
  pub step_halves : step p ≡ half p + half p
  unfolding step half
  step_halves = ap (λ (n : ℕ). 2 ^ n) (let q : 31 - p.nbit ≡ suc (30 - p.nbit) = omega (arith, r.nbit_to) in q) ∙ two-pow-succ (30 - p.nbit)

  pub half_pos : 0 < half p
  unfolding half
  half_pos = pow_pos (30 - p.nbit)

  pub step_pos : 0 < step p
  unfolding step
  step_pos = pow_pos (31 - p.nbit)

  pub mask_below : (x : ℕ) → mask_amount p x < size p + size p
  unfolding mask_amount
  mask_below x =
      let s : 0 < step p = omega (arith, half_pos, step_halves) in
      (div-lt_iff_lt-mul {k = step p} {x = (x + half p) % Q} {y = size p + size p} s).1 (rw turn_steps (mod-lt (x + half p) Q_pos))

  -- the steps nearest to b, before they are taken off 2N
  pub body_steps_to : (b : ℕ) → b < Q → (b + half p) / step p ≤ size p + size p
  body_steps_to b l =
      let s : 0 < step p = omega (arith, half_pos, step_halves) in
      let u : b + half p < (size p + size p + 1) * step p = omega (arith, turn_steps, step_halves, half_pos) in
      let v : (b + half p) / step p < size p + size p + 1 = (div-lt_iff_lt-mul {k = step p} {x = b + half p} {y = size p + size p + 1} s).1 u in
      omega arith

  pub body_to : (b : ℕ) → body_amount p b ≤ size p + size p
  unfolding body_amount
  body_to b = omega arith

  -- the amount tells the steps
  pub body_steps : (b : ℕ) → b < Q → body_amount p b + (b + half p) / step p ≡ size p + size p
  unfolding body_amount
  body_steps b l = omega (arith, body_steps_to b l)

-- what callers know of an amount that was asked for with parameters in range
pub rounded_done : (p : Params) (k : ℕ) → params_number p ≡ 0 → rounded_to p k ≡ Ok (record { 0 = k })
rounded_done p k e = rw e

-- its amount where the parameters are those of checked ones, q, whatever would stand for a refusal
module _ (p : Params) (i : InRange p) {q : Params} where
  value_of : (k : Params → ℕ) (d : Amount) {v : Amount} → q ≡ p → v ≡ result_unwrap_or (rounded_to q (k q)) d → v.0 ≡ k p
  value_of k d e u =
      ap (λ (a : Amount). a.0) (u ∙ ap (λ (m : Params). result_unwrap_or (rounded_to m (k m)) d) e ∙ ap (λ (r : Result Amount Refusal). result_unwrap_or r d) (rounded_done p (k p) (not_refused p i)))

  pub mask_value : (x : ℕ) (d : Amount) {r : Result Amount Refusal} {v : Amount} → q ≡ p → r ≡ rounded_to q (mask_amount q x) → v ≡ result_unwrap_or r d → v.0 ≡ mask_amount p x
  mask_value x d {r} e h u = value_of (λ m. mask_amount m x) d e (u ∙ ap (λ (s : Result Amount Refusal). result_unwrap_or s d) h)

  pub body_value : (b : ℕ) (d : Amount) {r : Result Amount Refusal} {v : Amount} → q ≡ p → r ≡ rounded_to q (body_amount q b) → v ≡ result_unwrap_or r d → v.0 ≡ body_amount p b
  body_value b d {r} e h u = value_of (λ m. body_amount m b) d e (u ∙ ap (λ (s : Result Amount Refusal). result_unwrap_or s d) h)

-- it is given by the number of the parameters' check
pub rounded_given : (p : Params) (k : ℕ) → rounded_to p k ≡ given (answer (params_number p)) (record { 0 = k })
rounded_given p k = rw (by_fits p) (go (fits p))
  where
    go : (b : Bool) → unless {A = Amount} (eqb (cond b 0 1) 0) Parameters (Ok (record { 0 = k })) ≡ given (answer (cond b 0 1)) (record { 0 = k })
    go true = refl
    go false = refl
