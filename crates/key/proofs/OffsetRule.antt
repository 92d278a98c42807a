-- The offset is its rule (02, 2026-04), once over BGBIT and L. The powers of 01's sum fall by a factor of 2^BGBIT, so 2^BGBIT - 1 times the sum is the
-- difference of two powers, by induction on the number of fields; hence the division leaves no remainder and gives the sum.
-- Assumes nothing.
use mathlib.Core.Path.{◌≡◌, sym, ap, ◌∙◌}
use Prim.Native.Nat.{ℕ, zero, suc, ◌+◌, ◌-◌, ◌*◌, ◌/◌, ◌%◌, ◌^◌, ◌≤◌, ◌<◌}
use native.Mathlib.Nat.{one-mul, mul-le-mul_right, mul-mod_left, mul-div_cancel, mul-div_assoc, mod-eq_of_lt, div-lt_iff_lt-mul, dvd_of_mod-eq-zero}
use native.Mathlib.Omega.{arith}
use lib.Pow.{pow-add, pow_pos, pow_mono}
use Rattle.std.specs.Prelude.{Ok}
use Rattle.ring.specs.Word.{Q}
use Rattle.ring.specs.Sums.{sum_to}
use Rattle.params.specs.declared.Params.{Params}
use Rattle.params.specs.Ranges.{params_number, InRange}
use Rattle.params.proofs.Ranges.{in_range}
use Rattle.key.specs.Offset.{offset, offset_out}
use Rattle.key.specs.OffsetRule.{offset_rule}
use Rattle.key.proofs.Checks.{offset_done}

-- ---- over the first power 2^t, the width b of a field and the number l of fields

-- 2^t and the powers below it, l in all, each 2^b times the next
abbrev falling : ℕ → ℕ → ℕ → ℕ
falling t b l = sum_to l (λ i. 2 ^ (t - i * b))

-- times 2^b - 1 all cancel but what stands before the first and the last
telescopes : (t b l : ℕ) → l * b ≤ t + b → falling t b l * (2 ^ b - 1) + 2 ^ (t + b - l * b) ≡ 2 ^ (t + b)
unfolding sum_to
telescopes t b zero h =
    let none : 2 ^ (t + b - 0 * b) ≡ 2 ^ (t + b) = ap (λ (n : ℕ). 2 ^ n) (omega arith) in
    omega arith
telescopes t b (suc l) h =
    let ih = telescopes t b l (omega arith) in
    let x : ℕ = 2 ^ (t - l * b) in
    let last : 2 ^ (t + b - suc l * b) ≡ x = ap (λ (n : ℕ). 2 ^ n) (omega arith) in
    let e : t + b - l * b ≡ t - l * b + b = omega arith in
    let before : 2 ^ (t + b - l * b) ≡ x * 2 ^ b = ap (λ (n : ℕ). 2 ^ n) e ∙ pow-add 2 (t - l * b) b in
    let split : x * 2 ^ b ≡ x * (2 ^ b - 1 + 1) = ap (λ (n : ℕ). x * n) (omega (arith, pow_pos b)) in
    rw last (omega arith)

-- what the rule divides is the sum times what it divides by
multiple : (t b l : ℕ) → l * b ≤ t + b → 2 ^ (t + b - l * b) * (2 ^ (l * b) - 1) ≡ falling t b l * (2 ^ b - 1)
multiple t b l h =
    let x : ℕ = 2 ^ (t + b - l * b) in
    let whole : x * 2 ^ (l * b) ≡ 2 ^ (t + b) = sym (pow-add 2 (t + b - l * b) (l * b)) ∙ ap (λ (n : ℕ). 2 ^ n) (omega arith) in
    let split : x * 2 ^ (l * b) ≡ x * (2 ^ (l * b) - 1 + 1) = ap (λ (n : ℕ). x * n) (omega (arith, pow_pos (l * b))) in
    omega (arith, telescopes t b l h)

-- ---- for parameters in range

module _ (p : Params) (r : InRange p) where
  abbrev dividend : ℕ
  dividend = 2 ^ (31 + p.bgbit - p.l * p.bgbit) * (2 ^ (p.l * p.bgbit) - 1)

  abbrev divisor : ℕ
  divisor = 2 ^ p.bgbit - 1

  fits : p.l * p.bgbit ≤ 31 + p.bgbit
  fits = omega (arith, r)

  dividend_is : dividend ≡ falling 31 p.bgbit p.l * divisor
  dividend_is = multiple 31 p.bgbit p.l fits

  pub divisor_pos : 0 < divisor
  divisor_pos = omega (arith, pow_mono {i = 1} {j = p.bgbit} r.bgbit_from)

  -- 64 bits are enough on the way
  pub dividend_below : dividend < 2 ^ (31 + p.bgbit)
  dividend_below = omega (arith, dividend_is, telescopes 31 p.bgbit p.l fits, pow_pos (31 + p.bgbit - p.l * p.bgbit))

  -- The rule is 01's sum, as a whole number.
  pub rule_is_sum : offset_rule p ≡ sum_to p.l (λ i. 2 ^ (31 - i * p.bgbit))
  unfolding offset_rule
  rule_is_sum = ap (λ (n : ℕ). n / divisor) dividend_is ∙ mul-div_cancel (falling 31 p.bgbit p.l) divisor_pos

  -- It is a word: the sum does not wrap.
  pub rule_below : offset_rule p < Q
  unfolding offset_rule Q
  rule_below =
      let top = pow-add 2 31 p.bgbit in
      (div-lt_iff_lt-mul {k = divisor} {x = dividend} {y = Q} divisor_pos).1 (omega (arith, dividend_below, divisor_pos))

  -- The offset is the rule.
  pub offset_is_rule : offset p ≡ offset_rule p
  unfolding offset
  offset_is_rule = ap (λ (n : ℕ). n % Q) (sym rule_is_sum) ∙ mod-eq_of_lt rule_below

  -- The division leaves no remainder.
  pub no_remainder : 2 ^ (31 + p.bgbit - p.l * p.bgbit) * (2 ^ (p.l * p.bgbit) - 1) % (2 ^ p.bgbit - 1) ≡ 0
  no_remainder = ap (λ (n : ℕ). n % divisor) dividend_is ∙ mul-mod_left (falling 31 p.bgbit p.l) divisor

  -- Nor does it leave one of the second factor alone, which is the sum of powers that end with 2^0, times the divisor.
  pub no_remainder_alone : (2 ^ (p.l * p.bgbit) - 1) % (2 ^ p.bgbit - 1) ≡ 0
  no_remainder_alone =
      let t : ℕ = p.l * p.bgbit - p.bgbit in
      let ones : ℕ = 2 ^ (p.l * p.bgbit) - 1 in
      let none : t + p.bgbit - p.l * p.bgbit ≡ 0 = omega (arith, mul-le-mul_right p.bgbit r.l_from) in
      let ones_are : ones ≡ falling t p.bgbit p.l * divisor =
      sym (one-mul ones) ∙ ap (λ (n : ℕ). 2 ^ n * ones) (sym none) ∙ multiple t p.bgbit p.l (omega arith) in
      ap (λ (n : ℕ). n % divisor) ones_are ∙ mul-mod_left (falling t p.bgbit p.l) divisor

  -- So it is the same number whether one multiplies or divides first.
  pub divided_first : offset_rule p ≡ 2 ^ (31 + p.bgbit - p.l * p.bgbit) * ((2 ^ (p.l * p.bgbit) - 1) / (2 ^ p.bgbit - 1))
  unfolding offset_rule
  divided_first = mul-div_assoc divisor (2 ^ (31 + p.bgbit - p.l * p.bgbit)) (dvd_of_mod-eq-zero divisor no_remainder_alone)

-- What a call hands back where it does not refuse.
pub told_is_rule : (p : Params) → params_number p ≡ 0 → offset_out p ≡ Ok (record { 0 = offset_rule p })
told_is_rule p z = offset_done p z ∙ ap (λ (n : ℕ). Ok (record { 0 = n })) (offset_is_rule p (in_range p z))
