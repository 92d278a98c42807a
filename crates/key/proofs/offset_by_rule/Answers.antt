-- `key::offset_by_rule` meets its contract: the three shifts are the rule's powers, 64 bits hold the product, and the quotient is the offset, by the laws of OffsetRule.
-- Assumes nothing.
use mathlib.Core.Path.{◌≡◌, sym, ap₂, ◌∙◌}
use Prim.Native.Nat.{ℕ, ◌+◌, ◌-◌, ◌*◌, ◌/◌, ◌%◌, ◌^◌, ◌<◌}
use native.Mathlib.Nat.{one-mul}
use native.Mathlib.Omega.{arith}
use lib.Pow.{pow_mono, shl_exact}
use Rattle.ring.specs.Word.{Q}
use Rattle.params.specs.declared.Params.{Params}
use Rattle.params.specs.Ranges.{InRange}
use Rattle.key.specs.OffsetRule.{offset_rule}
use Rattle.key.proofs.OffsetRule.{dividend_below, rule_below, offset_is_rule}
use Rattle.key.proofs.offset_by_rule.Goals as goal

-- 1 moved up by s places in 64 bits
abbrev shifted : ℕ → ℕ
shifted s = 1 * 2 ^ s % 2 ^ 64

-- below 64 places nothing is lost
shifted_is : (s : ℕ) → s < 64 → shifted s ≡ 2 ^ s
shifted_is s h = shl_exact {a = 1} 1 s 64 (omega arith) (omega arith) ∙ one-mul (2 ^ s)

module _ (p : Params) (r : InRange p) where
  power : shifted (31 + p.bgbit - p.l * p.bgbit) ≡ 2 ^ (31 + p.bgbit - p.l * p.bgbit)
  power = shifted_is (31 + p.bgbit - p.l * p.bgbit) (omega (arith, r))

  fields : shifted (p.l * p.bgbit) ≡ 2 ^ (p.l * p.bgbit)
  fields = shifted_is (p.l * p.bgbit) (omega (arith, r))

  field : shifted p.bgbit ≡ 2 ^ p.bgbit
  field = shifted_is p.bgbit (omega (arith, r))

  product_fits : shifted (31 + p.bgbit - p.l * p.bgbit) * (shifted (p.l * p.bgbit) - 1) < 2 ^ 64
  product_fits =
      let e = ap₂ (λ (x y : ℕ). x * (y - 1)) power fields in
      omega (arith, e, dividend_below p r, pow_mono {i = 31 + p.bgbit} {j = 64} (omega (arith, r)))

  quotient : shifted (31 + p.bgbit - p.l * p.bgbit) * (shifted (p.l * p.bgbit) - 1) / (shifted p.bgbit - 1) ≡ offset_rule p
  unfolding offset_rule
  quotient = ap₂ (λ (d c : ℕ). d / (c - 1)) (ap₂ (λ (x y : ℕ). x * (y - 1)) power fields) field

pub overflow_mul-result : goal.overflow_mul-result
overflow_mul-result c = omega (arith, product_fits c.p.inside.params c.p.invariant.0)

pub overflow_cast-result : goal.overflow_cast-result
unfolding Q
overflow_cast-result c = omega (arith, quotient c.p.inside.params c.p.invariant.0, rule_below c.p.inside.params c.p.invariant.0)

pub returns : goal.returns
returns c = let p = c.p.inside.params in let r = c.p.invariant.0 in rw (sym c.p.view_is) (quotient p r ∙ sym (offset_is_rule p r))
