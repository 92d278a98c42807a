-- The fields of a rounded mask: they lie in the word, and with what they count they make the word without its low bits.
-- Assumes nothing.
use mathlib.Core.Path.{◌≡◌, ap, ◌∙◌}
use Prim.Native.Nat.{ℕ, ◌+◌, ◌-◌, ◌*◌, ◌/◌, ◌%◌, ◌^◌, ◌≤◌, ◌<◌}
use native.Mathlib.Nat.{mod-lt, mul-le-mul_right, mul_comm}
use native.Mathlib.Omega.{arith}
use lib.Pow.{split, pow_pos}
use Rattle.params.specs.declared.Params.{Params}
use Rattle.params.specs.Ranges.{InRange}
use Rattle.ring.specs.Word.{Q, Q_pos, field_of}
use Rattle.ring.specs.Sums.{sum_to}
use Rattle.ring.proofs.Fields.{fields_sum}
use Rattle.ring.proofs.Words.{power_below}
use Rattle.switching.specs.Switched.{rounding, rounded}
use Rattle.switching.specs.Drift.{dropped}

pub fields_fit : (p : Params) → InRange p → (j : ℕ) → j < p.t → (j + 1) * p.basebit ≤ 30
fields_fit p r j h = let l : j + 1 ≤ p.t = omega arith in omega (arith, r.fields_to, mul-le-mul_right p.basebit l)

-- what `ring::power` gives
pub field_power : (p : Params) → InRange p → (j : ℕ) → 2 ^ (32 - (j + 1) * p.basebit) % Q ≡ 2 ^ (32 - (j + 1) * p.basebit)
field_power p r j = let b = r.basebit_from in power_below (32 - (j + 1) * p.basebit) (omega arith)

pub base_power : (p : Params) → InRange p → 2 ^ p.basebit % Q ≡ 2 ^ p.basebit
base_power p r = power_below p.basebit (omega (arith, r))

pub power_pos : (n : ℕ) → 0 < 2 ^ n
power_pos n = pow_pos n

below : (p : Params) (a : ℕ) → rounded p a < Q
unfolding rounded
below p a = mod-lt (a + rounding p) Q_pos

-- all T fields and the low bits that are dropped make the rounded mask
pub fields_whole : (p : Params) → InRange p → (a : ℕ)
    → sum_to p.t (λ j. field_of (rounded p a) p.basebit j * 2 ^ (32 - (j + 1) * p.basebit)) + dropped p a ≡ rounded p a
unfolding dropped
fields_whole p r a =
    let e : p.t * p.basebit ≡ p.basebit * p.t = mul_comm p.t p.basebit in
    let y = rounded p a in
    let f = fields_sum p.basebit y p.t (below p a) (omega (arith, r.fields_to, e)) in
    ap (λ (n : ℕ). n + y % 2 ^ (32 - p.basebit * p.t)) (f ∙ ap (λ (n : ℕ). y / 2 ^ (32 - n) * 2 ^ (32 - n)) e) ∙ split y (32 - p.basebit * p.t)
