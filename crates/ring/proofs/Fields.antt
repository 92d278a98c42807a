-- The fields of a word, of w bits each, from the top: each is below 2^w, and the first k of them with what they count make the word without the rest,
-- by induction on k.
-- Assumes nothing.
use Rattle.std.proofs.Common.{◌≡◌, ℕ, zero, suc, ◌+◌, ◌-◌, ◌*◌, ◌/◌, ◌%◌, ◌^◌, ◌<◌, ◌≤◌, sym, ap, mod-lt, zero-mul, arith, pow_pos, pow-add, shr-shr}
use native.Mathlib.Nat.{div-eq_of_lt}
use lib.Pow.{split}
use Rattle.ring.specs.Word.{Q, field_of}
use Rattle.ring.specs.Sums.{sum_to}

pub field_below : (x w i : ℕ) → field_of x w i < 2 ^ w
unfolding field_of
field_below x w i = mod-lt (x / 2 ^ (32 - (i + 1) * w)) (pow_pos w)

-- one more field: what stands above bit t + w, and the field of w bits at t
more : (y t w : ℕ) → y / 2 ^ (t + w) * 2 ^ (t + w) + y / 2 ^ t % 2 ^ w * 2 ^ t ≡ y / 2 ^ t * 2 ^ t
more y t w =
    let e : y / 2 ^ (t + w) ≡ y / 2 ^ t / 2 ^ w = sym (shr-shr y t w) in
    let p : 2 ^ (t + w) ≡ 2 ^ t * 2 ^ w = pow-add 2 t w in
    let s : (y / 2 ^ t / 2 ^ w * 2 ^ w + y / 2 ^ t % 2 ^ w) * 2 ^ t ≡ y / 2 ^ t * 2 ^ t = ap (λ (n : ℕ). n * 2 ^ t) (split (y / 2 ^ t) w) in
    rw (e, p) (omega arith)

-- the top k fields are the word without the rest
pub fields_sum : (w y k : ℕ) → y < Q → k * w ≤ 32 → sum_to k (λ i. field_of y w i * 2 ^ (32 - (i + 1) * w)) ≡ y / 2 ^ (32 - k * w) * 2 ^ (32 - k * w)
unfolding sum_to field_of Q
fields_sum w y zero hy hk = rw zero-mul (rw (div-eq_of_lt hy) (omega arith))
fields_sum w y (suc k) hy hk =
    let ih = fields_sum w y k hy (omega arith) in
    let a : 32 - k * w ≡ 32 - (k + 1) * w + w = omega arith in
    let b : 32 - suc k * w ≡ 32 - (k + 1) * w = omega arith in
    rw b (rw ih (rw a (more y (32 - (k + 1) * w) w)))
