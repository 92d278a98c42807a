-- The branches of `f64_to_torus`, by the sign of its product: the call of `truncating_f64_to_u64` is allowed, what it gives is below 2^32, and it is the word of `specs/Torus.antt`.
-- Assumes nothing.
use Rattle.std.proofs.Common.{◌≡◌, ℕ, ◌+◌, ◌-◌, ◌*◌, ◌/◌, ◌%◌, ◌^◌, ◌<◌, ◌≤◌, min, Bool, true, false, not, T, ℤ, pos, sym, refl, ap, ◌∙◌, subst, inl, inr, true≢false, le_of_eq, lt_of_lt_of_le, lt_irrefl, mod-lt, div-lt_iff_lt-mul, eq-zero-or-pos, lt_of_mul-lt-mul_right, mul-lt-mul_of_pos_right, mul-pos, zero-mul, mul_right_comm, arith, lit≤, ltb→lt, lt→ltb, nltb→le}
use native.Mathlib.Nat.{div-eq_of_lt}
use lib.Ieee.{Float, nan, inf, fin, binary64, up, down, rem, add, sub, mul, neg, lt, fits, is_nan, to_unsigned}
use lib.Ieee.Fits.{down_pos}
use lib.Ieee.Exact.{HasValue}
use lib.Ieee.Nearest.{div_same}
use Rattle.std.specs.Float.{fract, round_with, float_with_sign, is_sign_negative}
use Rattle.ring.specs.Word.{Q, Q_pos}
use Rattle.utils.specs.Torus.{word}
use Rattle.utils.specs.Private.{IsFraction, IsScaledFraction}
use Rattle.utils.proofs.Exact.{one, rem-one, fract_signed, mul-pow}
use Rattle.utils.proofs.Laws.{signed, signed-zero}

abbrev pub zero_f : Float
zero_f = fin false 0 (pos 0)

-- ---- the two float operations of the code
pub fract_is_fraction : (d r : Float) → is_nan d ≡ false → r ≡ float_with_sign (is_sign_negative d) (fract binary64 d) → T (fits binary64 d) → IsFraction d r
unfolding is_nan is_sign_negative float_with_sign round_with sub add neg
fract_is_fraction nan r n e F = absurd (true≢false n)
fract_is_fraction (inf true) r n e F = e
fract_is_fraction (inf false) r n e F = e
fract_is_fraction (fin s m g) r n e F = subst (λ (x : Float). HasValue x s (m * up g % down g) (down g)) (sym e) (fract_signed binary64 s m g F)

-- the remainder by 1 is the fraction too
pub is_fraction : (d : Float) → T (fits binary64 d) → IsFraction d (rem binary64 d one)
is_fraction nan F = unfold rem in refl
is_fraction (inf s) F = unfold rem in refl
is_fraction (fin s m e) F = rem-one binary64 s m e F

pub no_fraction : (d : Float) → is_nan d ≡ true → IsFraction d d
unfolding is_nan
no_fraction nan n = refl
no_fraction (inf s) n = absurd (true≢false (sym n))
no_fraction (fin s m e) n = absurd (true≢false (sym n))

pub is_scaled : (d x : Float) → T (fits binary64 x) → IsFraction d x → IsScaledFraction d (mul binary64 x (fin false 1 (pos 32)))
unfolding Q
is_scaled nan x F v = subst (λ (y : Float). mul binary64 y (fin false 1 (pos 32)) ≡ nan) (sym v) (unfold mul in refl)
is_scaled (inf s) x F v = subst (λ (y : Float). mul binary64 y (fin false 1 (pos 32)) ≡ nan) (sym v) (unfold mul in refl)
is_scaled (fin s m e) x F v = mul-pow binary64 x s (m * up e % down e) (down e) 32 F (lit≤ tt) (down_pos e) (mod-lt (m * up e) (down_pos e)) v

-- ---- n / d and a / c are one number
times : (n d a c k : ℕ) → 0 < c → 0 < d → n * c ≡ a * d → a < k * c → n < k * d
times n d a c k C D e h =
    lt_of_mul-lt-mul_right c (subst (λ (x : ℕ). x < k * d * c) (sym e) (lt_of_lt_of_le (mul-lt-mul_of_pos_right h D) (le_of_eq (mul_right_comm k c d))))

uncapped : (q : ℕ) → q < 2 ^ 32 → min q (2 ^ 64 - 1) ≡ q
uncapped q h = omega arith

-- ---- a value from 0 up and below 2^32
pub cut : (x : Float) (a c : ℕ) → 0 < c → a < 2 ^ 32 * c → HasValue x false a c → to_unsigned 64 x ≡ a / c
unfolding to_unsigned
cut nan a c C b v = absurd v
cut (inf s) a c C b v = absurd v
cut (fin true m e) a c C b v = absurd (true≢false v.0)
cut (fin false m e) a c C b v =
    let q : m * up e / down e ≡ a / c = div_same (m * up e) (down e) a c (down_pos e) C v.1 in
    ap (λ (x : ℕ). min x (2 ^ 64 - 1)) q ∙ uncapped (a / c) ((div-lt_iff_lt-mul C).1 b)

pub above_minus_one : (x : Float) (a c : ℕ) → HasValue x false a c → T (lt (fin true 1 (pos 0)) x)
unfolding lt
above_minus_one nan a c v = absurd v
above_minus_one (inf s) a c v = absurd v
above_minus_one (fin true m e) a c v = absurd (true≢false v.0)
above_minus_one (fin false m e) a c v = lt→ltb 0 (1 * down e + m * up e * 1) (some (down e) (m * up e) (down_pos e))
  where
    some : (d n : ℕ) → 0 < d → 0 < 1 * d + n * 1
    some d n h = omega arith

pub below_64 : (x : Float) (a c : ℕ) → 0 < c → a < 2 ^ 32 * c → HasValue x false a c → T (lt x (fin false 1 (pos 64)))
unfolding lt
below_64 nan a c C b v = absurd v
below_64 (inf s) a c C b v = absurd v
below_64 (fin true m e) a c C b v = absurd (true≢false v.0)
below_64 (fin false m e) a c C b v = lt→ltb (m * up e * 1) (2 ^ 64 * down e) (wide (m * up e) (down e) (times (m * up e) (down e) a c (2 ^ 32) C (down_pos e) v.1 b))
  where
    wide : (n d : ℕ) → n < 2 ^ 32 * d → n * 1 < 2 ^ 64 * d
    wide n d h = omega arith

pub neg_val : (x : Float) (a c : ℕ) → HasValue x true a c → HasValue (neg x) false a c
unfolding neg
neg_val nan a c v = v
neg_val (inf s) a c v = v
neg_val (fin true m e) a c v = (refl, v.1)
neg_val (fin false m e) a c v = absurd (true≢false (sym v.0))

-- ---- the branches
-- what the code needs of the value y that it cuts: the call is allowed, what it gives fits 32 bits, and with the sign put back it is the word of d
abbrev pub Cuts : Bool → Float → Float → Type 0
Cuts s d y = T (lt (fin true 1 (pos 0)) y) × T (lt y (fin false 1 (pos 64))) × (to_unsigned 64 y < Q) × (word d ≡ signed s (to_unsigned 64 y))

within : (r c : ℕ) → r < c → r * Q < 2 ^ 32 * c
unfolding Q
within r c h = omega arith

cuts : (s : Bool) (m : ℕ) (e : ℤ) (y : Float) → HasValue y false (m * up e % down e * Q) (down e) → Cuts s (fin s m e) y
unfolding word Q
cuts s m e y v =
    let c = down e in
    let a = m * up e % c * Q in
    let b : a < 2 ^ 32 * c = within (m * up e % c) c (mod-lt (m * up e) (down_pos e)) in
    let q : to_unsigned 64 y ≡ a / c = cut y a c (down_pos e) b v in (
      above_minus_one y a c v,
      below_64 y a c (down_pos e) b v,
      subst (λ (x : ℕ). x < Q) (sym q) ((div-lt_iff_lt-mul (down_pos e)).1 b),
      ap (signed s) (sym q),
    )

-- a value below 0 is negative
sign_of : (x : Float) (s : Bool) (a c : ℕ) → HasValue x s a c → T (lt x zero_f) → s ≡ true
unfolding lt
sign_of nan s a c v t = absurd v
sign_of (inf u) s a c v t = absurd v
sign_of (fin true m e) s a c v t = sym v.0
sign_of (fin false m e) s a c v t = absurd (none (m * up e) (down e) (ltb→lt (m * up e * 1) (0 * down e) t))
  where
    none : (n d : ℕ) → n * 1 < 0 * d → ⊥
    none n d h = omega arith

pub negative : (d p : Float) → IsScaledFraction d p → lt p zero_f ≡ true → Cuts true d (neg p)
unfolding lt
negative nan p v t = absurd (true≢false (sym (subst (λ (x : Float). lt x zero_f ≡ true) v t)))
negative (inf s) p v t = absurd (true≢false (sym (subst (λ (x : Float). lt x zero_f ≡ true) v t)))
negative (fin true m e) p v t = cuts true m e (neg p) (neg_val p (m * up e % down e * Q) (down e) v)
negative (fin false m e) p v t = absurd (true≢false (sym (sign_of p false (m * up e % down e * Q) (down e) v (subst T (sym t) tt))))

-- a negative value that is not below 0 is -0
is_zero : (a d : ℕ) → 0 < d → a * d ≡ 0 → a ≡ 0
is_zero a d D e = elim (eq-zero-or-pos a) [ inl z ↦ z | inr p ↦ absurd (lt_irrefl 0 (subst (λ (x : ℕ). 0 < x) e (mul-pos p D))) ]

minus_zero : (m : ℕ) (e : ℤ) (y : Float) → HasValue y true (m * up e % down e * Q) (down e) → T (not (lt y zero_f)) → Cuts false (fin true m e) y
unfolding lt to_unsigned word
minus_zero m e nan v t = absurd v
minus_zero m e (inf s) v t = absurd v
minus_zero m e (fin false k g) v t = absurd (true≢false (sym v.0))
minus_zero m e (fin true k g) v t =
    let a = m * up e % down e * Q in
    let z : k * up g ≡ 0 = none (k * up g) (down g) (nltb→le 0 (k * up g * 1 + 0 * down g) t) in
    let w : a ≡ 0 = is_zero a (down g) (down_pos g) (sym v.1 ∙ ap (λ (x : ℕ). x * down e) z ∙ zero-mul (down e)) in (
      lt→ltb (k * up g * 1) (1 * down g) (small (k * up g) (down g) z (down_pos g)),
      lt→ltb 0 (k * up g * 1 + 2 ^ 64 * down g) (big (k * up g) (down g) (down_pos g)),
      Q_pos,
      ap (λ (x : ℕ). signed true (x / down e)) w ∙ ap (signed true) (div-eq_of_lt (down_pos e)) ∙ signed-zero true ∙ sym (signed-zero false),
    )
  where
    none : (n d : ℕ) → n * 1 + 0 * d ≤ 0 → n ≡ 0
    none n d h = omega arith

    small : (n d : ℕ) → n ≡ 0 → 0 < d → n * 1 < 1 * d
    small n d z h = omega arith

    big : (n d : ℕ) → 0 < d → 0 < n * 1 + 2 ^ 64 * d
    big n d h = omega arith

pub nonnegative : (d p : Float) → IsScaledFraction d p → is_nan p ≡ false → lt p zero_f ≡ false → Cuts false d p
unfolding is_nan
nonnegative nan p v n t = absurd (true≢false (subst (λ (x : Float). is_nan x ≡ false) v n))
nonnegative (inf s) p v n t = absurd (true≢false (subst (λ (x : Float). is_nan x ≡ false) v n))
nonnegative (fin true m e) p v n t = minus_zero m e p v (subst (λ (b : Bool). T (not b)) (sym t) tt)
nonnegative (fin false m e) p v n t = cuts false m e p v

pub undefined : (d p : Float) → IsScaledFraction d p → is_nan p ≡ true → 0 ≡ word d
unfolding word is_nan
undefined nan p v n = refl
undefined (inf s) p v n = refl
undefined (fin s m e) nan v n = absurd v
undefined (fin s m e) (inf t) v n = absurd v
undefined (fin s m e) (fin t k g) v n = absurd (true≢false (sym n))

-- what the cut then gives
module _ (s : Bool) (d y : Float) (w : Cuts s d y) {n : ℕ} (e : n ≡ to_unsigned 64 y) where
  pub below_q : n < Q
  below_q = subst (λ (x : ℕ). x < Q) (sym e) w.2

  pub is_word : word d ≡ signed s n
  is_word = w.3 ∙ ap (signed s) (sym e)
