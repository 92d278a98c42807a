-- The fraction as a difference, the product with 2^32 and the quotient by 2^32 are exact: each result is the rational number that the operation stands for, and nothing is rounded.
-- Assumes nothing.
use Rattle.std.proofs.Common.{◌≡◌, ℕ, zero, suc, ◌+◌, ◌-◌, ◌*◌, ◌/◌, ◌%◌, ◌^◌, ◌<◌, ◌≤◌, Bool, true, false, ◌&&◌, T, eqb, ltb, leb, ℤ, pos, negsuc, sym, refl, ap, ◌∙◌, subst, le_trans, le_of_eq, lt_of_lt_of_le, le_of_suc-le-suc, lt_of_le_of_lt, le_of_lt, lt_irrefl, mul-le-mul_right, mod-lt, zero-lt-suc, le_refl, not, cond, mul_assoc, mul_comm, lt_of_mul-lt-mul_right, mul-lt-mul_of_pos_right, mul-pos, one-mul, lt_of_not-le, zero-mul, mul-one, mul_right_comm, mul_left_comm, arith, eqb→eq, ltb→lt, leb→le, pow_pos, pow_mono, pow-add}
use native.Mathlib.Nat.{mod-le, mod-one, eq_of_mul-eq-mul_right, not-le_of_lt, div-one, div-le_self, mod-add-div', add-mul, div-lt_iff_lt-mul}
use lib.Pow.{pow-lt}
use lib.Ieee.{Float, nan, inf, fin, Format, prec, emax, low, up, down, unlike, round, rem, sum, add, sub, neg, mul, div, fits}
use lib.Ieee.Digits.{back}
use lib.Ieee.Fits.{and_l, and_r, up_pos, down_pos}
use lib.Ieee.Exact.{HasValue, round_exact}
use Rattle.std.specs.Float.{fract, round_with, float_with_sign}

-- ---- what `fits` says of a finite value: its digits are few, and its exponent is not too low
pub fits_digits : (f : Format) (s : Bool) (m : ℕ) (e : ℤ) → T (fits f (fin s m e)) → m < 2 ^ prec f
unfolding fits
fits_digits f s zero e h = pow_pos (prec f)
fits_digits f s (suc m) e h =
    let A = eqb (suc m % 2) 1 in
    let B = ltb (suc m) (2 ^ prec f) in
    let C = leb (down e) (2 ^ low f) in
    let D = ltb (suc m * up e) (2 ^ suc (emax f) * down e) in
    ltb→lt (suc m) (2 ^ prec f) (and_r A B (and_l (A && B) C (and_l (A && B && C) D h)))

down_le : (e : ℤ) → down e ≤ up e * down e
down_le e = le_trans (le_of_eq (sym (one-mul (down e)))) (mul-le-mul_right (down e) (up_pos e))

pub fits-down : (f : Format) (s : Bool) (m : ℕ) (e : ℤ) → T (fits f (fin s m e)) → down e ≤ 2 ^ low f
unfolding fits
fits-down f s zero e h = le_trans (down_le e) (le_trans (le_of_eq (eqb→eq (up e * down e) 1 h)) (pow_pos (low f)))
fits-down f s (suc m) e h =
    let A = eqb (suc m % 2) 1 in
    let B = ltb (suc m) (2 ^ prec f) in
    let C = leb (down e) (2 ^ low f) in
    let D = ltb (suc m * up e) (2 ^ suc (emax f) * down e) in
    leb→le (down e) (2 ^ low f) (and_r (A && B) C (and_l (A && B && C) D h))

-- ---- m * 2 ^ e is m * 2 ^ j smallest values, for a j
pow_le_back : (a l : ℕ) → 2 ^ a ≤ 2 ^ l → a ≤ l
pow_le_back a l h = le_of_suc-le-suc (lt_of_not-le (λ (g : suc l ≤ a). lt_irrefl (2 ^ l) (lt_of_lt_of_le (pow-lt g) h)))

place : (l : ℕ) (e : ℤ) → down e ≤ 2 ^ l → (j : ℕ) × ((m : ℕ) → m * up e * 2 ^ l ≡ m * 2 ^ j * down e)
place l (pos a) h = (a + l, λ m. mul_assoc m (2 ^ a) (2 ^ l) ∙ ap (λ (x : ℕ). m * x) (sym (pow-add 2 a l)) ∙ sym (mul-one (m * 2 ^ (a + l))))
place l (negsuc a) h =
    let le : suc a ≤ l = pow_le_back (suc a) l h in (
      l - suc a,
      λ m.
          ap (λ (x : ℕ). x * 2 ^ l) (mul-one m)
          ∙ ap (λ (x : ℕ). m * x) (ap (λ (x : ℕ). 2 ^ x) (sym (back l (suc a) le)) ∙ pow-add 2 (l - suc a) (suc a))
          ∙ sym (mul_assoc m (2 ^ (l - suc a)) (2 ^ suc a)),
    )

-- ---- from one fraction to another of the same size
pub rescale : (x : Float) (s : Bool) (w l num den : ℕ) → 0 < l → num * l ≡ w * den → HasValue x s w l → HasValue x s num den
rescale nan s w l num den p h v = v
rescale (inf t) s w l num den p h v = v
rescale (fin t m e) s w l num den p h v = (
  v.0,
  eq_of_mul-eq-mul_right l p (m * up e * den) (num * down e)
      (mul_right_comm (m * up e) den l
      ∙ ap (λ (x : ℕ). x * den) v.1
      ∙ mul_right_comm w (down e) den
      ∙ ap (λ (x : ℕ). x * down e) (sym h)
      ∙ mul_right_comm num l (down e)),
)

-- ---- a fraction below 2 ^ t of few digits is not rounded
below_pow : (f : Format) (a c q j t : ℕ) → 0 < c → t ≤ suc (emax f) → a < 2 ^ t * c → a * 2 ^ low f ≡ q * 2 ^ j * c → q * 2 ^ j < 2 ^ (low f + suc (emax f))
below_pow f a c q j t C h b e =
    let l = low f in
    let w : q * 2 ^ j * c < 2 ^ (l + t) * c =
    subst (λ (x : ℕ). x < 2 ^ (l + t) * c) e
    (subst (λ (x : ℕ). a * 2 ^ l < x) (mul_right_comm (2 ^ t) c (2 ^ l) ∙ ap (λ (x : ℕ). x * c) (mul_comm (2 ^ t) (2 ^ l) ∙ sym (pow-add 2 l t))) (mul-lt-mul_of_pos_right b (pow_pos l))) in
    lt_of_lt_of_le (lt_of_mul-lt-mul_right c w) (pow_mono (more l t (suc (emax f)) h))
  where
    more : (l a b : ℕ) → a ≤ b → l + a ≤ l + b
    more l a b h = omega arith

pub exact : (f : Format) (s : Bool) (a c q j t : ℕ) → 0 < c → t ≤ suc (emax f) → a < 2 ^ t * c → q < 2 ^ prec f → a * 2 ^ low f ≡ q * 2 ^ j * c → HasValue (round f s a c) s a c
exact f s a c q j t C h b k e = round_exact f s a c q j C k (below_pow f a c q j t C h b e) e

-- ---- the whole part and what it leaves: of a / c they are a / c cut to a whole number, and (a % c) / c
fits_top : (f : Format) (s : Bool) (m : ℕ) (e : ℤ) → T (fits f (fin s m e)) → m * up e < 2 ^ suc (emax f) * down e
unfolding fits
fits_top f s zero e h = subst (λ (x : ℕ). x < 2 ^ suc (emax f) * down e) (sym (zero-mul (up e))) (mul-pos (pow_pos (suc (emax f))) (down_pos e))
fits_top f s (suc m) e h =
    let A = eqb (suc m % 2) 1 in
    let B = ltb (suc m) (2 ^ prec f) in
    let C = leb (down e) (2 ^ low f) in
    let D = ltb (suc m * up e) (2 ^ suc (emax f) * down e) in
    ltb→lt (suc m * up e) (2 ^ suc (emax f) * down e) (and_r (A && B && C) D h)

whole : (f : Format) (s : Bool) (m : ℕ) (e : ℤ) → T (fits f (fin s m e)) → HasValue (round f s (m * up e / down e) 1) s (m * up e / down e) 1
whole f s m (pos k) h =
    subst (λ (x : ℕ). HasValue (round f s x 1) s x 1) (sym (div-one (m * 2 ^ k)))
    (exact f s (m * 2 ^ k) 1 m (k + low f) (suc (emax f)) (zero-lt-suc 0) (le_refl (suc (emax f))) (fits_top f s m (pos k) h) (fits_digits f s m (pos k) h)
    (mul_assoc m (2 ^ k) (2 ^ low f) ∙ ap (λ (x : ℕ). m * x) (sym (pow-add 2 k (low f))) ∙ sym (mul-one (m * 2 ^ (k + low f)))))
whole f s m (negsuc k) h =
    let c = 2 ^ suc k in
    let q = m * 1 / c in
    exact f s q 1 q (low f) (suc (emax f)) (zero-lt-suc 0) (le_refl (suc (emax f)))
    (lt_of_lt_of_le ((div-lt_iff_lt-mul (pow_pos (suc k))).1 (fits_top f s m (negsuc k) h)) (le_of_eq (sym (mul-one (2 ^ suc (emax f))))))
    (lt_of_le_of_lt (le_trans (div-le_self (m * 1) c) (le_of_eq (mul-one m))) (fits_digits f s m (negsuc k) h))
    (sym (mul-one (q * 2 ^ low f)))

left : (f : Format) (s : Bool) (m : ℕ) (e : ℤ) (g : ℕ) → 0 < g → T (fits f (fin s m e)) → HasValue (round f s (m * up e % down e * g) (down e * g)) s (m * up e % down e * g) (down e * g)
left f s m (pos k) g G h =
    subst (λ (x : ℕ). HasValue (round f s (x * g) (1 * g)) s (x * g) (1 * g)) (sym (mod-one (m * 2 ^ k)))
    (exact f s (0 * g) (1 * g) 0 0 0 (mul-pos (zero-lt-suc 0) G) (le_of_lt (zero-lt-suc (emax f))) (some g G) (pow_pos (prec f))
    (none g (2 ^ low f)))
  where
    none : (g l : ℕ) → 0 * g * l ≡ 0 * 1 * (1 * g)
    none g l = omega arith

    some : (g : ℕ) → 0 < g → 0 * g < 1 * (1 * g)
    some g h = omega arith
left f s m (negsuc k) g G h =
    let c = 2 ^ suc k in
    let a = m * 1 % c in
    let p = place (low f) (negsuc k) (fits-down f s m (negsuc k) h) in
    exact f s (a * g) (c * g) a p.0 0 (mul-pos (pow_pos (suc k)) G) (le_of_lt (zero-lt-suc (emax f)))
    (lt_of_lt_of_le (mul-lt-mul_of_pos_right (mod-lt (m * 1) (pow_pos (suc k))) G) (le_of_eq (sym (one-mul (c * g)))))
    (lt_of_le_of_lt (le_trans (mod-le (m * 1) c) (le_of_eq (mul-one m))) (fits_digits f s m (negsuc k) h))
    (mul_right_comm a g (2 ^ low f)
    ∙ ap (λ (x : ℕ). x * g) (ap (λ (x : ℕ). x * 2 ^ low f) (sym (mul-one a)) ∙ p.1 a)
    ∙ mul_assoc (a * 2 ^ p.0) c g)

-- ---- the difference of the two is what is left. Where that is 0 its sign need not be the value's, and so the sign is put back
abbrev HasSize : Float → ℕ → ℕ → Type 0
HasSize x a c = (s : Bool) × HasValue x s a c

at_false : (b : Bool) → (T b → ⊥) → b ≡ false
at_false true h = absurd (h tt)
at_false false h = refl

minus_is : (f : Format) (s : Bool) (a b c : ℕ) → b ≤ a → sum f s a (not s) b c ≡ round f (s && ltb b a) (a - b) c
unfolding sum
minus_is f true a b c h = ap (λ (x : Bool). cond x (round f false (b - a) c) (round f (ltb b a) (a - b) c)) (at_false (ltb a b) (λ t. not-le_of_lt (ltb→lt a b t) h))
minus_is f false a b c h = ap (λ (x : Bool). cond x (round f true (b - a) c) (round f false (a - b) c)) (at_false (ltb a b) (λ t. not-le_of_lt (ltb→lt a b t) h))

-- a format holds a value with either sign
fits_any : (f : Format) (s t : Bool) (m : ℕ) (e : ℤ) → T (fits f (fin s m e)) → T (fits f (fin t m e))
unfolding fits
fits_any f s t zero e h = h
fits_any f s t (suc m) e h = h

difference : (f : Format) (s : Bool) (m : ℕ) (e : ℤ) (k : ℕ) (g : ℤ) → T (fits f (fin s m e)) → k * up g * 1 ≡ m * up e / down e * down g
    → HasSize (sum f s (m * up e * down g) (not s) (k * up g * down e) (down e * down g)) (m * up e % down e) (down e)
difference f s m e k g F h =
    let n = m * up e in
    let c = down e in
    let G = down g in
    let b : k * up g * c ≡ n / c * c * G = ap (λ (x : ℕ). x * c) (sym (mul-one (k * up g)) ∙ h) ∙ mul_right_comm (n / c) G c in
    let a : n * G ≡ n % c * G + n / c * c * G = parts n c G in
    let t = s && ltb (k * up g * c) (n * G) in (
      t,
      subst (λ (x : Float). HasValue x t (n % c) c) (sym (minus_is f s (n * G) (k * up g * c) (c * G) (under_it (n * G) (k * up g * c) (n % c * G) (n / c * c * G) a b)))
          (subst (λ (x : ℕ). HasValue (round f t x (c * G)) t (n % c) c) (sym (rest (n * G) (k * up g * c) (n % c * G) (n / c * c * G) a b))
          (rescale (round f t (n % c * G) (c * G)) t (n % c * G) (c * G) (n % c) c (mul-pos (down_pos e) (down_pos g)) (same (n % c) c G)
          (left f t m e G (down_pos g) (fits_any f s t m e F)))),
    )
  where
    parts : (n c g : ℕ) → n * g ≡ n % c * g + n / c * c * g
    parts n c g = ap (λ (x : ℕ). x * g) (sym (mod-add-div' n c)) ∙ add-mul (n % c) (n / c * c) g

    under_it : (x y r z : ℕ) → x ≡ r + z → y ≡ z → y ≤ x
    under_it x y r z a b = omega arith

    rest : (x y r z : ℕ) → x ≡ r + z → y ≡ z → x - y ≡ r
    rest x y r z a b = omega arith

    same : (r c g : ℕ) → r * (c * g) ≡ r * g * c
    same r c g = omega arith

subtracted : (f : Format) (s : Bool) (m : ℕ) (e : ℤ) (x : Float) → T (fits f (fin s m e)) → HasValue x s (m * up e / down e) 1 → HasSize (sub f (fin s m e) x) (m * up e % down e) (down e)
unfolding sub add neg
subtracted f s m e nan F v = absurd v
subtracted f s m e (inf u) F v = absurd v
subtracted f s m e (fin u k g) F v =
    subst (λ (w : Bool). HasSize (sum f s (m * up e * down g) (not w) (k * up g * down e) (down e * down g)) (m * up e % down e) (down e)) (sym v.0) (difference f s m e k g F v.1)

fract_is : (f : Format) (s : Bool) (m : ℕ) (e : ℤ) → fract f (fin s m e) ≡ sub f (fin s m e) (round f s (m * up e / down e) 1)
unfolding round_with
fract_is f true m e = refl
fract_is f false m e = refl

with_sign : (s : Bool) (x : Float) (a c : ℕ) → HasSize x a c → HasValue (float_with_sign s x) s a c
unfolding float_with_sign
with_sign s nan a c v = v.1
with_sign s (inf u) a c v = v.1
with_sign s (fin u m e) a c v = (refl, v.1.1)

pub fract_signed : (f : Format) (s : Bool) (m : ℕ) (e : ℤ) → T (fits f (fin s m e)) → HasValue (float_with_sign s (fract f (fin s m e))) s (m * up e % down e) (down e)
fract_signed f s m e F =
    with_sign s (fract f (fin s m e)) (m * up e % down e) (down e)
    (subst (λ (x : Float). HasSize x (m * up e % down e) (down e)) (sym (fract_is f s m e)) (subtracted f s m e (round f s (m * up e / down e) 1) F (whole f s m e F)))

-- ---- the remainder by 1 is the same fraction: the operator's form of it, kept for where it can be had
abbrev pub one : Float
one = fin false 1 (pos 0)

fraction : (f : Format) (s : Bool) (m : ℕ) (e : ℤ) → T (fits f (fin s m e)) → HasValue (round f s (m * up e % down e) (down e)) s (m * up e % down e) (down e)
fraction f s m (pos k) h = subst (λ (x : ℕ). HasValue (round f s x 1) s x 1) (sym (mod-one (m * 2 ^ k))) (exact f s 0 1 0 0 0 (zero-lt-suc 0) (le_of_lt (zero-lt-suc (emax f))) (zero-lt-suc 0) (pow_pos (prec f)) (zero-mul (2 ^ low f)))
fraction f s m (negsuc k) h =
    let c = 2 ^ suc k in
    let a = m * 1 % c in
    let p = place (low f) (negsuc k) (fits-down f s m (negsuc k) h) in
    exact f s a c a p.0 0 (pow_pos (suc k)) (le_of_lt (zero-lt-suc (emax f)))
    (lt_of_lt_of_le (mod-lt (m * 1) (pow_pos (suc k))) (le_of_eq (sym (one-mul c))))
    (lt_of_le_of_lt (le_trans (mod-le (m * 1) c) (le_of_eq (mul-one m))) (fits_digits f s m (negsuc k) h))
    (ap (λ (x : ℕ). x * 2 ^ low f) (sym (mul-one a)) ∙ p.1 a)

pub rem-one : (f : Format) (s : Bool) (m : ℕ) (e : ℤ) → T (fits f (fin s m e)) → HasValue (rem f (fin s m e) one) s (m * up e % down e) (down e)
unfolding rem
rem-one f s m e h = simp (mul-one, one-mul) (fraction f s m e h)

-- ---- the product with 2 ^ t, of a value below 1
sign_kept : (s : Bool) → unlike s false ≡ s
sign_kept true = refl
sign_kept false = refl

-- a value below a / c = 1 has its own numerator below its own denominator
under : (n d a c : ℕ) → 0 < c → n * c ≡ a * d → 0 < d → a < c → n < d
under n d a c C e D h = lt_of_mul-lt-mul_right c (subst (λ (x : ℕ). x < d * c) (sym e) (lt_of_lt_of_le (mul-lt-mul_of_pos_right h D) (le_of_eq (mul_comm c d))))

scaled : (f : Format) (s : Bool) (m : ℕ) (e : ℤ) (t : ℕ) → T (fits f (fin s m e)) → t ≤ suc (emax f) → m * up e < down e → HasValue (round f s (m * up e * 2 ^ t) (down e)) s (m * up e * 2 ^ t) (down e)
scaled f s m e t F h b =
    let p = place (low f) e (fits-down f s m e F) in
    exact f s (m * up e * 2 ^ t) (down e) m (p.0 + t) t (down_pos e) h
    (lt_of_lt_of_le (mul-lt-mul_of_pos_right b (pow_pos t)) (le_of_eq (mul_comm (down e) (2 ^ t))))
    (fits_digits f s m e F)
    (mul_right_comm (m * up e) (2 ^ t) (2 ^ low f)
    ∙ ap (λ (x : ℕ). x * 2 ^ t) (p.1 m)
    ∙ mul_right_comm (m * 2 ^ p.0) (down e) (2 ^ t)
    ∙ ap (λ (x : ℕ). x * down e) (mul_assoc m (2 ^ p.0) (2 ^ t) ∙ ap (λ (x : ℕ). m * x) (sym (pow-add 2 p.0 t))))

mul_is : (f : Format) (s : Bool) (m : ℕ) (e : ℤ) (t : ℕ) → mul f (fin s m e) (fin false 1 (pos t)) ≡ round f s (m * up e * 2 ^ t) (down e)
unfolding mul
mul_is f s m e t = simp (mul-one, one-mul, sign_kept)

pub mul-pow : (f : Format) (x : Float) (s : Bool) (a c t : ℕ) → T (fits f x) → t ≤ suc (emax f) → 0 < c → a < c → HasValue x s a c → HasValue (mul f x (fin false 1 (pos t))) s (a * 2 ^ t) c
mul-pow f nan s a c t F h C b v = absurd v
mul-pow f (inf u) s a c t F h C b v = absurd v
mul-pow f (fin u m e) s a c t F h C b v =
    rescale (mul f (fin u m e) (fin false 1 (pos t))) s (m * up e * 2 ^ t) (down e) (a * 2 ^ t) c (down_pos e)
    (mul_right_comm a (2 ^ t) (down e) ∙ ap (λ (x : ℕ). x * 2 ^ t) (sym v.1) ∙ mul_right_comm (m * up e) c (2 ^ t))
    (subst (λ (x : Float). HasValue x s (m * up e * 2 ^ t) (down e)) (sym (mul_is f u m e t))
    (subst (λ (y : Bool). HasValue (round f u (m * up e * 2 ^ t) (down e)) y (m * up e * 2 ^ t) (down e)) v.0
    (scaled f u m e t F h (under (m * up e) (down e) a c C v.1 (down_pos e) b))))

-- ---- the quotient of a whole number of few digits by 2 ^ t
div_is : (f : Format) (s : Bool) (m : ℕ) (e : ℤ) (t : ℕ) → div f (fin s m e) (fin false 1 (pos t)) ≡ round f s (m * up e) (2 ^ t * down e)
unfolding div
div_is f s m e t = simp (mul-one, one-mul, sign_kept)

pub div-pow : (f : Format) (x : Float) (s : Bool) (a t : ℕ) → t ≤ low f → a < 2 ^ prec f → a < 2 ^ t → HasValue x s a 1 → HasValue (div f x (fin false 1 (pos t))) s a (2 ^ t)
div-pow f nan s a t h k b v = absurd v
div-pow f (inf u) s a t h k b v = absurd v
div-pow f (fin u m e) s a t h k b v =
    let n = m * up e in
    let d = down e in
    let c = 2 ^ t * d in
    let l = low f in
    let is : n ≡ a * d = sym (mul-one n) ∙ v.1 in
    let C : 0 < c = mul-pos (pow_pos t) (down_pos e) in
    let w : n * 2 ^ l ≡ a * 2 ^ (l - t) * c =
    ap (λ (x : ℕ). x * 2 ^ l) is
    ∙ ap (λ (x : ℕ). a * d * x) (ap (λ (x : ℕ). 2 ^ x) (sym (back l t h)) ∙ pow-add 2 (l - t) t)
    ∙ simp (mul_assoc, mul_comm, mul_left_comm) in
    rescale (div f (fin u m e) (fin false 1 (pos t))) s n c a (2 ^ t) C
    (sym (ap (λ (x : ℕ). x * 2 ^ t) is ∙ mul_assoc a d (2 ^ t) ∙ ap (λ (x : ℕ). a * x) (mul_comm d (2 ^ t))))
    (subst (λ (x : Float). HasValue x s n c) (sym (div_is f u m e t))
    (subst (λ (y : Bool). HasValue (round f u n c) y n c) v.0
    (exact f u n c a (l - t) 0 C (le_of_lt (zero-lt-suc (emax f))) (below n d (down_pos e) is) k w)))
  where
    below : (n d : ℕ) → 0 < d → n ≡ a * d → n < 1 * (2 ^ t * d)
    below n d D i = lt_of_lt_of_le (lt_of_le_of_lt (le_of_eq i) (mul-lt-mul_of_pos_right b D)) (le_of_eq (sym (one-mul (2 ^ t * d))))
