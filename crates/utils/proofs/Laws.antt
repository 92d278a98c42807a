-- Laws of the word of a double, for callers: it is below Q, it goes by the number alone, however that is written as a fraction, and the double of a word has that word;
-- and of the slice form.
-- Assumes nothing.
use Rattle.std.proofs.Common.{◌≡◌, ℕ, zero, suc, ◌+◌, ◌*◌, ◌/◌, ◌%◌, ◌<◌, Bool, true, false, eqb, List, length, sym, refl, ap, ◌∙◌, mod-lt, mod-eq_of_lt, mul_assoc, mul_comm, add-mul, mul-lt-mul_of_pos_right, div-add-mod', mul_right_comm, mul-div_cancel, lit<, eq-eqb, eqb-true}
use lib.Arith.{digits_mod}
use lib.Ieee.{Float, nan, inf, fin, up, down}
use lib.Ieee.Fits.{down_pos}
use lib.Ieee.Exact.{HasValue}
use lib.Ieee.Nearest.{div_same}
use Rattle.ring.specs.Word.{Q, Q_pos, at, neg}
use Rattle.ring.specs.Centre.{word_of}
use Rattle.ring.proofs.Centre.{number_below}
use Rattle.ring.proofs.Tab.{at-tab, length-tab}
use Rattle.params.proofs.Answers.{passed}
use Rattle.utils.specs.Torus.{word, with_sign, fraction_word, double_at, words_of_doubles, vec_number}

-- the word of a whole number by its sign and size
abbrev pub signed : Bool → ℕ → ℕ
signed s n = word_of (with_sign s n)

-- 0 has no sign
pub signed-zero : (s : Bool) → signed s 0 ≡ 0
unfolding Q
signed-zero false = refl
signed-zero true = refl

-- as the code works it out: the size cut, and the word negated
pub signed_negative : (n : ℕ) → signed true n ≡ neg n % Q
unfolding Q neg
signed_negative zero = refl
signed_negative (suc n) = refl

-- every word is below Q
pub signed_below : (s : Bool) (n : ℕ) → signed s n < Q
signed_below s n = number_below (with_sign s n)

pub word_below : (d : Float) → word d < Q
unfolding word
word_below nan = Q_pos
word_below (inf s) = Q_pos
word_below (fin s m e) = signed_below s (m * up e % down e * Q / down e)

-- the word goes by the number
scale_mod : (n d c : ℕ) → 0 < d → 0 < c → n * c % (d * c) ≡ n % d * c
scale_mod n d c D C =
    ap (λ (x : ℕ). x * c % (d * c)) (sym (div-add-mod' n d))
    ∙ ap (λ (x : ℕ). x % (d * c)) (add-mul (n / d * d) (n % d) c ∙ ap (λ (x : ℕ). x + n % d * c) (mul_assoc (n / d) d c))
    ∙ digits_mod (n / d) (mul-lt-mul_of_pos_right (mod-lt n D) C)

same_cut : (n d a c k : ℕ) → 0 < d → 0 < c → n * c ≡ a * d → n % d * k / d ≡ a % c * k / c
same_cut n d a c k D C e =
    div_same (n % d * k) d (a % c * k) c D C
    (mul_right_comm (n % d) k c
    ∙ ap (λ (x : ℕ). x * k) (sym (scale_mod n d c D C) ∙ ap (λ (x : ℕ). x % (d * c)) e ∙ ap (λ (x : ℕ). a * d % x) (mul_comm d c) ∙ scale_mod a c d C D)
    ∙ mul_right_comm (a % c) d k)

pub word_of_value : (x : Float) (s : Bool) (a c : ℕ) → 0 < c → HasValue x s a c → word x ≡ fraction_word s a c
unfolding word
word_of_value nan s a c C v = absurd v
word_of_value (inf t) s a c C v = absurd v
word_of_value (fin t m e) s a c C v =
    ap (λ (y : Bool). fraction_word y (m * up e) (down e)) v.0 ∙ ap (signed s) (same_cut (m * up e) (down e) a c Q (down_pos e) C v.1)

-- the round trip: a double that is t / 2^32, as `torus_to_f64` gives it, has the word t
pub round_trip : (x : Float) (t : ℕ) → t < Q → HasValue x false t Q → word x ≡ t
round_trip x t h v =
    word_of_value x false t Q Q_pos v
    ∙ ap (λ (n : ℕ). n * Q / Q % Q) (mod-eq_of_lt h)
    ∙ ap (λ (n : ℕ). n % Q) (mul-div_cancel t Q_pos)
    ∙ mod-eq_of_lt h

-- ---- the slice form
-- the word at a place is that of the double there
pub at_words : (d : List Float) (i : ℕ) → i < length d → at (words_of_doubles d) i ≡ word (double_at d i)
at_words d i h = at-tab (length d) (λ j. word (double_at d j)) i h

pub length_words : (d : List Float) → length (words_of_doubles d) ≡ length d
length_words d = length-tab (length d) (λ j. word (double_at d j))

-- a call that was not refused was lent slices of one length, and the other way round
pub vec_good : (doubles places : ℕ) → vec_number doubles places ≡ 0 → doubles ≡ places
vec_good doubles places e = eqb-true doubles places (passed (eqb doubles places) 2 0 (lit< tt) e).0

pub vec_done : (doubles places : ℕ) → doubles ≡ places → vec_number doubles places ≡ 0
vec_done doubles places e = rw (eq-eqb doubles places e)
