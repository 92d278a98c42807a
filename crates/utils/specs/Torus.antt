-- The word of a double (01, params and utils), over exact rational numbers; Q is 2^32.
-- A finite double `fin s m e` is the number (-1)^s · m · 2^e. `lib.Ieee` writes 2^e as the fraction up e / down e, so the double's size is the fraction a / c
-- with a = m · up e and c = down e. `HasValue x s a c` says that the double x is finite and is exactly (-1)^s · a / c: nothing was rounded on the way to it.
use Rattle.std.specs.Prelude.{ℕ, ◌*◌, ◌/◌, ◌%◌, Bool, true, false, List, length, ℤ, pos, neg_ℤ, ◌==◌, slice_index_or, Float}
use Rattle.std.specs.Float.{nan, inf, fin}
use Rattle.std.specs.Float.Ieee.{up, down}
use Rattle.ring.specs.Word.{Q}
use Rattle.ring.specs.Centre.{word_of}
use Rattle.ring.specs.Sums.{tab}
use Rattle.params.specs.Refusal.{check}

-- The whole number n, or -n where the sign is true.
abbrev pub with_sign : Bool → ℕ → ℤ
with_sign false n = pos n
with_sign true n = neg_ℤ (pos n)

-- The word of the number (-1)^s · a / c: 2^32 times its fraction, cut toward zero, modulo 2^32. The fraction of a / c is (a % c) / c, and has the number's sign.
abbrev pub fraction_word : Bool → ℕ → ℕ → ℕ
fraction_word s a c = word_of (with_sign s (a % c * Q / c))

-- The word of a double (01, params and utils). A NaN and the infinities have 0.
unfoldable pub word : Float → ℕ
word nan = 0
word (inf s) = 0
word (fin s m e) = fraction_word s (m * up e) (down e)

-- Double i of a list; past its end a NaN, whose word is 0.
abbrev pub double_at : List Float → ℕ → Float
double_at d i = slice_index_or d i nan

-- The words of a list of doubles, each in its double's place.
abbrev pub words_of_doubles : List Float → List ℕ
words_of_doubles d = tab (length d) (λ i. word (double_at d i))

-- Refusal 2 where the slice of doubles and the slice for the words differ in length, else 0 (01, 'Refusal numbers').
abbrev pub vec_number : ℕ → ℕ → ℕ
vec_number doubles places = check (doubles == places) 2 0
