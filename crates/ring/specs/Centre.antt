-- Whole numbers and words: a whole number brought modulo 2^32, and a word read as the centred number, from -2^31 to 2^31 - 1 (01, Drift).
use Rattle.std.specs.Prelude.{ℕ, suc, ◌-◌, ◌%◌, ◌^◌, cond, ℤ, pos, negsuc, nat_lt}
use Rattle.ring.specs.Word.{Q, neg}

-- 2^31, half of the words.
unfoldable pub H : ℕ
H = 2 ^ 31

-- The centred number of a word; also the word read as signed.
unfoldable pub centre : ℕ → ℤ
centre x = cond (nat_lt x H) (pos x) (negsuc (Q - suc x))

-- A whole number as a word: modulo 2^32.
abbrev pub word_of : ℤ → ℕ
word_of (pos n) = n % Q
word_of (negsuc n) = neg (suc n) % Q
