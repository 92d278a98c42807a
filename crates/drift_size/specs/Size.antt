-- How large a drift is (01, Drift), of words that are read as signed.
use Rattle.std.specs.Prelude.{Bool, cond, ℕ, ltb, nat_abs}
use Rattle.ring.specs.Word.{eighth}
use Rattle.ring.specs.Centre.{centre}

-- The absolute value of a drift's word, read as signed.
abbrev pub magnitude : ℕ → ℕ
magnitude drift = nat_abs (centre drift)

-- Inside: the centred drift's absolute value is below 2^29.
unfoldable pub inside_word : ℕ → Bool
inside_word drift = ltb (magnitude drift) eighth

-- The one of two that is larger in absolute value, the first at a tie.
unfoldable pub worse_word : ℕ → ℕ → ℕ
worse_word x y = cond (ltb (magnitude x) (magnitude y)) y x
