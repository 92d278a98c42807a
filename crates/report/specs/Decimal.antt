-- Numbers as text.
use Rattle.std.specs.Prelude.{List, [], ◌∷◌, ◌++◌, ℕ, zero, suc, ◌+◌, ◌/◌, ◌%◌, ltb, cond}

-- The decimal digits of n in ASCII, the highest first, by so many divisions by ten at most.
unfoldable pub decimal_to : ℕ → ℕ → List ℕ
decimal_to zero n = (48 + n) ∷ []
decimal_to (suc k) n = cond (ltb n 10) ((48 + n) ∷ []) (decimal_to k (n / 10) ++ ((48 + n % 10) ∷ []))

-- The decimal digits of n: n divisions are enough.
unfoldable pub decimal : ℕ → List ℕ
decimal n = decimal_to n n
