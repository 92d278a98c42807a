-- The gadget decomposition of a word and of a polynomial (TFHE paper, Definition 3.6 and Algorithm 1; 01, trgsw).
use Rattle.std.specs.Prelude.{List, ℕ, ◌+◌, ◌-◌, ◌*◌, ◌/◌, ◌%◌, ◌^◌}
use Rattle.ring.specs.Word.{Q, at, neg, field_of}
use Rattle.ring.specs.Sums.{tab}
use Rattle.params.specs.declared.Params.{Params}
use Rattle.params.specs.Sizes.{size}
use Rattle.key.specs.Offset.{offset}

-- Digit i of the word x (01, trgsw): field i of x with the offset added, which wraps, less 2^(BGBIT-1); a word, so a negative digit -d is Q - d.
unfoldable pub digit_of : Params → ℕ → ℕ → ℕ
digit_of p x i = (field_of ((x + offset p) % Q) p.bgbit i + neg (2 ^ (p.bgbit - 1))) % Q

-- The digit polynomial i of a: digit i of each coefficient.
unfoldable pub digit_poly : Params → ℕ → List ℕ → List ℕ
digit_poly p i a = tab (size p) (λ x. digit_of p (at a x) i)

-- g_i, what digit i counts: 2^(32-(i+1)·BGBIT) (01, key).
unfoldable pub digit_weight : Params → ℕ → ℕ
digit_weight p i = 2 ^ (32 - (i + 1) * p.bgbit)

-- The word x with its 32 - L·BGBIT low bits cleared: what its digits recompose to (01, trgsw). L·BGBIT = 32 clears none.
unfoldable pub cleared : Params → ℕ → ℕ
cleared p x = x / 2 ^ (32 - p.l * p.bgbit) * 2 ^ (32 - p.l * p.bgbit)

-- Each coefficient of a with its low bits cleared.
unfoldable pub cleared_poly : Params → List ℕ → List ℕ
cleared_poly p a = tab (size p) (λ x. cleared p (at a x))
