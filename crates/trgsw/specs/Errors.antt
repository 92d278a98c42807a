-- What the external product adds to a phase beside what it should: the rows' errors, and the low bits that the decomposition clears (01, Drift).
use Rattle.std.specs.Prelude.{cond, List, [], ◌∷◌, ℕ, ◌+◌, ◌-◌, ◌*◌, ◌%◌, ◌^◌, ltb}
use Rattle.ring.specs.Word.{at}
use Rattle.ring.specs.Sums.{tab}
use Rattle.ring.specs.Poly.{plus, minus, times, scale, total}
use Rattle.ring.specs.Phase.{phase}
use Rattle.params.specs.declared.Params.{Params}
use Rattle.params.specs.Sizes.{size}
use Rattle.decomposition.specs.Digit.{digit_weight}
use Rattle.decomposition.specs.Pair.{pair_digit}
use Rattle.trgsw.specs.External.{row_a, row_b}
use Rattle.ring.specs.Pair.{Pair}

-- The error of row r under the key z, the rows being for the key bit m: its phase less what it should carry, -m·g_i·z for row i below L and m·g_i
-- for row L + i (01, Drift). It is reckoned in words; centring a word is the ring's `centre`.
unfoldable pub bootstrapping_row_error : Params → List ℕ → List ℕ → ℕ → ℕ → List ℕ
bootstrapping_row_error p z rows m r =
    cond (ltb r p.l)
    (plus (size p) (phase (size p) z (row_a p rows r) (row_b p rows r)) (scale (size p) (m * digit_weight p r) z))
    (minus (size p) (phase (size p) z (row_a p rows r) (row_b p rows r)) (scale (size p) (m * digit_weight p (r - p.l)) (1 ∷ [])))

-- The digits of x times the rows' errors.
unfoldable pub digit_errors : Params → List ℕ → List ℕ → ℕ → Pair → List ℕ
digit_errors p z rows m x = total (size p) (p.l + p.l) (λ r. times (size p) (pair_digit p x r) (bootstrapping_row_error p z rows m r))

-- The low bits of each coefficient, 32 - L·BGBIT of them: what the decomposition clears.
unfoldable pub low_poly : Params → List ℕ → List ℕ
low_poly p a = tab (size p) (λ i. at a i % 2 ^ (32 - p.l * p.bgbit))
