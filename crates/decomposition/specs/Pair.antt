-- A pair of polynomials, and its decomposition into 2L digit polynomials (TFHE paper, 3.3; 01, trgsw).
use Rattle.std.specs.Prelude.{List, [], ◌∷◌, cond, ℕ, ◌+◌, ◌-◌, ◌*◌, ltb, length}
use Rattle.ring.specs.Lists.{joined}
use Rattle.ring.specs.Pair.{Pair}
use Rattle.params.specs.declared.Params.{Params}
use Rattle.params.specs.Refusal.{if_done}
use Rattle.params.specs.Sizes.{size}
use Rattle.refusals.specs.Table.{Check, is, below, refusal_by}
use Rattle.decomposition.specs.Digit.{digit_poly}

-- The digit polynomial that row r of a key is multiplied with: those of a come first, then those of b.
unfoldable pub pair_digit : Params → Pair → ℕ → List ℕ
pair_digit p x r = cond (ltb r p.l) (digit_poly p r x.a) (digit_poly p (r - p.l) x.b)

-- All 2L digit polynomials, one after another.
unfoldable pub decomposed : Params → Pair → List ℕ
decomposed p x = joined (p.l + p.l) (pair_digit p x)

-- One digit polynomial, number r, of a pair whose a has la words and whose b has lb, into lo words: the slices, then the number.
abbrev pub polynomial_checks : Params → ℕ → ℕ → ℕ → ℕ → List Check
polynomial_checks p la lb r lo =
    is la (size p) 2
    ∷ is lb (size p) 2
    ∷ is lo (size p) 2
    ∷ below r (p.l + p.l) 3
    ∷ []

-- Its refusal: 1, 2, 3 or 0.
unfoldable pub polynomial_number : Params → ℕ → ℕ → ℕ → ℕ → ℕ
polynomial_number p la lb r lo = refusal_by p (polynomial_checks p la lb r lo)

-- What `digit_polynomial` leaves in out, which held o.
abbrev pub polynomial_out : Params → List ℕ → List ℕ → ℕ → List ℕ → List ℕ
polynomial_out p a b r o = if_done (polynomial_number p (length a) (length b) r (length o)) (pair_digit p (record { a = a; b = b }) r) o

-- The decomposition of a pair, the result having 2L·N words.
abbrev pub decomposition_checks : Params → ℕ → ℕ → ℕ → List Check
decomposition_checks p la lb lo =
    is la (size p) 2
    ∷ is lb (size p) 2
    ∷ is lo ((p.l + p.l) * size p) 2
    ∷ []

-- Its refusal: 1, 2 or 0.
unfoldable pub decomposition_number : Params → ℕ → ℕ → ℕ → ℕ
decomposition_number p la lb lo = refusal_by p (decomposition_checks p la lb lo)

-- What `decomposition` leaves in out, which held o.
abbrev pub decomposition_out : Params → List ℕ → List ℕ → List ℕ → List ℕ
decomposition_out p a b o = if_done (decomposition_number p (length a) (length b) (length o)) (decomposed p (record { a = a; b = b })) o
