-- What a digit polynomial's slice holds afterwards, done and refused, computed over the definitions: a change of definition and code together would show here.
-- Document 01's own cases on digits are in egl_c.
-- Assumes nothing.
use mathlib.Core.Path.{◌≡◌, refl}
use mathlib.Core.List.{List, [], ◌∷◌}
use Prim.Native.Nat.{ℕ}
use Rattle.ring.specs.Word.{Q, neg, field_of}
use Rattle.ring.specs.Sums.{sum_to, tab}
use Rattle.params.specs.Ranges.{params_number}
use Rattle.params.specs.Published.{numbers}
use Rattle.key.specs.Offset.{offset}
use Rattle.decomposition.specs.Digit.{digit_of, digit_poly}
use Rattle.decomposition.specs.Pair.{pair_digit, polynomial_number, polynomial_out}

-- polynomial r of the 2L = 6 at N 2, BGBIT 6, L 3, of a pair whose digits 01 tells, into two words that held 9 and 9
abbrev left : ℕ → ℕ → List ℕ
left n r = polynomial_out (numbers n 1 6 3 1 1) (0x80000000 ∷ 0x7FFFFFFF ∷ []) (0 ∷ 0xFFFFFFFF ∷ []) r (9 ∷ 9 ∷ [])

-- the first digits of a, the last of b; then a polynomial that there is not, and parameters that are refused
pub polynomials : (left 1 0 ≡ 0xFFFFFFE0 ∷ 0xFFFFFFE0 ∷ [])
    × (left 1 5 ≡ 0 ∷ 0xFFFFFFFF ∷ [])
    × (left 1 6 ≡ 9 ∷ 9 ∷ [])
    × (left 0 0 ≡ 9 ∷ 9 ∷ [])
unfolding Q neg sum_to tab params_number offset field_of digit_of digit_poly pair_digit polynomial_number
polynomials = (refl, refl, refl, refl)
