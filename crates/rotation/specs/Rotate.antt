-- The refusals of `poly_mul_with_x_k`; what it writes is the ring's `rotated`.
use Rattle.std.specs.Prelude.{List, [], ◌∷◌, ℕ, ◌+◌}
use Rattle.params.specs.declared.Params.{Params}
use Rattle.params.specs.Sizes.{size}
use Rattle.refusals.specs.Table.{Check, is, at_most, refusal_by}

-- The checks of a rotation: 2 unless a and out have N words, then 3 unless the amount k is at most 2N (01, 'Refusal numbers').
abbrev pub rotate_checks : Params → ℕ → ℕ → ℕ → List Check
rotate_checks p la lo k = is la (size p) 2 ∷ is lo (size p) 2 ∷ at_most k (size p + size p) 3 ∷ []

-- Its refusal: 1, 2, 3 or 0.
unfoldable pub rotate_number : Params → ℕ → ℕ → ℕ → ℕ
rotate_number p la lo k = refusal_by p (rotate_checks p la lo k)
