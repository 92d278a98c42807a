-- The external product and the controlled choice (TFHE paper, Definition 3.12 and 3.4; 01, trgsw).
use Rattle.std.specs.Prelude.{List, ℕ, ◌+◌, ◌*◌}
use Rattle.ring.specs.Poly.{times, total}
use Rattle.params.specs.declared.Params.{Params}
use Rattle.params.specs.Sizes.{size}
use Rattle.decomposition.specs.Pair.{pair_digit}
use Rattle.ring.specs.Pair.{Pair, pair_plus, pair_minus}
use Rattle.ring.specs.Lists.{part}

-- The a of row r of one bit's 2L rows of 2N words, each a then b (01, key).
unfoldable pub row_a : Params → List ℕ → ℕ → List ℕ
row_a p rows r = part (size p) (r * (size p + size p)) rows

-- Its b.
unfoldable pub row_b : Params → List ℕ → ℕ → List ℕ
row_b p rows r = part (size p) (r * (size p + size p) + size p) rows

-- The external product of one bit's rows with x: the sum over the rows of the digit polynomial times the row (01, trgsw).
unfoldable pub external : Params → List ℕ → Pair → Pair
external p rows x = record { a = total (size p) (p.l + p.l) (λ r. times (size p) (pair_digit p x r) (row_a p rows r)); b = total (size p) (p.l + p.l) (λ r. times (size p) (pair_digit p x r) (row_b p rows r)) }

-- `cmux`: in1 + product(in2 - in1) (01, trgsw), the product first, as the Rust adds them: x where the rows encrypt 0, y where they encrypt 1.
unfoldable pub cmux_of : Params → List ℕ → Pair → Pair → Pair
cmux_of p rows x y = pair_plus (size p) (external p rows (pair_minus (size p) y x)) x
