-- Pairs of polynomials: TRLWE ciphertexts, and the accumulator of a rotation (TFHE paper, 3.2; 01, trlwe).
use Rattle.std.specs.Prelude.{ℕ, List}
use Rattle.ring.specs.Poly.{plus, minus, scale}

-- A TRLWE ciphertext: two polynomials of N words (01, trlwe).
pub record Pair : Type 0 where
  pub a : List ℕ
  pub b : List ℕ

-- x + y, of pairs of N words.
abbrev pub pair_plus : ℕ → Pair → Pair → Pair
pair_plus N x y = record { a = plus N x.a y.a; b = plus N x.b y.b }

-- x - y, of pairs of N words.
abbrev pub pair_minus : ℕ → Pair → Pair → Pair
pair_minus N x y = record { a = minus N x.a y.a; b = minus N x.b y.b }

-- c · x, for a number c.
abbrev pub pair_scale : ℕ → ℕ → Pair → Pair
pair_scale N c x = record { a = scale N c x.a; b = scale N c x.b }
