-- Blind rotation (TFHE paper, Algorithm 3; 01, trgsw): the accumulator after each step, and the whole.
use Rattle.std.specs.Prelude.{List, ℕ, zero, suc}
use Rattle.ring.specs.Word.{at}
use Rattle.ring.specs.Turn.{rotated}
use Rattle.params.specs.declared.Params.{Params}
use Rattle.params.specs.Sizes.{size}
use Rattle.rotation.specs.Amount.{mask_amount, body_amount}
use Rattle.trgsw.specs.External.{cmux_of}
use Rattle.ring.specs.Pair.{Pair}
use Rattle.key.specs.Bits.{bit_rows}

-- A pair turned by k: both of its polynomials rotated, as the Rust rotates (01, trgsw: complemented, not negated).
unfoldable pub turned : Params → ℕ → Pair → Pair
turned p k x = record { a = rotated (size p) k x.a; b = rotated (size p) k x.b }

-- The accumulator after step i, which had x: x, or x turned by the mask's amount, as key bit i chooses.
unfoldable pub blind_step : Params → List ℕ → ℕ → ℕ → Pair → Pair
blind_step p key i mask x = cmux_of p (bit_rows p key i) x (turned p (mask_amount p mask) x)

-- The accumulator after the first k steps: step i turns by mask i of the ciphertext src.
unfoldable pub steps_to : Params → List ℕ → List ℕ → Pair → ℕ → Pair
steps_to p key src start zero = start
steps_to p key src start (suc k) = blind_step p key k (at src k) (steps_to p key src start k)

-- Where the steps start: the vector v turned by the amount of the ciphertext's last word, b.
unfoldable pub start_of : Params → Pair → ℕ → Pair
start_of p v b = turned p (body_amount p b) v

-- The rotation of v by the ciphertext src of n masks and b: all n steps.
unfoldable pub blind_rotated : Params → List ℕ → List ℕ → Pair → Pair
blind_rotated p key src v = steps_to p key src (start_of p v (at src p.n)) p.n
