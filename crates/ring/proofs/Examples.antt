-- The definitions at worked examples: what negation is beside the complement, a product worked out by hand, the ends of the centred numbers. Each side computes.
-- Document 01's own cases are in egl_c.
-- Assumes nothing.
use Rattle.std.proofs.Common.{◌≡◌, [], ◌∷◌, pos, negsuc, refl}
use Rattle.ring.specs.Word.{Q, neg}
use Rattle.ring.specs.Sums.{sum_to, tab}
use Rattle.ring.specs.Poly.{before, times}
use Rattle.ring.specs.Turn.{source, negating, complemented}
use Rattle.ring.specs.Centre.{H, centre}

-- where the Rust complements, the paper negates: one more
pub negation : (negating 4 1 (1 ∷ 2 ∷ 3 ∷ 4 ∷ []) ≡ (0xFFFFFFFC ∷ 1 ∷ 2 ∷ 3 ∷ [])) × (complemented 4 1 ≡ (1 ∷ 0 ∷ 0 ∷ 0 ∷ []))
unfolding Q neg tab source negating complemented
negation = (refl, refl)

-- (1 + X) (1 + X^3) is X + X^3 modulo X^4 + 1
pub product : times 4 (1 ∷ 1 ∷ []) (1 ∷ 0 ∷ 0 ∷ 1 ∷ []) ≡ (0 ∷ 1 ∷ 0 ∷ 1 ∷ [])
unfolding Q neg tab before times sum_to
product = refl

-- the ends of the centred numbers
pub centred : (centre 0x7FFFFFFF ≡ pos 0x7FFFFFFF) × (centre 0x80000000 ≡ negsuc 0x7FFFFFFF) × (centre 0xFFFFFFFF ≡ negsuc 0)
unfolding Q H centre
centred = (refl, refl, refl)
