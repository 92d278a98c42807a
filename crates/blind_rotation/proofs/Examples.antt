-- A rotation of two steps at N 2, worked out, and beside it 01's fourth fake, which does all in step one and idles later: alike at the end, not in between.
-- Every side computes.
-- Assumes nothing.
use mathlib.Core.Path.{◌≡◌, refl}
use mathlib.Core.Bool.{cond}
use mathlib.Core.List.{List, [], ◌∷◌}
use Prim.Native.Nat.{ℕ}
use lib.Dec.{eqb}
use Rattle.ring.specs.Word.{Q, neg, comp, field_of}
use Rattle.ring.specs.Sums.{sum_to, tab}
use Rattle.ring.specs.Poly.{plus, minus, before, times, total}
use Rattle.ring.specs.Turn.{source, rotated}
use Rattle.params.specs.declared.Params.{Params}
use Rattle.params.specs.Published.{numbers}
use Rattle.key.specs.Offset.{offset}
use Rattle.rotation.specs.Amount.{half, step, mask_amount}
use Rattle.decomposition.specs.Digit.{digit_of, digit_poly}
use Rattle.decomposition.specs.Pair.{pair_digit}
use Rattle.trgsw.specs.External.{row_a, row_b, external, cmux_of}
use Rattle.blind_rotation.specs.Blind.{turned, blind_step, steps_to}
use Rattle.blind_rotation.proofs.Steps.{pair}
use Rattle.ring.specs.Pair.{Pair}
use Rattle.ring.specs.Lists.{part}
use Rattle.key.specs.Bits.{bit_rows}

-- n 2, N 2, BGBIT 8, L 1
abbrev two : Params
two = numbers 2 1 8 1 1 1

-- the bootstrapping key of two bits 1, with no mask and no noise: g_0 = 2^24 in a[0] of each first row and in b[0] of each second
abbrev key : List ℕ
key = 0x1000000 ∷ 0 ∷ 0 ∷ 0 ∷ 0 ∷ 0 ∷ 0x1000000 ∷ 0 ∷ 0x1000000 ∷ 0 ∷ 0 ∷ 0 ∷ 0 ∷ 0 ∷ 0x1000000 ∷ 0 ∷ []

-- both masks are a quarter of a turn, which is one step at N 2
abbrev masks : List ℕ
masks = 0x40000000 ∷ 0x40000000 ∷ []

-- the gates' vector
abbrev start : Pair
start = pair (0 ∷ 0 ∷ []) (0x20000000 ∷ 0x20000000 ∷ [])

-- the fake's step i: all of them where i is 0, none later
abbrev fake : ℕ → Pair → Pair
fake i x = cond (eqb i 0) (steps_to two key masks x 2) x

pub in_between : (steps_to two key masks start 1 ≡ pair (0xFF000000 ∷ 0 ∷ []) (0xDF000000 ∷ 0x20000000 ∷ []))
    × (fake 0 start ≡ pair (0xFF000000 ∷ 0xFF000000 ∷ []) (0xDF000000 ∷ 0xDF000000 ∷ []))
    × (steps_to two key masks start 2 ≡ pair (0xFF000000 ∷ 0xFF000000 ∷ []) (0xDF000000 ∷ 0xDF000000 ∷ []))
    × (fake 1 (fake 0 start) ≡ steps_to two key masks start 2)
unfolding Q neg comp sum_to tab plus minus before times total source rotated offset half step mask_amount field_of digit_of digit_poly pair_digit part row_a row_b external cmux_of turned bit_rows blind_step steps_to
in_between = (refl, refl, refl, refl)
