-- The digit polynomials of a pair: each has N words, those of a come first and then those of b.
-- Assumes nothing.
use mathlib.Core.Path.{◌≡◌}
use mathlib.Core.Bool.{Bool, true, false, cond}
use mathlib.Core.List.{List}
use Prim.Native.Nat.{ℕ, ◌-◌, ◌≤◌, ◌<◌}
use borrow.Author.Tests.{lt-ltb, le-ltb}
use lib.Dec.{ltb}
use lib.ListN.{length}
use Rattle.ring.specs.Pair.{Pair}
use Rattle.ring.proofs.Tab.{length-tab}
use Rattle.params.specs.declared.Params.{Params}
use Rattle.params.specs.Sizes.{size}
use Rattle.decomposition.specs.Digit.{digit_poly}
use Rattle.decomposition.specs.Pair.{pair_digit}

module _ (p : Params) (x : Pair) where
  length_digit : (i : ℕ) (a : List ℕ) → length (digit_poly p i a) ≡ size p
  unfolding digit_poly
  length_digit i a = length-tab (size p) _

  pub length_pair : (r : ℕ) → length (pair_digit p x r) ≡ size p
  unfolding pair_digit
  length_pair r = go (ltb r p.l)
    where
      go : (t : Bool) → length (cond t (digit_poly p r x.a) (digit_poly p (r - p.l) x.b)) ≡ size p
      go true = length_digit r x.a
      go false = length_digit (r - p.l) x.b

  -- the digit polynomial of a row below L, and of one from L on
  pub pair_low : (r : ℕ) → r < p.l → digit_poly p r x.a ≡ pair_digit p x r
  unfolding pair_digit
  pair_low r h = rw (lt-ltb r p.l h)

  pub pair_high : (r : ℕ) → p.l ≤ r → digit_poly p (r - p.l) x.b ≡ pair_digit p x r
  unfolding pair_digit
  pair_high r h = rw (le-ltb r p.l h)
