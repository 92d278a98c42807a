-- Every way means what its kind means: all kinds and all bits are tested at once, and the test is read off at each.
-- Assumes nothing.
use mathlib.Core.Path.{◌≡◌}
use mathlib.Core.Bool.{Bool, true, false, xor}
use mathlib.Core.List.{[], ◌∷◌}
use Prim.Native.Nat.{ℕ, ◌≤◌}
use native.Mathlib.Omega.{arith}
use lib.Dec.{T}
use Rattle.kinds.specs.Kinds.{kinds, kind_of}
use Rattle.kinds.proofs.Table.{both, both_left, both_right, same, same_is, entry}
use Rattle.ways.specs.Ways.{ways, way_of}
use Rattle.ways.specs.Private.{way_meaning}

-- one kind, on these bits
at_bits : ℕ → Bool → Bool → Bool → Bool
at_bits k a b c = same (way_meaning (way_of k) a b c) ((kind_of k).meaning a b c)

-- one kind, on every c, then every b, then every a
on_c : ℕ → Bool → Bool → Bool
on_c k a b = both (at_bits k a b true) (at_bits k a b false)

on_b : ℕ → Bool → Bool
on_b k a = both (on_c k a true) (on_c k a false)

on_a : ℕ → Bool
on_a k = both (on_b k true) (on_b k false)

pick_c : (k : ℕ) (a b c : Bool) → T (on_c k a b) → T (at_bits k a b c)
unfolding on_c
pick_c k a b true t = both_left (at_bits k a b true) (at_bits k a b false) t
pick_c k a b false t = both_right (at_bits k a b true) (at_bits k a b false) t

pick_b : (k : ℕ) (a b : Bool) → T (on_b k a) → T (on_c k a b)
unfolding on_b
pick_b k a true t = both_left (on_c k a true) (on_c k a false) t
pick_b k a false t = both_right (on_c k a true) (on_c k a false) t

pick_a : (k : ℕ) (a : Bool) → T (on_a k) → T (on_b k a)
unfolding on_a
pick_a k true t = both_left (on_b k true) (on_b k false) t
pick_a k false t = both_right (on_b k true) (on_b k false) t

every_kind : (k : ℕ) → k ≤ 13 → T (on_a k)
unfolding on_a on_b on_c at_bits way_meaning way_of ways kind_of kinds xor
every_kind k h = entry (λ j x. on_a j) (0 ∷ 0 ∷ 0 ∷ 0 ∷ 0 ∷ 0 ∷ 0 ∷ 0 ∷ 0 ∷ 0 ∷ 0 ∷ 0 ∷ 0 ∷ 0 ∷ []) tt k (omega arith)

pub ways_mean : (k : ℕ) (a b c : Bool) → k ≤ 13 → way_meaning (way_of k) a b c ≡ (kind_of k).meaning a b c
unfolding at_bits
ways_mean k a b c h = same_is (way_meaning (way_of k) a b c) ((kind_of k).meaning a b c) (pick_c k a b c (pick_b k a b (pick_a k a (every_kind k h))))
