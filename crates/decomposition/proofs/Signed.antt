-- A digit's range, read as a signed number: the two cases of its range as a word.
-- Assumes nothing.
use mathlib.Core.Logic.{◌⊎◌, ⊎_elim}
use Prim.Native.Nat.{ℕ, suc, ◌-◌, ◌^◌, ◌≤◌, ◌<◌}
use native.Mathlib.Nat.{mod-lt}
use native.Mathlib.Omega.{arith}
use borrow.Author.Tests.{lt-ltb, le-ltb}
use lib.Dec.{lt→ltb, le→leb}
use lib.IntN.{pos, negsuc}
use lib.Signed.{◌≤ℤ◌, ◌<ℤ◌, le_z_yes, lt_z_yes}
use lib.Pow.{pow_mono, pow_pos}
use Rattle.ring.specs.Word.{Q, Q_pos}
use Rattle.ring.specs.Centre.{H, centre}
use Rattle.params.specs.declared.Params.{Params}
use Rattle.params.specs.Ranges.{InRange}
use Rattle.decomposition.specs.Digit.{digit_of}
use Rattle.decomposition.proofs.Digits.{range}

-- a word d at most h from 0, either way
near : (d h : ℕ) → d < Q → 1 ≤ h → h ≤ 2 ^ 30 → (d < h) ⊎ (Q - h ≤ d) → (negsuc (h - 1) ≤ℤ centre d) × (centre d <ℤ pos h)
unfolding Q H centre
near d h hd h1 h30 =
    ⊎_elim
    (λ l. rw (lt-ltb d H (omega arith)) (le_z_yes tt, lt_z_yes (lt→ltb d h l)))
    (λ l. rw (le-ltb d H (omega arith)) (le_z_yes (le→leb (Q - suc d) (h - 1) (omega arith)), lt_z_yes tt))

-- digits lie from -2^(BGBIT-1) to 2^(BGBIT-1) - 1 (01, trgsw)
pub signed_range : (p : Params) → InRange p → (x : ℕ) → x < Q → (i : ℕ)
    → (negsuc (2 ^ (p.bgbit - 1) - 1) ≤ℤ centre (digit_of p x i)) × (centre (digit_of p x i) <ℤ pos (2 ^ (p.bgbit - 1)))
unfolding digit_of
signed_range p r x hx i =
    near (digit_of p x i) (2 ^ (p.bgbit - 1)) (mod-lt _ Q_pos) (pow_pos (p.bgbit - 1)) (pow_mono {i = p.bgbit - 1} {j = 30} (omega (arith, r))) (range p r x hx i)
