-- The message moduli: what holds at each of the six holds at every modulus that is not refused, so that laws are reckoned at numerals.
-- Assumes nothing.
use mathlib.Core.Path.{◌≡◌, sym, subst}
use mathlib.Core.Logic.{◌⊎◌, inl, inr, ⊎_elim}
use Prim.Native.Nat.{ℕ, ◌*◌, ◌/◌, ◌%◌, ◌^◌, ◌≤◌, ◌<◌}
use native.Mathlib.Decide.{ℕ_discrete}
use native.Mathlib.Omega.{arith}
use borrow.Author.Tests.{ne_eqb}
use lib.Dec.{lit≤}
use Rattle.ring.specs.Centre.{H}
use Rattle.tlwe.specs.Plain.{is_modulus, modulus_number, message_word}

-- no other modulus is taken
pub modulus_refused : (m : ℕ) → ((m ≡ 2) ⊎ (m ≡ 4) ⊎ (m ≡ 8) ⊎ (m ≡ 16) ⊎ (m ≡ 32) ⊎ (m ≡ 64) → ⊥) → 5 ≡ modulus_number m
unfolding is_modulus
modulus_refused m h =
    rw (
      ne_eqb m 2 (λ e. h (inl e)),
      ne_eqb m 4 (λ e. h (inr (inl e))),
      ne_eqb m 8 (λ e. h (inr (inr (inl e)))),
      ne_eqb m 16 (λ e. h (inr (inr (inr (inl e))))),
      ne_eqb m 32 (λ e. h (inr (inr (inr (inr (inl e)))))),
      ne_eqb m 64 (λ e. h (inr (inr (inr (inr (inr e)))))),
    )

-- to show of a modulus what holds of the six
pub by_modulus : (P : ℕ → Type 0) → P 2 → P 4 → P 8 → P 16 → P 32 → P 64 → (m : ℕ) → modulus_number m ≡ 0 → P m
by_modulus P p2 p4 p8 p16 p32 p64 m t = go2 (ℕ_discrete m 2)
  where
    go64 : Dec (m ≡ 64) → (m ≡ 2 → ⊥) → (m ≡ 4 → ⊥) → (m ≡ 8 → ⊥) → (m ≡ 16 → ⊥) → (m ≡ 32 → ⊥) → P m
    go64 (yes e) a b c d f = subst P (sym e) p64
    go64 (no n) a b c d f =
        let z : 5 ≡ modulus_number m = modulus_refused m (⊎_elim a (⊎_elim b (⊎_elim c (⊎_elim d (⊎_elim f n))))) in
        absurd (let q : ⊥ = omega arith in q)

    go32 : Dec (m ≡ 32) → (m ≡ 2 → ⊥) → (m ≡ 4 → ⊥) → (m ≡ 8 → ⊥) → (m ≡ 16 → ⊥) → P m
    go32 (yes e) a b c d = subst P (sym e) p32
    go32 (no n) a b c d = go64 (ℕ_discrete m 64) a b c d n

    go16 : Dec (m ≡ 16) → (m ≡ 2 → ⊥) → (m ≡ 4 → ⊥) → (m ≡ 8 → ⊥) → P m
    go16 (yes e) a b c = subst P (sym e) p16
    go16 (no n) a b c = go32 (ℕ_discrete m 32) a b c n

    go8 : Dec (m ≡ 8) → (m ≡ 2 → ⊥) → (m ≡ 4 → ⊥) → P m
    go8 (yes e) a b = subst P (sym e) p8
    go8 (no n) a b = go16 (ℕ_discrete m 16) a b n

    go4 : Dec (m ≡ 4) → (m ≡ 2 → ⊥) → P m
    go4 (yes e) a = subst P (sym e) p4
    go4 (no n) a = go8 (ℕ_discrete m 8) a n

    go2 : Dec (m ≡ 2) → P m
    go2 (yes e) = subst P (sym e) p2
    go2 (no n) = go4 (ℕ_discrete m 4) n

-- a modulus that is taken is small
pub modulus_bounds : (m : ℕ) → modulus_number m ≡ 0 → (1 ≤ m) × (m ≤ 64)
modulus_bounds = by_modulus (λ (m : ℕ). (1 ≤ m) × (m ≤ 64))
    (lit≤ tt, lit≤ tt) (lit≤ tt, lit≤ tt) (lit≤ tt, lit≤ tt) (lit≤ tt, lit≤ tt) (lit≤ tt, lit≤ tt) (lit≤ tt, lit≤ tt)

-- a message's word is below half a turn
pub message_half : (v m : ℕ) → modulus_number m ≡ 0 → message_word v m < H
unfolding H
message_half v = by_modulus (λ (m : ℕ). v % m * 2 ^ 31 / m < 2 ^ 31) (omega arith) (omega arith) (omega arith) (omega arith) (omega arith) (omega arith)
