-- Messages' words in steps: half a step is 2^31/(2M), exactly, and a message's word a whole number of steps; reckoned at each of the six moduli.
-- Assumes nothing.
use mathlib.Core.Path.{◌≡◌, refl}
use Prim.Native.Nat.{ℕ, ◌*◌, ◌/◌, ◌%◌, ◌^◌, ◌≤◌}
use native.Mathlib.Omega.{arith}
use lib.Dec.{lit≤}
use Rattle.ring.specs.Centre.{H}
use Rattle.tlwe.specs.Plain.{modulus_number, message_word}
use Rattle.tlwe.proofs.Messages.{by_modulus}

pub half_steps : (m : ℕ) → modulus_number m ≡ 0 → H / (2 * m) * m ≡ 2 ^ 30
unfolding H
half_steps = by_modulus (λ (m : ℕ). 2 ^ 31 / (2 * m) * m ≡ 2 ^ 30) refl refl refl refl refl refl

pub word_steps : (v m : ℕ) → modulus_number m ≡ 0 → message_word v m ≡ v % m * (2 * (H / (2 * m)))
unfolding H
word_steps v = by_modulus (λ (m : ℕ). v % m * 2 ^ 31 / m ≡ v % m * (2 * (2 ^ 31 / (2 * m)))) (omega arith) (omega arith) (omega arith) (omega arith) (omega arith) (omega arith)

-- no margin is more than an eighth of a turn
pub margin_most : (m : ℕ) → modulus_number m ≡ 0 → H / (2 * m) ≤ 2 ^ 29
unfolding H
margin_most = by_modulus (λ (m : ℕ). 2 ^ 31 / (2 * m) ≤ 2 ^ 29) (lit≤ tt) (lit≤ tt) (lit≤ tt) (lit≤ tt) (lit≤ tt) (lit≤ tt)
