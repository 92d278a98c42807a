-- A drift's size is the length of its absolute value in binary digits: it lies between two powers of two (`bits_bound`), of no other number is that so (`bits_only`), and
-- inside is a size of at most 29 (`inside_is_size`). By the kit's laws of a number's length.
-- Assumes nothing.
use mathlib.Core.Path.{◌≡◌, refl, subst}
use mathlib.Core.Bool.{Bool, cond}
use Prim.Native.Nat.{ℕ, suc, ◌+◌, ◌*◌, ◌-◌, ◌^◌, ◌≤◌, ◌<◌}
use native.Mathlib.Omega.{arith}
use lib.Dec.{ltb, leb, ltb→lt, nltb→le, leb→le, nleb→lt}
use lib.IntN.{nat_abs, pos, negsuc}
use lib.Count.{count_leading_zeros, leading_length, leading_unique}
use lib.Pow.{pow_mono}
use borrow.Author.Tests.{lt-ltb, le-ltb}
use Rattle.ring.specs.Word.{Q}
use Rattle.ring.specs.Centre.{H, centre}
use Rattle.ring.proofs.Value.{by_test}
use Rattle.drift_size.specs.Size.{magnitude, inside_word}
use Rattle.drift_report.specs.Size.{bits_of}

pub magnitude_most : (d : ℕ) → magnitude d ≤ 2147483648
unfolding centre H Q
magnitude_most d = by_test (ltb d 2147483648) (λ (c : Bool). nat_abs (cond c (pos d) (negsuc (4294967296 - suc d))) ≤ 2147483648)
    (λ t. let u = ltb→lt d 2147483648 t in omega arith) (λ t. let u = nltb→le d 2147483648 t in omega arith)

-- The absolute value: a word up to 2^31 is its own, and one less than 2^32 by so much has that.
pub magnitude_plain : (d : ℕ) → d < 2147483648 → magnitude d ≡ d
unfolding centre H
magnitude_plain d l = by_test (ltb d 2147483648) (λ (c : Bool). nat_abs (cond c (pos d) (negsuc (Q - suc d))) ≡ d) (λ t. refl) (λ t. absurd (let u = nltb→le d 2147483648 t in let q : ⊥ = omega arith in q))

pub magnitude_negated : (d : ℕ) → 0 < d → d ≤ 2147483648 → magnitude (Q - d) ≡ d
unfolding centre H Q
magnitude_negated d p l = by_test (ltb (4294967296 - d) 2147483648) (λ (c : Bool). nat_abs (cond c (pos (4294967296 - d)) (negsuc (4294967296 - suc (4294967296 - d)))) ≡ d)
    (λ t. absurd (let u = ltb→lt (4294967296 - d) 2147483648 t in let q : ⊥ = omega arith in q)) (λ t. omega arith)

pub magnitude_none : magnitude 0 ≡ 0
unfolding centre H
magnitude_none = refl

pub magnitude-zero : (d : ℕ) → d < Q → magnitude d ≡ 0 → d ≡ 0
unfolding centre H
magnitude-zero d l = by_test (ltb d 2147483648) (λ (c : Bool). nat_abs (cond c (pos d) (negsuc (Q - suc d))) ≡ 0 → d ≡ 0) (λ t e. e) (λ t e. absurd (let q : ⊥ = omega arith in q))

pub bits_most : (d : ℕ) → bits_of d < 33
unfolding bits_of
bits_most d = omega arith

-- The absolute value has that many digits: the highest is set.
pub bits_bound : (d : ℕ) → (magnitude d < 2 ^ bits_of d) × (2 ^ bits_of d ≤ 2 * magnitude d + 1)
unfolding bits_of
bits_bound d =
    let b = magnitude_most d in
    let h : magnitude d < 2 ^ 32 = omega arith in
    let l = leading_length 32 (magnitude d) h in
    let e : l.0 ≡ 32 - count_leading_zeros 32 (magnitude d) = let s = l.1 in omega arith in
    (subst (λ (m : ℕ). magnitude d < 2 ^ m) e l.2, subst (λ (m : ℕ). 2 ^ m ≤ 2 * magnitude d + 1) e l.3)

pub bits_only : (d m : ℕ) → m ≤ 32 → magnitude d < 2 ^ m → 2 ^ m ≤ 2 * magnitude d + 1 → bits_of d ≡ m
unfolding bits_of
bits_only d m k h f =
    let u = leading_unique 32 (magnitude d) (32 - m) m (omega arith) h f in
    omega arith

-- Inside, below 2^29 in absolute value, is a size of at most 29 bits.
pub inside_is_size : (d : ℕ) → inside_word d ≡ leb (bits_of d) 29
unfolding inside_word
inside_is_size d = by_test (leb (bits_of d) 29) (λ (c : Bool). ltb (magnitude d) (2 ^ 29) ≡ c)
    (λ t. lt-ltb (magnitude d) (2 ^ 29) (let u = leb→le (bits_of d) 29 t in let p = pow_mono {i = bits_of d} {j = 29} u in let b = (bits_bound d).0 in omega arith))
    (λ t. le-ltb (magnitude d) (2 ^ 29) (let u = nleb→lt (bits_of d) 29 t in let p = pow_mono {i = 30} {j = bits_of d} u in let b = (bits_bound d).1 in omega arith))
