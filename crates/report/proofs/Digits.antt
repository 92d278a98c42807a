-- Decimal digits: how one digit comes after the others, and how many there are. Inductions on the number of divisions.
-- Assumes nothing.
use mathlib.Core.Path.{◌≡◌, refl, ap, ◌∙◌}
use mathlib.Core.List.{List, [], ◌∷◌, ◌++◌}
use mathlib.Core.Logic.{⊎_elim}
use Prim.Native.Nat.{ℕ, zero, suc, ◌+◌, ◌/◌, ◌%◌, ◌^◌, ◌≤◌, ◌<◌}
use native.Mathlib.Omega.{arith}
use native.Mathlib.Nat.{pow-succ'}
use lib.ListN.{length, length-append}
use borrow.Author.Tests.{lt-ltb, le-ltb}
use Rattle.circuit.proofs.Accept.{lt_or_ge}
use Rattle.report.specs.Decimal.{decimal_to, decimal}

-- enough divisions give the same digits
same : (k j n : ℕ) → n ≤ k → n ≤ j → decimal_to k n ≡ decimal_to j n
unfolding decimal_to
same zero zero n hk hj = refl
same zero (suc j) n hk hj = rw (lt-ltb n 10 (omega arith))
same (suc k) zero n hk hj = rw (lt-ltb n 10 (omega arith))
same (suc k) (suc j) n hk hj =
    ⊎_elim
    (λ (h : n < 10). rw (lt-ltb n 10 h))
    (λ (h : 10 ≤ n). rw (le-ltb n 10 h) (ap (λ (l : List ℕ). l ++ ((48 + n % 10) ∷ [])) (same k j (n / 10) (omega arith) (omega arith))))
    (lt_or_ge n 10)

pub decimal_one : (n : ℕ) → n < 10 → decimal n ≡ (48 + n) ∷ []
unfolding decimal decimal_to
decimal_one zero h = refl
decimal_one (suc n) h = rw (lt-ltb (suc n) 10 h)

pub decimal_more : (n : ℕ) → 10 ≤ n → decimal n ≡ decimal (n / 10) ++ ((48 + n % 10) ∷ [])
unfolding decimal decimal_to
decimal_more zero h = absurd (let q : ⊥ = omega arith in q)
decimal_more (suc n) h = rw (le-ltb (suc n) 10 h) (ap (λ (l : List ℕ). l ++ ((48 + suc n % 10) ∷ [])) (same n (suc n / 10) (suc n / 10) (omega arith) (omega arith)))

pub length_more : (n : ℕ) → 10 ≤ n → length (decimal n) ≡ length (decimal (n / 10)) + 1
length_more n h = ap length (decimal_more n h) ∙ length-append (decimal (n / 10)) ((48 + n % 10) ∷ [])

pub length-one : (n : ℕ) → n < 10 → length (decimal n) ≡ 1
length-one n h = ap length (decimal_one n h)

-- a number below 10^(k+1) has at most k + 1 digits
length_to : (k n : ℕ) → n < 10 ^ suc k → length (decimal n) ≤ suc k
length_to zero n h = let e = length-one n h in omega arith
length_to (suc k) n h =
    ⊎_elim
    (λ (l : n < 10). let e = length-one n l in omega arith)
    (λ (l : 10 ≤ n).
    let p = pow-succ' 10 (suc k) in
    let i = length_to k (n / 10) (omega arith) in
    let e = length_more n l in
    omega arith)
    (lt_or_ge n 10)

-- ten digits are enough for every number that is printed
pub length_ten : (n : ℕ) → n < 10000000000 → length (decimal n) ≤ 10
length_ten n h = length_to 9 n h

-- and twenty for every count
pub length_twenty : (n : ℕ) → n < 18446744073709551616 → length (decimal n) ≤ 20
length_twenty n h = length_to 19 n (omega arith)

pub length_from : (n : ℕ) → 1 ≤ length (decimal n)
length_from n =
    ⊎_elim
    (λ (l : n < 10). let e = length-one n l in omega arith)
    (λ (l : 10 ≤ n). let e = length_more n l in omega arith)
    (lt_or_ge n 10)
