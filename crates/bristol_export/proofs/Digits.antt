-- A number of at most four digits: each digit is shown unless it would lead with a zero. By cases on how many there are.
-- Assumes nothing.
use mathlib.Core.Path.{◌≡◌, sym, ap, ap₂, ◌∙◌}
use mathlib.Core.Bool.{Bool, true, false}
use mathlib.Core.List.{List, [], ◌∷◌, ◌++◌}
use mathlib.Core.Logic.{⊎_elim}
use Prim.Native.Nat.{ℕ, ◌+◌, ◌/◌, ◌%◌, ◌≤◌, ◌<◌}
use native.Mathlib.Omega.{arith}
use borrow.Author.Tests.{lt-ltb, le-ltb}
use lib.Dec.{ltb}
use lib.ListN.{length, length-append}
use Rattle.circuit.proofs.Accept.{lt_or_ge}
use Rattle.report.specs.Decimal.{decimal}
use Rattle.report.proofs.Digits.{decimal_one, decimal_more}
use Rattle.bristol_export.specs.Private.{digit_if}

-- the digits of hundreds, tens and so on, as they are written
unfoldable pub digits : ℕ → List ℕ
digits n = digit_if (ltb 999 n) (n / 1000) ++ digit_if (ltb 99 n) (n / 100 % 10) ++ digit_if (ltb 9 n) (n / 10 % 10) ++ digit_if true (n % 10)

one : (n : ℕ) → n < 10 → digits n ≡ decimal n
unfolding digits
one n h =
    let e : n % 10 ≡ n = omega arith in
    rw (le-ltb 999 n (omega arith), le-ltb 99 n (omega arith), le-ltb 9 n (omega arith)) (ap (λ (d : ℕ). (48 + d) ∷ []) e ∙ sym (decimal_one n h))

two : (n : ℕ) → 10 ≤ n → n < 100 → digits n ≡ decimal n
unfolding digits
two n l h =
    let e : n / 10 % 10 ≡ n / 10 = omega arith in
    rw (le-ltb 999 n (omega arith), le-ltb 99 n (omega arith), lt-ltb 9 n (omega arith)) (ap (λ (d : ℕ). (48 + d) ∷ (48 + n % 10) ∷ []) e ∙ sym (decimal_more n l ∙ ap (λ (t : List ℕ). t ++ ((48 + n % 10) ∷ [])) (decimal_one (n / 10) (omega arith))))

-- the front digits of n are those of n / 10
three : (n : ℕ) → 100 ≤ n → n < 1000 → digits n ≡ decimal n
unfolding digits
three n l h =
    let m = n / 10 in
    let e : n / 100 % 10 ≡ m / 10 = omega arith in
    rw (le-ltb 999 n (omega arith), lt-ltb 99 n (omega arith), lt-ltb 9 n (omega arith))
    (
    ap (λ (d : ℕ). (48 + d) ∷ (48 + m % 10) ∷ (48 + n % 10) ∷ []) e
    ∙ sym
    (decimal_more n (omega arith)
    ∙ ap (λ (t : List ℕ). t ++ ((48 + n % 10) ∷ [])) (decimal_more m (omega arith) ∙ ap (λ (t : List ℕ). t ++ ((48 + m % 10) ∷ [])) (decimal_one (m / 10) (omega arith))))
    )

four : (n : ℕ) → 1000 ≤ n → n < 10000 → digits n ≡ decimal n
unfolding digits
four n l h =
    let m = n / 10 in
    let k = m / 10 in
    let e : n / 100 % 10 ≡ k % 10 = omega arith in
    let f : n / 1000 ≡ k / 10 = omega arith in
    rw (lt-ltb 999 n (omega arith), lt-ltb 99 n (omega arith), lt-ltb 9 n (omega arith))
    (
    ap₂ (λ (c d : ℕ). (48 + c) ∷ (48 + d) ∷ (48 + m % 10) ∷ (48 + n % 10) ∷ []) f e
    ∙ sym
    (decimal_more n (omega arith)
    ∙ ap (λ (t : List ℕ). t ++ ((48 + n % 10) ∷ []))
    (decimal_more m (omega arith)
    ∙ ap (λ (t : List ℕ). t ++ ((48 + m % 10) ∷ [])) (decimal_more k (omega arith) ∙ ap (λ (t : List ℕ). t ++ ((48 + k % 10) ∷ [])) (decimal_one (k / 10) (omega arith)))))
    )

pub digits_decimal : (n : ℕ) → n < 10000 → digits n ≡ decimal n
digits_decimal n h =
    ⊎_elim (λ (a : n < 10). one n a)
    (λ (a : 10 ≤ n).
    ⊎_elim (λ (b : n < 100). two n a b)
    (λ (b : 100 ≤ n). ⊎_elim (λ (c : n < 1000). three n b c) (λ (c : 1000 ≤ n). four n c h) (lt_or_ge n 1000)) (lt_or_ge n 100))
    (lt_or_ge n 10)

-- ---- a digit where it is shown

pub digit_none : (shown : Bool) (d : ℕ) → shown ≡ false → digit_if shown d ≡ []
digit_none shown d e = rw e

pub digit_one : (shown : Bool) (d : ℕ) → shown ≡ true → digit_if shown d ≡ (48 + d) ∷ []
digit_one shown d e = rw e

-- ---- how many digits

length_digit : (shown : Bool) (d : ℕ) → length (digit_if shown d) ≤ 1
length_digit true d = omega arith
length_digit false d = omega arith

module _ (n : ℕ) where
  length_digits : n < 10000 → length (decimal n) ≡ length (digit_if (ltb 999 n) (n / 1000)) + length (digit_if (ltb 99 n) (n / 100 % 10)) + length (digit_if (ltb 9 n) (n / 10 % 10)) + 1
  unfolding digits
  length_digits h =
      let a = digit_if (ltb 999 n) (n / 1000) in
      let b = digit_if (ltb 99 n) (n / 100 % 10) in
      let c = digit_if (ltb 9 n) (n / 10 % 10) in
      let d = digit_if true (n % 10) in
      let e = ap length (digits_decimal n h) in
      let l = length-append a b in
      let m = length-append (a ++ b) c in
      let k = length-append (a ++ b ++ c) d in
      omega arith

  -- four digits are enough for every number of a text
  pub length_four : n < 10000 → length (decimal n) ≤ 4
  length_four h =
      let e = length_digits h in
      let x = length_digit (ltb 999 n) (n / 1000) in
      let y = length_digit (ltb 99 n) (n / 100 % 10) in
      let z = length_digit (ltb 9 n) (n / 10 % 10) in
      omega arith

  pub length_three : n < 1000 → length (decimal n) ≤ 3
  length_three h =
      let e = length_digits (omega arith) in
      let x = ap length (digit_none (ltb 999 n) (n / 1000) (le-ltb 999 n (omega arith))) in
      let y = length_digit (ltb 99 n) (n / 100 % 10) in
      let z = length_digit (ltb 9 n) (n / 10 % 10) in
      omega arith

  pub length_two : n < 100 → length (decimal n) ≤ 2
  length_two h =
      let e = length_digits (omega arith) in
      let x = ap length (digit_none (ltb 999 n) (n / 1000) (le-ltb 999 n (omega arith))) in
      let y = ap length (digit_none (ltb 99 n) (n / 100 % 10) (le-ltb 99 n (omega arith))) in
      let z = length_digit (ltb 9 n) (n / 10 % 10) in
      omega arith
