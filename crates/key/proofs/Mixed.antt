-- A number made of three, d·(t·i + j) + k with j below t and k below d: division gives i, j and k back, every number is made so of its own three, and with i below n it is below n·t·d.
-- So rows are numbered, in today's layout with d = BASE - 1 and in the former one with d = BASE. Division with remainder.
-- Assumes nothing.
use mathlib.Core.Path.{◌≡◌, ap, ◌∙◌}
use Prim.Native.Nat.{ℕ, ◌+◌, ◌*◌, ◌/◌, ◌%◌, ◌≤◌, ◌<◌}
use native.Mathlib.Nat.{mul-le-mul_right, mod-eq_of_lt, div-add-mod, div-lt_iff_lt-mul, mul-add-div, mul-add-mod_self_left, div-eq_of_lt, add-zero}
use native.Mathlib.Omega.{arith}

module _ (d t i j k : ℕ) (hj : j < t) (hk : k < d) where
  first_two : (d * (t * i + j) + k) / d ≡ t * i + j
  first_two = let d_from : 0 < d = omega arith in mul-add-div d_from (t * i + j) k ∙ ap (λ (x : ℕ). t * i + j + x) (div-eq_of_lt hk) ∙ add-zero _

  pub first_of : (d * (t * i + j) + k) / d / t ≡ i
  first_of = let t_from : 0 < t = omega arith in ap (λ (x : ℕ). x / t) first_two ∙ mul-add-div t_from i j ∙ ap (λ (x : ℕ). i + x) (div-eq_of_lt hj) ∙ add-zero _

  pub second_of : (d * (t * i + j) + k) / d % t ≡ j
  second_of = ap (λ (x : ℕ). x % t) first_two ∙ mul-add-mod_self_left t i j ∙ mod-eq_of_lt hj

  pub third_of : (d * (t * i + j) + k) % d ≡ k
  third_of = mul-add-mod_self_left d (t * i + j) k ∙ mod-eq_of_lt hk

  pub made_below : (n : ℕ) → i < n → d * (t * i + j) + k < n * t * d
  made_below n h =
      let a : (t * i + j + 1) * d ≤ (i + 1) * t * d = mul-le-mul_right d (omega arith) in
      let b : (i + 1) * t * d ≤ n * t * d = mul-le-mul_right d (mul-le-mul_right t (omega arith)) in
      omega arith

-- the number that i and j make
pub pair_of : (d t r : ℕ) → t * (r / d / t) + r / d % t ≡ r / d
pair_of d t r = div-add-mod (r / d) t

pub made_of : (d t r : ℕ) → d * (t * (r / d / t) + r / d % t) + r % d ≡ r
made_of d t r = ap (λ (x : ℕ). d * x + r % d) (pair_of d t r) ∙ div-add-mod r d

pub first_below : (d t n r : ℕ) → 0 < d → 0 < t → r < n * t * d → r / d / t < n
first_below d t n r hd ht h = (div-lt_iff_lt-mul {k = t} {x = r / d} {y = n} ht).1 ((div-lt_iff_lt-mul {k = d} {x = r} {y = n * t} hd).1 h)
