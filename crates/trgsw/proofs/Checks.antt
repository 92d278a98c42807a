-- The refusals taken apart and put together, and the rows: each lies in its bit's part of the key.
-- Assumes nothing.
use mathlib.Core.Path.{◌≡◌, refl, ap, ap₂, ◌∙◌}
use mathlib.Core.List.{List}
use Prim.Native.Nat.{ℕ, ◌+◌, ◌-◌, ◌*◌, ◌≤◌, ◌<◌}
use native.Mathlib.Nat.{add-sub_cancel_left, mul-le-mul_right}
use native.Mathlib.Omega.{arith}
use lib.ListN.{length, take, drop}
use Rattle.params.specs.declared.Params.{Params}
use Rattle.params.specs.Ranges.{params_number}
use Rattle.params.specs.Sizes.{size, bit_words}
use Rattle.params.proofs.Answers.{when_done}
use Rattle.params.proofs.Ranges.{in_range}
use Rattle.ring.specs.Poly.{plus, times}
use Rattle.product.specs.Product.{poly_mul_add_out}
use Rattle.product.proofs.Uses.{poly_mul_add_done}
use Rattle.decomposition.specs.Pair.{pair_digit, polynomial_out}
use Rattle.decomposition.proofs.Checks.{polynomial_done}
use Rattle.trgsw.specs.External.{row_a, row_b}
use Rattle.refusals.proofs.Table.{good, done}
use Rattle.trgsw.specs.Refusals.{external_checks, external_number, cmux_checks, cmux_number}
use Rattle.trgsw.specs.Private.{ExternalGood}
use Rattle.ring.specs.Pair.{Pair}
use Rattle.ring.specs.Lists.{part}

-- ---- rows

module _ (p : Params) (r : ℕ) (h : r < p.l + p.l) where
  -- row r lies in the rows
  pub row_in : r * (size p + size p) + size p + size p ≤ bit_words p
  row_in = omega (arith, mul-le-mul_right (size p + size p) h)

-- the same of what the code reckons with
pub row_fits : (p : Params) (r n : ℕ) {len : ℕ} → r < p.l + p.l → n ≡ size p → len ≡ bit_words p → r * (n + n) + n + n ≤ len
row_fits p r n h e l = let q : r * (n + n) + n + n ≡ r * (size p + size p) + size p + size p = ap (λ (k : ℕ). r * (k + k) + k + k) e in omega (arith, row_in p r h)

module _ (p : Params) (rows : List ℕ) (r n : ℕ) (e : n ≡ size p) where
  -- the parts that the code takes are the halves of the row
  pub half_a : take (r * (n + n) + n - r * (n + n)) (drop (r * (n + n)) rows) ≡ row_a p rows r
  unfolding row_a part
  half_a = ap (λ (k : ℕ). take k (drop (r * (n + n)) rows)) (add-sub_cancel_left (r * (n + n)) n) ∙ ap (λ (k : ℕ). take k (drop (r * (k + k)) rows)) e

  pub half_b : take (r * (n + n) + n + n - (r * (n + n) + n)) (drop (r * (n + n) + n) rows) ≡ row_b p rows r
  unfolding row_b part
  half_b = ap (λ (k : ℕ). take k (drop (r * (n + n) + n) rows)) (add-sub_cancel_left (r * (n + n) + n) n) ∙ ap (λ (k : ℕ). take k (drop (r * (k + k) + k) rows)) e

-- ---- what the callees leave

module _ (p : Params) (z : params_number p ≡ 0) where
  -- the digit polynomial r
  pub digits_put : (x : Pair) (r : ℕ) → r < p.l + p.l → length x.a ≡ size p → length x.b ≡ size p
      → (d : List ℕ) {new : List ℕ} → length d ≡ size p → new ≡ polynomial_out p x.a x.b r d → new ≡ pair_digit p x r
  digits_put x r h la lb d ld e =
      e ∙ when_done _ _ _ (polynomial_done p (length x.a) (length x.b) r (length d) (record { range = z; first = la; second = lb; into = ld; row = h }))

  -- one more product
  pub product_added : (o : List ℕ) → length o ≡ size p → {d dd q row new : List ℕ} → d ≡ dd → length dd ≡ size p → q ≡ row → length q ≡ size p
      → new ≡ poly_mul_add_out p d q o → new ≡ plus (size p) o (times (size p) dd row)
  product_added o lo {d} {dd} {q} {row} ed ld eq lq e =
      e ∙ poly_mul_add_done p (in_range p z) d q o (ap length ed ∙ ld) lq lo ∙ ap₂ (λ (u v : List ℕ). plus (size p) o (times (size p) u v)) ed eq

-- ---- what holds of a call that is not refused

module _ (p : Params) (lr la lb lx ly : ℕ) where
  pub external_good : external_number p lr la lb lx ly ≡ 0 → ExternalGood p lr la lb lx ly
  unfolding external_number
  external_good e =
      let f = good p (external_checks p lr la lb lx ly) refl e in
      record { range = f.0; rows = f.1.0; first = f.1.1.0; second = f.1.1.1.0; into_a = f.1.1.1.1.0; into_b = f.1.1.1.1.1.0 }

  -- for callers: good arguments are not refused
  pub external_done : ExternalGood p lr la lb lx ly → external_number p lr la lb lx ly ≡ 0
  unfolding external_number
  external_done g = done p (external_checks p lr la lb lx ly) (g.range, (g.rows, (g.first, (g.second, (g.into_a, (g.into_b, tt))))))

pub record CmuxGood (p : Params) (la lb lc ld lr lx ly : ℕ) : Type 0 where
  pub range : params_number p ≡ 0
  pub first : la ≡ size p
  pub second : lb ≡ size p
  pub third : lc ≡ size p
  pub fourth : ld ≡ size p
  pub rows : lr ≡ bit_words p
  pub into_a : lx ≡ size p
  pub into_b : ly ≡ size p

module _ (p : Params) (la lb lc ld lr lx ly : ℕ) where
  pub cmux_good : cmux_number p la lb lc ld lr lx ly ≡ 0 → CmuxGood p la lb lc ld lr lx ly
  unfolding cmux_number
  cmux_good e =
      let f = good p (cmux_checks p la lb lc ld lr lx ly) refl e in
      record { range = f.0; first = f.1.0; second = f.1.1.0; third = f.1.1.1.0; fourth = f.1.1.1.1.0; rows = f.1.1.1.1.1.0; into_a = f.1.1.1.1.1.1.0; into_b = f.1.1.1.1.1.1.1.0 }

  -- for callers: good arguments are not refused
  pub cmux_done : CmuxGood p la lb lc ld lr lx ly → cmux_number p la lb lc ld lr lx ly ≡ 0
  unfolding cmux_number
  cmux_done g = done p (cmux_checks p la lb lc ld lr lx ly) (g.range, (g.first, (g.second, (g.third, (g.fourth, (g.rows, (g.into_a, (g.into_b, tt))))))))
