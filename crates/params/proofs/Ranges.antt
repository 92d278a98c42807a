-- Parameters that are not refused lie in their ranges, and the other way round, and then every length is small: the table is taken apart check by check and put
-- together again, and the bounds are products of bounds.
-- Assumes nothing.
use mathlib.Core.Path.{◌≡◌, refl, ◌∙◌}
use mathlib.Core.Bool.{Bool, true, false, cond, ◌&&◌}
use Prim.Native.Nat.{ℕ, ◌+◌, ◌-◌, ◌*◌, ◌≤◌, ◌<◌}
use native.Mathlib.Nat.{mul-le-mul, le-mul_of_pos_right}
use native.Mathlib.Omega.{arith}
use borrow.Author.Tests.{leb-true, le-leb}
use lib.Dec.{lit<, leb}
use lib.Pow.{pow_mono, pow_pos}
use Rattle.params.specs.declared.Params.{Params}
use Rattle.params.specs.Ranges.{params_number, InRange}
use Rattle.params.specs.Sizes.{size, base}
use Rattle.params.specs.Refusal.{check}
use Rattle.params.specs.Private.{fits}
use Rattle.params.proofs.Answers.{passed}

pub in_range : (p : Params) → params_number p ≡ 0 → InRange p
unfolding params_number
in_range p e =
    let one : 0 < 1 = lit< tt in
    let s1 = passed _ _ _ one e in
    let s2 = passed _ _ _ one s1.1 in
    let s3 = passed _ _ _ one s2.1 in
    let s4 = passed _ _ _ one s3.1 in
    let s5 = passed _ _ _ one s4.1 in
    let s6 = passed _ _ _ one s5.1 in
    let s7 = passed _ _ _ one s6.1 in
    let s8 = passed _ _ _ one s7.1 in
    let s9 = passed _ _ _ one s8.1 in
    let s10 = passed _ _ _ one s9.1 in
    let s11 = passed _ _ _ one s10.1 in
    let s12 = passed _ _ _ one s11.1 in
    record {
      n_from = leb-true _ _ s1.0;
      n_to = leb-true _ _ s2.0;
      nbit_from = leb-true _ _ s3.0;
      nbit_to = leb-true _ _ s4.0;
      bgbit_from = leb-true _ _ s5.0;
      bgbit_to = leb-true _ _ s6.0;
      l_from = leb-true _ _ s7.0;
      digits_to = leb-true _ _ s8.0;
      basebit_from = leb-true _ _ s9.0;
      basebit_to = leb-true _ _ s10.0;
      t_from = leb-true _ _ s11.0;
      fields_to = leb-true _ _ s12.0;
    }

-- and the other way round: numbers in their ranges are not refused
pub not_refused : (p : Params) → InRange p → params_number p ≡ 0
unfolding params_number
not_refused p r =
    simp (
      le-leb _ _ r.n_from,
      le-leb _ _ r.n_to,
      le-leb _ _ r.nbit_from,
      le-leb _ _ r.nbit_to,
      le-leb _ _ r.bgbit_from,
      le-leb _ _ r.bgbit_to,
      le-leb _ _ r.l_from,
      le-leb _ _ r.digits_to,
      le-leb _ _ r.basebit_from,
      le-leb _ _ r.basebit_to,
      le-leb _ _ r.t_from,
      le-leb _ _ r.fields_to,
    )

-- ---- the ranges as tests

twelve : (a b c d e f g h i j k l : Bool)
    → check a 1 (check b 1 (check c 1 (check d 1 (check e 1 (check f 1 (check g 1 (check h 1 (check i 1 (check j 1 (check k 1 (check l 1 0)))))))))))
    ≡ cond ((a && (b && (c && d))) && ((e && (f && (g && h))) && (i && (j && (k && l))))) 0 1
twelve false b c d e f g h i j k l = refl
twelve true false c d e f g h i j k l = refl
twelve true true false d e f g h i j k l = refl
twelve true true true false e f g h i j k l = refl
twelve true true true true false f g h i j k l = refl
twelve true true true true true false g h i j k l = refl
twelve true true true true true true false h i j k l = refl
twelve true true true true true true true false i j k l = refl
twelve true true true true true true true true false j k l = refl
twelve true true true true true true true true true false k l = refl
twelve true true true true true true true true true true false l = refl
twelve true true true true true true true true true true true false = refl
twelve true true true true true true true true true true true true = refl

-- the table's number is 0 where they all pass, and else 1
pub by_fits : (p : Params) → params_number p ≡ cond (fits p) 0 1
unfolding params_number fits
by_fits p =
    twelve (leb 1 p.n) (leb p.n 1100) (leb 1 p.nbit) (leb p.nbit 10) (leb 1 p.bgbit) (leb p.bgbit 24) (leb 1 p.l) (leb (p.l * p.bgbit) 32)
    (leb 1 p.basebit) (leb p.basebit 6) (leb 1 p.t) (leb (p.basebit * p.t) 30)

pub number_fits : (p : Params) → fits p ≡ true → params_number p ≡ 0
number_fits p e = by_fits p ∙ rw e

pub number_unfit : (p : Params) → fits p ≡ false → params_number p ≡ 1
number_unfit p e = by_fits p ∙ rw e

-- ---- bounds

pub size_from : (p : Params) → 1 ≤ size p
size_from p = pow_pos p.nbit

pub base_from : (p : Params) → 1 ≤ base p
base_from p = pow_pos p.basebit

module _ (p : Params) (r : InRange p) where
  pub size_to : size p ≤ 1024
  size_to = pow_mono {i = p.nbit} {j = 10} r.nbit_to

  -- N is even
  pub size_two : 2 ≤ size p
  size_two = pow_mono {i = 1} {j = p.nbit} r.nbit_from

  -- BASE is even, so a field has a value that uses a row
  pub base_two : 2 ≤ base p
  base_two = pow_mono {i = 1} {j = p.basebit} r.basebit_from

  pub base_to : base p ≤ 64
  base_to = pow_mono {i = p.basebit} {j = 6} r.basebit_to

  pub l_to : p.l ≤ 32
  l_to = omega (arith, r, le-mul_of_pos_right p.l r.bgbit_from)

  pub t_to : p.t ≤ 30
  t_to = omega (arith, r, le-mul_of_pos_right p.t r.basebit_from)

-- every product on the way to a length is far from 2^64
pub record Small (N B t l n : ℕ) : Type 0 where
  pub fields : N * t ≤ 30720
  pub rows : N * t * (B - 1) ≤ 1935360
  pub key : N * t * (B - 1) * (n + 1) ≤ 2130831360
  pub masks : N * t * (B - 1) * n ≤ 2128896000
  pub bit : (l + l) * (N + N) ≤ 131072
  pub bits : n * ((l + l) * (N + N)) ≤ 144179200
  pub bitmask : (l + l) * N ≤ 65536
  pub bitmasks : n * ((l + l) * N) ≤ 72089600

pub small : (N B t l n : ℕ) → N ≤ 1024 → B ≤ 64 → t ≤ 30 → l ≤ 32 → n ≤ 1100 → Small N B t l n
small N B t l n h_n h_b ht hl hn =
    let f = mul-le-mul h_n ht in
    let b1 : B - 1 ≤ 63 = omega arith in
    let r = mul-le-mul f b1 in
    let m : n + 1 ≤ 1101 = omega arith in
    let ll : l + l ≤ 64 = omega arith in
    let NN : N + N ≤ 2048 = omega arith in
    let b = mul-le-mul ll NN in
    let bm = mul-le-mul ll h_n in
    record {
      fields = f;
      rows = r;
      key = mul-le-mul r m;
      masks = mul-le-mul r hn;
      bit = b;
      bits = mul-le-mul hn b;
      bitmask = bm;
      bitmasks = mul-le-mul hn bm;
    }

-- the lengths at parameters in range, at once
pub sizes_small : (p : Params) → InRange p → Small (size p) (base p) p.t p.l p.n
sizes_small p r = small (size p) (base p) p.t p.l p.n (size_to p r) (base_to p r) (t_to p r) (l_to p r) r.n_to
