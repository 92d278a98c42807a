-- A switching key in the layout before 02, 2026-06, and the key that is left without its idle rows: every row (i, j, k), k from 1, is the one that stood there, so whatever reads
-- rows reads the same. And what the code reckons on the way. Products of bounds, division with remainder, and the refusals by the tables' laws.
-- Assumes nothing.
use mathlib.Core.Path.{◌≡◌, refl, ap, ◌∙◌}
use mathlib.Core.List.{List}
use Prim.Native.Nat.{ℕ, ◌+◌, ◌*◌, ◌-◌, ◌/◌, ◌%◌, ◌≤◌, ◌<◌}
use native.Mathlib.Nat.{mul-le-mul, mul-lt-mul_of_pos_left, mul-lt-mul_of_pos_right}
use native.Mathlib.Omega.{arith}
use lib.ListN.{length}
use Rattle.ring.proofs.Parts.{part_length}
use Rattle.ring.proofs.Joins.{length-joined, joined-part}
use Rattle.params.specs.declared.Params.{Params}
use Rattle.params.specs.Ranges.{params_number, InRange}
use Rattle.params.specs.Sizes.{size, base, switching_rows, switching_words}
use Rattle.params.proofs.Ranges.{in_range, size_from, base_from, size_to, base_to, t_to}
use Rattle.refusals.proofs.Table.{good, done}
use Rattle.key.specs.Switching.{row_index, row_part}
use Rattle.key.specs.Generation.{row_outer, row_field, row_digit}
use Rattle.key.specs.Former.{former_words, former_index, former_row, without_idle, drop_checks, drop_number}
use Rattle.key.proofs.Mixed.{made_below, pair_of}
use Rattle.key.proofs.Places.{row_below, outer_below, field_below, digit_below, outer_back, field_back, digit_back}
use Rattle.key.proofs.Rows.{row_ends}

-- ---- where the rows stood

-- a former place too is a number made of three
pub as_made : (p : Params) (i j k : ℕ) → former_index p i j k ≡ base p * (p.t * i + j) + k
unfolding former_index
as_made p i j k = omega arith

module _ (p : Params) (i j k : ℕ) (hi : i < size p) (hj : j < p.t) (hk : k < base p) where
  pub former_below : former_index p i j k < size p * p.t * base p
  former_below = rw (as_made p i j k) (made_below (base p) p.t i j k hj hk (size p) hi)

  pub former_end : former_index p i j k * (p.n + 1) + (p.n + 1) ≤ former_words p
  former_end = row_ends _ _ (p.n + 1) former_below

  former_length : (former : List ℕ) → length former ≡ former_words p → length (former_row p former i j k) ≡ p.n + 1
  unfolding former_row
  former_length former e = part_length former (former_index p i j k * (p.n + 1)) (p.n + 1) (rw e former_end)

-- ---- how long it was

-- one part in BASE is gone: at BASEBIT 2 a quarter
pub one_in_base : (p : Params) → base p * switching_words p ≡ (base p - 1) * former_words p
one_in_base p = omega arith

-- so no former key has today's length, and a routine that is lent one refuses it with 2
pub former_longer : (p : Params) → InRange p → switching_words p < former_words p
former_longer p range =
    let fields : 0 < size p * p.t = mul-le-mul (size_from p) range.t_from in
    let fewer : base p - 1 < base p = let b = base_from p in omega arith in
    mul-lt-mul_of_pos_right (mul-lt-mul_of_pos_left fewer fields) (omega arith)

-- ---- what is left

module _ (p : Params) (range : InRange p) (former : List ℕ) (e : length former ≡ former_words p) where
  pub lengths_left : (r : ℕ) → r < switching_rows p → length (former_row p former (row_outer p r) (row_field p r) (row_digit p r)) ≡ p.n + 1
  lengths_left r h = former_length p _ _ _ (outer_below p range r h) (field_below p range r) (digit_below p range r) former e

  -- a key of today's length
  pub length_left : length (without_idle p former) ≡ switching_words p
  unfolding without_idle
  length_left = length-joined (p.n + 1) (λ r. former_row p former (row_outer p r) (row_field p r) (row_digit p r)) (switching_rows p) lengths_left

  -- whose row (i, j, k), k from 1, is the former key's
  pub row_left : (i j k : ℕ) → i < size p → j < p.t → 1 ≤ k → k < base p → row_part p (without_idle p former) i j k ≡ former_row p former i j k
  unfolding row_part without_idle
  row_left i j k hi hj from hk =
      joined-part (p.n + 1) (λ r. former_row p former (row_outer p r) (row_field p r) (row_digit p r)) (switching_rows p) lengths_left (row_index p i j k) (row_below p i j k hj from hk hi)
      ∙ rw (outer_back p i j k hj from hk, field_back p i j k hj from hk, digit_back p i j k hj from hk)

-- ---- the code's numbers

-- the former place of row number r, b being BASE
pub former_code : (p : Params) (r : ℕ) {b : ℕ} → b ≡ base p → b * (r / (b - 1)) + (r % (b - 1) + 1) ≡ former_index p (row_outer p r) (row_field p r) (row_digit p r)
unfolding former_index row_outer row_field row_digit
former_code p r {b} e = rw e (let x = ap (λ (y : ℕ). base p * y) (pair_of (base p - 1) p.t r) in omega arith)

-- parameters in range have fewer
pub former_small : (p : Params) → InRange p → former_words p ≤ 2164654080
former_small p range =
    let m : p.n + 1 ≤ 1101 = let h = range.n_to in omega arith in
    let h = mul-le-mul (mul-le-mul (mul-le-mul (size_to p range) (t_to p range)) (base_to p range)) m in
    omega arith

pub rows_small : (p : Params) → InRange p → size p * p.t * base p ≤ 1966080
rows_small p range = let h = mul-le-mul (mul-le-mul (size_to p range) (t_to p range)) (base_to p range) in omega arith

-- so is a place
pub place_fits : (p : Params) (r : ℕ) → InRange p → r < switching_rows p → {b : ℕ} → b ≡ base p → b * (r / (b - 1)) + (r % (b - 1) + 1) ≤ 1966080
place_fits p r range h e =
    let f = former_below p _ _ _ (outer_below p range r h) (field_below p range r) (digit_below p range r) in
    rw (former_code p r e) (omega (arith, rows_small p range, f))

-- and a row ends within the key
pub former_within : (p : Params) (r : ℕ) → InRange p → r < switching_rows p → {a len : ℕ} → a ≡ former_index p (row_outer p r) (row_field p r) (row_digit p r) → len ≡ former_words p
    → a * (p.n + 1) + (p.n + 1) ≤ len
former_within p r range h e l = rw (e, l) (former_end p _ _ _ (outer_below p range r h) (field_below p range r) (digit_below p range r))

-- ---- the refusals

pub record DropGood (p : Params) (former out : ℕ) : Type 0 where
  pub range : InRange p
  pub key : former ≡ former_words p
  pub rows : out ≡ switching_words p

pub drop_good : (p : Params) (former out : ℕ) → drop_number p former out ≡ 0 → DropGood p former out
unfolding drop_number
drop_good p former out e = let f = good p (drop_checks p former out) refl e in record { range = in_range p f.0; key = f.1.0; rows = f.1.1.0 }

-- for callers: good arguments are not refused
pub drop_done : (p : Params) (former out : ℕ) → params_number p ≡ 0 → former ≡ former_words p → out ≡ switching_words p → drop_number p former out ≡ 0
unfolding drop_number
drop_done p former out e l o = done p (drop_checks p former out) (e, (l, (o, tt)))
