-- The refusals of this crate's routines: what arguments that are not refused have, and that such arguments are not refused, from the tables' laws.
-- Assumes nothing.
use mathlib.Core.Path.{◌≡◌, refl, sym, ◌∙◌}
use Prim.Native.Nat.{ℕ, ◌+◌, ◌-◌, ◌*◌, ◌≤◌, ◌<◌}
use mathlib.Core.Bool.{Bool, true, false}
use mathlib.Core.List.{List, []}
use borrow.Author.Tests.{eq-eqb}
use lib.Dec.{ltb}
use Rattle.std.specs.Prelude.{Ok}
use lib.ListN.{length, take, drop}
use Rattle.ring.proofs.Parts.{slice_part}
use Rattle.params.specs.declared.Params.{Params}
use Rattle.params.specs.Refusal.{Answer}
use Rattle.params.specs.Refusal.{check, answer, given, if_done}
use Rattle.params.specs.Ranges.{params_number, InRange}
use Rattle.params.specs.Sizes.{size, base, bit_words, switching_words, bootstrapping_words}
use Rattle.params.proofs.Answers.{when_done, given_done, given_ok}
use Rattle.params.specs.Private.{fits}
use Rattle.params.proofs.Ranges.{in_range, number_fits, number_unfit}
use Rattle.key.specs.Offset.{offset, offset_out}
use Rattle.key.specs.Testvec.{test_checks, test_number}
use Rattle.tlwe.specs.Key.{binary}
use Rattle.refusals.proofs.Table.{good, done}
use Rattle.key.specs.Switching.{row_index, row_part, lookup_checks, lookup_number}
use Rattle.key.specs.Bits.{bit_rows, bit_rows_checks, bit_rows_number}
use Rattle.key.specs.Generation.{generate_checks, generate_number}
use Rattle.key.specs.Private.{Lent}
use Rattle.key.proofs.Rows.{row_end, row_ends}

-- the parameters' number is 0 or 1
pub number_one : (p : Params) → (params_number p ≡ 0 → ⊥) → params_number p ≡ 1
number_one p h = go (fits p) refl
  where
    go : (b : Bool) → fits p ≡ b → params_number p ≡ 1
    go true e = absurd (h (number_fits p e))
    go false e = number_unfit p e

-- what is given is the value
given_is : {A : Type 0} (a : Answer) (v : A) {w : A} → given a v ≡ Ok w → v ≡ w
given_is a v e = let d = given_done a v (given_ok a v e) in cc

-- ---- the offset

-- for callers: parameters in range give the offset
pub offset_done : (p : Params) → params_number p ≡ 0 → offset_out p ≡ Ok (record { 0 = offset p })
unfolding offset_out
offset_done p e = given_done (answer (params_number p)) (record { 0 = offset p }) e

-- ---- the test vector

pub record TestGood (p : Params) (a b : ℕ) : Type 0 where
  pub range : InRange p
  pub first : a ≡ size p
  pub second : b ≡ size p

pub test_good : (p : Params) (a b : ℕ) → test_number p a b ≡ 0 → TestGood p a b
unfolding test_number
test_good p a b e = let f = good p (test_checks p a b) refl e in record { range = in_range p f.0; first = f.1.0; second = f.1.1.0 }

-- for callers: good arguments are not refused
pub test_done : (p : Params) → params_number p ≡ 0 → test_number p (size p) (size p) ≡ 0
unfolding test_number
test_done p e = done p (test_checks p (size p) (size p)) (e, (refl, (refl, tt)))

-- ---- the lookup of a row

pub record LookupGood (p : Params) (len i j k : ℕ) : Type 0 where
  pub range : InRange p
  pub key : len ≡ switching_words p
  pub outer : i < size p
  pub field : j < p.t
  pub digit_from : 1 ≤ k
  pub digit : k < base p

pub lookup_good : (p : Params) (len i j k : ℕ) → lookup_number p len i j k ≡ 0 → LookupGood p len i j k
unfolding lookup_number
lookup_good p len i j k e =
    let f = good p (lookup_checks p len i j k) refl e in
    record { range = in_range p f.0; key = f.1.0; outer = f.1.1.0; field = f.1.1.1.0; digit_from = f.1.1.1.1.0; digit = f.1.1.1.1.1.0 }

-- for callers: good arguments are not refused
pub lookup_done : (p : Params) (len i j k : ℕ) → params_number p ≡ 0 → len ≡ switching_words p → i < size p → j < p.t → 1 ≤ k → k < base p
    → lookup_number p len i j k ≡ 0
unfolding lookup_number
lookup_done p len i j k e l hi hj from hk = done p (lookup_checks p len i j k) (e, (l, (hi, (hj, (from, (hk, tt))))))

-- the row whose place a lookup gives lies within the key, and is the row's part of it
pub row_within : (p : Params) (len i j k : ℕ) {row : ℕ} → given (answer (lookup_number p len i j k)) (row_index p i j k) ≡ Ok row → row * (p.n + 1) + (p.n + 1) ≤ len
row_within p len i j k {row} e =
    let a = answer (lookup_number p len i j k) in
    let l = lookup_good p len i j k (given_ok a (row_index p i j k) e) in
    let r : row_index p i j k ≡ row = given_is a (row_index p i j k) e in
    rw (sym r, l.key) (row_end p i j k l.outer l.field l.digit_from l.digit)

pub row_handed : (p : Params) (key : List ℕ) (i j k : ℕ) {row w : ℕ} → given (answer (lookup_number p (length key) i j k)) (row_index p i j k) ≡ Ok row → w ≡ p.n + 1
    → take (row * w + w - row * w) (drop (row * w) key) ≡ if_done (lookup_number p (length key) i j k) (row_part p key i j k) []
unfolding row_part
row_handed p key i j k {row} {w} e n =
    let a = answer (lookup_number p (length key) i j k) in
    let r : row_index p i j k ≡ row = given_is a (row_index p i j k) e in
    slice_part key (row * w) w ∙ rw (n, sym r) (sym (when_done _ _ _ (given_ok a (row_index p i j k) e)))

-- and k = 0 is refused with 3, whatever i and j
pub lookup_at_zero : (p : Params) (i j k : ℕ) → params_number p ≡ 0 → k ≡ 0 → lookup_number p (switching_words p) i j k ≡ 3
unfolding lookup_number
lookup_at_zero p i j k e z = rw (eq-eqb (params_number p) 0 e, eq-eqb (switching_words p) (switching_words p) refl, z) (go (ltb i (size p)) (ltb j p.t))
  where
    go : (a b : Bool) → check a 3 (check b 3 3) ≡ 3
    go true true = refl
    go true false = refl
    go false b = refl

-- ---- the lookup of a bit's rows

pub record BitGood (p : Params) (len i : ℕ) : Type 0 where
  pub range : params_number p ≡ 0
  pub key : len ≡ bootstrapping_words p
  pub index : i < p.n

pub bit_good : (p : Params) (len i : ℕ) → bit_rows_number p len i ≡ 0 → BitGood p len i
unfolding bit_rows_number
bit_good p len i e = let f = good p (bit_rows_checks p len i) refl e in record { range = f.0; key = f.1.0; index = f.1.1.0 }

pub bit_within : (p : Params) (len i : ℕ) {q : Params} → given (answer (bit_rows_number p len i)) p ≡ Ok q → i * bit_words p + bit_words p ≤ len
bit_within p len i e =
    let l = bit_good p len i (given_ok (answer (bit_rows_number p len i)) p e) in
    rw l.key (row_ends i p.n (bit_words p) l.index)

pub bit_handed : (p : Params) (key : List ℕ) (i : ℕ) {q : Params} {w : ℕ} → given (answer (bit_rows_number p (length key) i)) p ≡ Ok q → w ≡ bit_words q
    → take (i * w + w - i * w) (drop (i * w) key) ≡ if_done (bit_rows_number p (length key) i) (bit_rows p key i) []
unfolding bit_rows
bit_handed p key i {q} {w} e n =
    let a = answer (bit_rows_number p (length key) i) in
    let s : p ≡ q = given_is a p e in
    slice_part key (i * w) w ∙ rw (n, sym s) (sym (when_done _ _ _ (given_ok a p e)))

-- for callers: good arguments are not refused
pub bit_done : (p : Params) (len i : ℕ) → params_number p ≡ 0 → len ≡ bootstrapping_words p → i < p.n → bit_rows_number p len i ≡ 0
unfolding bit_rows_number
bit_done p len i e l h = done p (bit_rows_checks p len i) (e, (l, (h, tt)))

-- ---- generation

pub record GenerateGood (p : Params) (key z : List ℕ) (masks noise out : ℕ) : Type 0 where
  pub lent : Lent p (length key) (length z) masks noise
  pub rows : out ≡ switching_words p
  pub key_binary : binary key ≡ true
  pub z_binary : binary z ≡ true

pub generate_good : (p : Params) (key z : List ℕ) (masks noise out : ℕ) → generate_number p key z masks noise out ≡ 0 → GenerateGood p key z masks noise out
unfolding generate_number
generate_good p key z masks noise out e =
    let f = good p (generate_checks p key z masks noise out) refl e in
    record {
      lent = record { range = in_range p f.0; key_length = f.1.0; z_length = f.1.1.0; masks_length = f.1.1.1.0; noise_length = f.1.1.1.1.0 };
      rows = f.1.1.1.1.1.0;
      key_binary = f.1.1.1.1.1.1.0;
      z_binary = f.1.1.1.1.1.1.1.0;
    }

-- for callers: good arguments are not refused
pub generate_done : (p : Params) (key z : List ℕ) (masks noise out : ℕ) → params_number p ≡ 0 → GenerateGood p key z masks noise out
    → generate_number p key z masks noise out ≡ 0
unfolding generate_number
generate_done p key z masks noise out e g =
    done p (generate_checks p key z masks noise out)
    (e, (g.lent.key_length, (g.lent.z_length, (g.lent.masks_length, (g.lent.noise_length, (g.rows, (g.key_binary, (g.z_binary, tt))))))))
