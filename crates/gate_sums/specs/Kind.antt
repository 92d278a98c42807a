-- The two-input gates (01, gates; src/gates.rs): one table gives for each kind the sum that is rotated, and what the gate means.
use Rattle.std.specs.Prelude.{Bool, true, false, not, ◌&&◌, ◌||◌, ℕ, ◌-◌, ◌%◌, eqb, ℤ, pos, negsuc, neg_ℤ, ◌+ℤ◌, ◌*ℤ◌}
use Rattle.std.specs.Bool.{xor}
use Rattle.gate_sums.specs.declared.Kind.{Kind}
use Rattle.gate_sums.specs.declared.Kind.TheVariants.{Nand, Or, And, Nor, AndNy, AndYn, OrNy, OrYn, Xor, Xnor}

-- A row of the table. The sum before rotation, so many times a and b and so many eighths of a turn, in whole numbers; and the Boolean meaning.
pub record Row : Type 0 where
  pub a : ℤ
  pub b : ℤ
  pub eighths : ℤ
  pub meaning : Bool → Bool → Bool

-- A row by its columns.
abbrev pub row : ℤ → ℤ → ℤ → (Bool → Bool → Bool) → Row
row a b eighths meaning = record { a = a; b = b; eighths = eighths; meaning = meaning }

-- The table (01, gates). `and_ny` is (not a) and b, `or_ny` is (not a) or b, whatever the Rust's comment says. `xnor` means xor: its sum a - 2b - 2 and
-- xor's a + 2b + 2 differ by 4b + 4 eighths, which for b = ±1 is a whole turn or nothing (so 01 lets kind 8 of a circuit run xor and negate).
abbrev pub row_of : Kind → Row
row_of Nand = row (neg_ℤ (pos 1)) (neg_ℤ (pos 1)) (pos 1) (λ a b. not (a && b))
row_of Or = row (pos 1) (pos 1) (pos 1) (λ a b. a || b)
row_of And = row (pos 1) (pos 1) (neg_ℤ (pos 1)) (λ a b. a && b)
row_of Nor = row (neg_ℤ (pos 1)) (neg_ℤ (pos 1)) (neg_ℤ (pos 1)) (λ a b. not (a || b))
row_of AndNy = row (neg_ℤ (pos 1)) (pos 1) (neg_ℤ (pos 1)) (λ a b. not a && b)
row_of AndYn = row (pos 1) (neg_ℤ (pos 1)) (neg_ℤ (pos 1)) (λ a b. a && not b)
row_of OrNy = row (neg_ℤ (pos 1)) (pos 1) (pos 1) (λ a b. not a || b)
row_of OrYn = row (pos 1) (neg_ℤ (pos 1)) (pos 1) (λ a b. a || not b)
row_of Xor = row (pos 1) (pos 2) (pos 2) xor
row_of Xnor = row (pos 1) (neg_ℤ (pos 2)) (neg_ℤ (pos 2)) xor

-- The meaning of a kind.
abbrev pub meaning : Kind → Bool → Bool → Bool
meaning kind = (row_of kind).meaning

-- ---- the truth tables

-- What a bit carries, in eighths of a turn: a bit is ±0.125 (01, tlwe).
abbrev pub sign : Bool → ℤ
sign true = pos 1
sign false = neg_ℤ (pos 1)

-- The sum in eighths where a and b carry these bits and no drift.
abbrev pub eighths_of : Kind → Bool → Bool → ℤ
eighths_of kind a b = (row_of kind).a *ℤ sign a +ℤ (row_of kind).b *ℤ sign b +ℤ (row_of kind).eighths

-- A whole number modulo 8: a turn is 8 eighths.
abbrev pub modulo8 : ℤ → ℕ
modulo8 (pos n) = n % 8
modulo8 (negsuc n) = 7 - n % 8

-- The sum in eighths, modulo 8.
unfoldable pub sum_of : Kind → Bool → Bool → ℕ
sum_of kind a b = modulo8 (eighths_of kind a b)

-- Do so many eighths stand for the bit? 1 and 3 for true; 7 and 5, which are -1 and -3, for false.
abbrev pub stands_for : Bool → ℕ → Bool
stands_for true e = eqb e 1 || eqb e 3
stands_for false e = eqb e 7 || eqb e 5
