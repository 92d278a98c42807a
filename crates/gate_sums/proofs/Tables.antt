-- The truth tables: each kind's sum in eighths, modulo 8, stands for its meaning, and the words of the sum are those eighths. Computed, bit by bit.
-- Assumes nothing.
use mathlib.Core.Path.{◌≡◌, refl}
use mathlib.Core.Bool.{Bool, true, false, not, ◌&&◌, ◌||◌, xor}
use Prim.Native.Nat.{◌+◌, ◌*◌, ◌%◌}
use Rattle.ring.specs.Word.{Q, neg, eighth}
use Rattle.tlwe.specs.Plain.{bit_word}
use Rattle.gate_sums.specs.declared.Kind.{Kind}
use Rattle.gate_sums.specs.declared.Kind.TheVariants.{Nand, Or, And, Nor, AndNy, AndYn, OrNy, OrYn, Xor, Xnor}
use Rattle.gate_sums.specs.Kind.{meaning, sum_of, stands_for}
use Rattle.gate_sums.specs.Weights.{weights_of}

-- two bits' four cases
pub four : (P : Bool → Bool → Type 0) → P true true → P true false → P false true → P false false → (a b : Bool) → P a b
four P x y z w true true = x
four P x y z w true false = y
four P x y z w false true = z
four P x y z w false false = w

-- each kind by its name: where its meaning is true the sum is 1 or 3 eighths modulo 8, where it is false -1 or -3
pub nand_table : (a b : Bool) → stands_for (not (a && b)) (sum_of Nand a b) ≡ true
unfolding sum_of
nand_table = four (λ (a b : Bool). stands_for (not (a && b)) (sum_of Nand a b) ≡ true) refl refl refl refl

pub or_table : (a b : Bool) → stands_for (a || b) (sum_of Or a b) ≡ true
unfolding sum_of
or_table = four (λ (a b : Bool). stands_for (a || b) (sum_of Or a b) ≡ true) refl refl refl refl

pub and_table : (a b : Bool) → stands_for (a && b) (sum_of And a b) ≡ true
unfolding sum_of
and_table = four (λ (a b : Bool). stands_for (a && b) (sum_of And a b) ≡ true) refl refl refl refl

pub nor_table : (a b : Bool) → stands_for (not (a || b)) (sum_of Nor a b) ≡ true
unfolding sum_of
nor_table = four (λ (a b : Bool). stands_for (not (a || b)) (sum_of Nor a b) ≡ true) refl refl refl refl

pub and_ny_table : (a b : Bool) → stands_for (not a && b) (sum_of AndNy a b) ≡ true
unfolding sum_of
and_ny_table = four (λ (a b : Bool). stands_for (not a && b) (sum_of AndNy a b) ≡ true) refl refl refl refl

pub and_yn_table : (a b : Bool) → stands_for (a && not b) (sum_of AndYn a b) ≡ true
unfolding sum_of
and_yn_table = four (λ (a b : Bool). stands_for (a && not b) (sum_of AndYn a b) ≡ true) refl refl refl refl

pub or_ny_table : (a b : Bool) → stands_for (not a || b) (sum_of OrNy a b) ≡ true
unfolding sum_of
or_ny_table = four (λ (a b : Bool). stands_for (not a || b) (sum_of OrNy a b) ≡ true) refl refl refl refl

pub or_yn_table : (a b : Bool) → stands_for (a || not b) (sum_of OrYn a b) ≡ true
unfolding sum_of
or_yn_table = four (λ (a b : Bool). stands_for (a || not b) (sum_of OrYn a b) ≡ true) refl refl refl refl

pub xor_table : (a b : Bool) → stands_for (xor a b) (sum_of Xor a b) ≡ true
unfolding sum_of xor
xor_table = four (λ (a b : Bool). stands_for (xor a b) (sum_of Xor a b) ≡ true) refl refl refl refl

-- `xnor`'s sum has the truth table of xor: what the Rust computes
pub xnor_computes_xor : (a b : Bool) → stands_for (xor a b) (sum_of Xnor a b) ≡ true
unfolding sum_of xor
xnor_computes_xor = four (λ (a b : Bool). stands_for (xor a b) (sum_of Xnor a b) ≡ true) refl refl refl refl

-- and xor's sum and `xnor`'s stand for no different bit
pub xnor_is_no_xnor : (a b : Bool) → stands_for (not (xor a b)) (sum_of Xnor a b) ≡ false
unfolding sum_of xor
xnor_is_no_xnor = four (λ (a b : Bool). stands_for (not (xor a b)) (sum_of Xnor a b) ≡ false) refl refl refl refl

-- all kinds at once
pub table : (kind : Kind) (a b : Bool) → stands_for (meaning kind a b) (sum_of kind a b) ≡ true
table Nand = nand_table
table Or = or_table
table And = and_table
table Nor = nor_table
table AndNy = and_ny_table
table AndYn = and_yn_table
table OrNy = or_ny_table
table OrYn = or_yn_table
table Xor = xor_table
table Xnor = xnor_computes_xor

-- the words of a kind's sum, where the operands' phases are bits without drift, are its eighths
abbrev Words : Kind → Bool → Bool → Type 0
Words kind a b = ((weights_of kind).a * bit_word a + (weights_of kind).b * bit_word b + (weights_of kind).added) % Q ≡ sum_of kind a b * eighth

pub sum_words : (kind : Kind) (a b : Bool) → Words kind a b
unfolding weights_of sum_of Q neg
sum_words Nand = four (Words Nand) refl refl refl refl
sum_words Or = four (Words Or) refl refl refl refl
sum_words And = four (Words And) refl refl refl refl
sum_words Nor = four (Words Nor) refl refl refl refl
sum_words AndNy = four (Words AndNy) refl refl refl refl
sum_words AndYn = four (Words AndYn) refl refl refl refl
sum_words OrNy = four (Words OrNy) refl refl refl refl
sum_words OrYn = four (Words OrYn) refl refl refl refl
sum_words Xor = four (Words Xor) refl refl refl refl
sum_words Xnor = four (Words Xnor) refl refl refl refl
