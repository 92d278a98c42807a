-- Computed cases of the definitions, reckoned by hand from 02 (2026-07): a test vector at each side of its steps, which moduli fit, and the refusals one after another.
-- Assumes nothing.
use mathlib.Core.Path.{◌≡◌, refl}
use mathlib.Core.Bool.{true, false}
use mathlib.Core.List.{[], ◌∷◌}
use Prim.Native.Nat.{◌^◌}
use Rattle.ring.specs.Word.{Q, neg}
use Rattle.ring.specs.Sums.{tab}
use Rattle.params.specs.declared.Params.{Params}
use Rattle.params.specs.Published.{numbers}
use Rattle.params.specs.Ranges.{params_number}
use Rattle.tlwe.specs.Plain.{is_modulus}
use Rattle.tables.specs.Table.{is_table, table_word, table_pair}
use Rattle.tables.specs.Refusals.{table_number, lookup_number}

-- n 3, N 8, BGBIT 8, L 2, BASEBIT 2, T 3: a switching key of 8·3·3 = 72 rows of 4 words, a bootstrapping key of 3·4·16 = 192 words
abbrev eight : Params
eight = numbers 3 3 8 2 2 3

-- M 2: a step has N/M = 4 places, half of one 2. Places 0, 1 take f(0); 2 to 5 f(1); 6, 7 f(0) negated: 2^32 - 3, and not 2^32 - 1 - 3
pub two_entries : table_pair eight 2 (3 ∷ 5 ∷ []) ≡ record { a = 0 ∷ 0 ∷ 0 ∷ 0 ∷ 0 ∷ 0 ∷ 0 ∷ 0 ∷ []; b = 3 ∷ 3 ∷ 5 ∷ 5 ∷ 5 ∷ 5 ∷ 0xFFFFFFFD ∷ 0xFFFFFFFD ∷ [] }
unfolding Q neg tab table_word
two_entries = refl

-- M 4: 2 places a step, half of one 1; f(0) of 0 is 0 when negated too
pub four_entries : (table_pair eight 4 (0 ∷ 7 ∷ 0xFFFFFFFF ∷ 9 ∷ [])).b ≡ 0 ∷ 7 ∷ 7 ∷ 0xFFFFFFFF ∷ 0xFFFFFFFF ∷ 9 ∷ 9 ∷ 0 ∷ []
unfolding Q neg tab table_word
four_entries = refl

-- which moduli fit: 2M divides N
pub fitting : (is_table 8 2 ≡ true) × (is_table 8 4 ≡ true) × (is_table 8 8 ≡ false) × (is_table 2 2 ≡ false) × (is_table 4 2 ≡ true) × (is_table 64 32 ≡ true) × (is_table 64 64 ≡ false) × (is_table 128 64 ≡ true)
    × (is_table 1024 64 ≡ true) × (is_table 1024 1 ≡ false) × (is_table 1024 128 ≡ false) × (is_table 24 6 ≡ false) × (is_table 1024 0 ≡ false)
unfolding is_table is_modulus
fitting = (refl, refl, refl, refl, refl, refl, refl, refl, refl, refl, refl, refl, refl)

-- the refusals of a test vector: none; 1 before all; 2 for the table, a, b; 2 before 5 where the modulus is illegal and the table has another length; 5 where it has that length, or 2M does not divide N
pub vector_numbers : (table_number eight 2 2 8 8 ≡ 0) × (table_number (numbers 0 3 8 2 2 3) 3 9 9 9 ≡ 1) × (table_number eight 2 3 8 8 ≡ 2) × (table_number eight 2 2 7 8 ≡ 2) × (table_number eight 2 2 8 9 ≡ 2)
    × (table_number eight 3 2 8 8 ≡ 2) × (table_number eight 3 3 8 8 ≡ 5) × (table_number eight 8 8 8 8 ≡ 5) × (table_number eight (2 ^ 63) 2 8 8 ≡ 2) × (table_number eight 0 0 8 8 ≡ 5)
    × (table_number eight 3 3 7 8 ≡ 2) × (table_number eight 3 3 8 9 ≡ 2)
unfolding table_number params_number is_table is_modulus
vector_numbers = (refl, refl, refl, refl, refl, refl, refl, refl, refl, refl, refl, refl)

-- those of a lookup: none; 1; 2 for the table, the ciphertext, the switching key, the bootstrapping key, the result; 2 before 5; 5 for the modulus and for the division
pub lookup_numbers : (lookup_number eight 2 2 4 288 192 4 ≡ 0) × (lookup_number (numbers 0 3 8 2 2 3) 3 9 9 9 9 9 ≡ 1) × (lookup_number eight 2 1 4 288 192 4 ≡ 2) × (lookup_number eight 2 2 5 288 192 4 ≡ 2)
    × (lookup_number eight 2 2 4 289 192 4 ≡ 2) × (lookup_number eight 2 2 4 288 191 4 ≡ 2) × (lookup_number eight 2 2 4 288 192 3 ≡ 2) × (lookup_number eight 6 5 4 288 192 4 ≡ 2)
    × (lookup_number eight 6 6 4 288 192 4 ≡ 5) × (lookup_number eight 16 16 4 288 192 4 ≡ 5) × (lookup_number eight 6 6 5 288 192 4 ≡ 2) × (lookup_number eight 6 6 4 289 192 4 ≡ 2)
    × (lookup_number eight 6 6 4 288 191 4 ≡ 2) × (lookup_number eight 6 6 4 288 192 5 ≡ 2)
unfolding lookup_number params_number is_table is_modulus
lookup_numbers = (refl, refl, refl, refl, refl, refl, refl, refl, refl, refl, refl, refl, refl, refl)
