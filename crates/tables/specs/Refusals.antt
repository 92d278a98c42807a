-- The refusals of tables: 1; 2 for each length, a table's being its modulus whatever that is; 5 (01, 'Refusal numbers'; 02, 2026-07: '5 also when 2M does not divide N'). What the lent slices hold afterwards.
use Rattle.std.specs.Prelude.{List, [], ◌∷◌, ℕ, ◌+◌, length}
use Rattle.ring.specs.Pair.{Pair}
use Rattle.params.specs.declared.Params.{Params}
use Rattle.params.specs.Refusal.{if_done}
use Rattle.params.specs.Sizes.{size, switching_words, bootstrapping_words}
use Rattle.refusals.specs.Table.{Check, is, holds, refusal_by}
use Rattle.tables.specs.Table.{is_table, table_pair, looked_up}

-- A test vector: a table of lf words for the modulus m, and the vector's la and lb words.
abbrev pub vector_checks : Params → ℕ → ℕ → ℕ → ℕ → List Check
vector_checks p m lf la lb =
    is lf m 2
    ∷ is la (size p) 2
    ∷ is lb (size p) 2
    ∷ holds (is_table (size p) m) 5
    ∷ []

-- Its number.
unfoldable pub table_number : Params → ℕ → ℕ → ℕ → ℕ → ℕ
table_number p m lf la lb = refusal_by p (vector_checks p m lf la lb)

-- What `table_testvec` leaves in the pair of lent slices, which held o.
abbrev pub table_out : Params → ℕ → List ℕ → Pair → Pair
table_out p m f o = if_done (table_number p m (length f) (length o.a) (length o.b)) (table_pair p m f) o

-- A lookup: a table of lf words, the message's ciphertext of lc, the switching key of lk and the bootstrapping key of ls words, the result of lo.
abbrev pub lookup_checks : Params → ℕ → ℕ → ℕ → ℕ → ℕ → ℕ → List Check
lookup_checks p m lf lc lk ls lo =
    is lf m 2
    ∷ is lc (p.n + 1) 2
    ∷ is lk (switching_words p) 2
    ∷ is ls (bootstrapping_words p) 2
    ∷ is lo (p.n + 1) 2
    ∷ holds (is_table (size p) m) 5
    ∷ []

-- Its number.
unfoldable pub lookup_number : Params → ℕ → ℕ → ℕ → ℕ → ℕ → ℕ → ℕ
lookup_number p m lf lc lk ls lo = refusal_by p (lookup_checks p m lf lc lk ls lo)

-- What `lookup` leaves in out, which held o.
abbrev pub lookup_out : Params → ℕ → List ℕ → List ℕ → List ℕ → List ℕ → List ℕ → List ℕ
lookup_out p m f c ksk bsk o = if_done (lookup_number p m (length f) (length c) (length ksk) (length bsk) (length o)) (looked_up p m f ksk bsk c) o
