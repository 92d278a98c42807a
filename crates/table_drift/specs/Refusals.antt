-- The refusals of a lookup with its drifts (01, 'Refusal numbers'): 1; 2 for each length, the table's being its modulus whatever that is; 4 for each secret key; 5 for the table's modulus and for the
-- results'. What the lent slices hold afterwards, and what is told.
use Rattle.std.specs.Prelude.{Bool, false, List, [], ◌∷◌, ℕ, ◌+◌, length}
use Rattle.ring.specs.Centre.{word_of}
use Rattle.params.specs.declared.Params.{Params}
use Rattle.params.specs.Refusal.{if_done}
use Rattle.params.specs.Sizes.{size, switching_words, bootstrapping_words}
use Rattle.refusals.specs.Table.{Check, is, holds, refusal_by}
use Rattle.tlwe.specs.Key.{binary}
use Rattle.tlwe.specs.Plain.{is_modulus}
use Rattle.tables.specs.Table.{is_table, looked_up}
use Rattle.table_drift.specs.Lookup.{message_brought, lookup_drift, both_inside}

-- A table of lf words for the modulus m, the results' modulus, the switching key of lk and the bootstrapping key of ls words, both secret keys, the message's ciphertext of lc words, the result of lo and
-- the drifts of ld, which are two.
abbrev pub lookup_drift_checks : Params → ℕ → ℕ → ℕ → ℕ → ℕ → List ℕ → List ℕ → ℕ → ℕ → ℕ → List Check
lookup_drift_checks p m lf results lk ls key z lc lo ld =
    is lf m 2
    ∷ is lk (switching_words p) 2
    ∷ is ls (bootstrapping_words p) 2
    ∷ is (length key) p.n 2
    ∷ is (length z) (size p) 2
    ∷ is lc (p.n + 1) 2
    ∷ is lo (p.n + 1) 2
    ∷ is ld 2 2
    ∷ holds (binary key) 4
    ∷ holds (binary z) 4
    ∷ holds (is_table (size p) m) 5
    ∷ holds (is_modulus results) 5
    ∷ []

-- Its number.
unfoldable pub lookup_drift_number : Params → ℕ → ℕ → ℕ → ℕ → ℕ → List ℕ → List ℕ → ℕ → ℕ → ℕ → ℕ
lookup_drift_number p m lf results lk ls key z lc lo ld = refusal_by p (lookup_drift_checks p m lf results lk ls key z lc lo ld)

-- The number of a call that is lent these.
abbrev pub called_number : Params → ℕ → List ℕ → ℕ → List ℕ → List ℕ → List ℕ → List ℕ → List ℕ → List ℕ → List ℕ → ℕ
called_number p m f results ksk bsk key z c o d = lookup_drift_number p m (length f) results (length ksk) (length bsk) key z (length c) (length o) (length d)

-- Are both drifts inside? False where the call is refused.
unfoldable pub told_inside : Params → ℕ → List ℕ → ℕ → ℕ → List ℕ → List ℕ → List ℕ → List ℕ → List ℕ → List ℕ → List ℕ → Bool
told_inside p m f results v ksk bsk key z c o d = if_done (called_number p m f results ksk bsk key z c o d) (both_inside p key z ksk bsk m f results v c) false

-- What out holds, which held o: the lookup.
unfoldable pub result_after : Params → ℕ → List ℕ → ℕ → List ℕ → List ℕ → List ℕ → List ℕ → List ℕ → List ℕ → List ℕ → List ℕ
result_after p m f results ksk bsk key z c o d = if_done (called_number p m f results ksk bsk key z c o d) (looked_up p m f ksk bsk c) o

-- What the drifts' slice holds, which held d: what is brought in, then the result's drift, as words.
unfoldable pub drifts_after : Params → ℕ → List ℕ → ℕ → ℕ → List ℕ → List ℕ → List ℕ → List ℕ → List ℕ → List ℕ → List ℕ → List ℕ
drifts_after p m f results v ksk bsk key z c o d =
    if_done (called_number p m f results ksk bsk key z c o d) (word_of (message_brought p key c v m) ∷ word_of (lookup_drift p key z ksk bsk m f c) ∷ []) d
