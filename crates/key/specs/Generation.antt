-- The switching key as it is generated from lent masks and noise (01, key; `gen_key_switching_key` of src/key.rs).
use Rattle.std.specs.Prelude.{List, [], ◌∷◌, ◌++◌, ℕ, ◌+◌, ◌*◌, ◌-◌, ◌/◌, ◌%◌, length}
use Rattle.ring.specs.Word.{Q, at}
use Rattle.ring.specs.Phase.{inner}
use Rattle.params.specs.declared.Params.{Params}
use Rattle.params.specs.Sizes.{size, base, switching_rows, switching_words}
use Rattle.refusals.specs.Table.{Check, is, holds, refusal_by}
use Rattle.tlwe.specs.Key.{binary}
use Rattle.key.specs.Switching.{carried}
use Rattle.ring.specs.Lists.{part, joined}

-- Row number r is row (i, j, k): its i. These three undo `row_index` (`outer_back`, `field_back`, `digit_back`, and the other way `number_back`, in proofs/Places.antt).
unfoldable pub row_outer : Params → ℕ → ℕ
row_outer p r = r / (base p - 1) / p.t

-- Its j.
unfoldable pub row_field : Params → ℕ → ℕ
row_field p r = r / (base p - 1) % p.t

-- Its k.
unfoldable pub row_digit : Params → ℕ → ℕ
row_digit p r = r % (base p - 1) + 1

-- The masks of row number r: masks and noise are drawn row by row.
unfoldable pub row_masks : Params → List ℕ → ℕ → List ℕ
row_masks p masks r = part p.n (r * p.n) masks

-- Row number r: its masks, and last their sum under the level-0 key + what the row carries + its noise word (01, tlwe).
unfoldable pub generated_row : Params → List ℕ → List ℕ → List ℕ → List ℕ → ℕ → List ℕ
generated_row p key z masks noise r =
    row_masks p masks r ++ ((inner p.n key (row_masks p masks r) + carried p z (row_outer p r) (row_field p r) (row_digit p r) + at noise r) % Q ∷ [])

-- The switching key: its rows by their numbers, one after another.
unfoldable pub generated : Params → List ℕ → List ℕ → List ℕ → List ℕ → List ℕ
generated p key z masks noise = joined (switching_rows p) (generated_row p key z masks noise)

-- Generation under the level-0 key and the level-1 key z, with so many masks, noise words and words of the switching key: each slice, then each key.
abbrev pub generate_checks : Params → List ℕ → List ℕ → ℕ → ℕ → ℕ → List Check
generate_checks p key z masks noise out =
    is (length key) p.n 2
    ∷ is (length z) (size p) 2
    ∷ is masks (switching_rows p * p.n) 2
    ∷ is noise (switching_rows p) 2
    ∷ is out (switching_words p) 2
    ∷ holds (binary key) 4
    ∷ holds (binary z) 4
    ∷ []

-- Its refusal: 1, 2, 4 or 0.
unfoldable pub generate_number : Params → List ℕ → List ℕ → ℕ → ℕ → ℕ → ℕ
generate_number p key z masks noise out = refusal_by p (generate_checks p key z masks noise out)
