-- The layout of the bootstrapping key: one part for each bit of the level-0 key (01, key).
use Rattle.std.specs.Prelude.{List, [], ◌∷◌, ℕ, ◌*◌}
use Rattle.ring.specs.Lists.{part}
use Rattle.params.specs.declared.Params.{Params}
use Rattle.params.specs.Sizes.{bit_words, bootstrapping_words}
use Rattle.refusals.specs.Table.{Check, is, below, refusal_by}

-- The rows of key bit i in the bootstrapping key (01, key: per level-0 key bit, 2L rows).
unfoldable pub bit_rows : Params → List ℕ → ℕ → List ℕ
bit_rows p key i = part (bit_words p) (i * bit_words p) key

-- A lookup of bit i's rows in a key of so many words: its length, then the index (01: 'a key row's index outside its range').
abbrev pub bit_rows_checks : Params → ℕ → ℕ → List Check
bit_rows_checks p len i =
    is len (bootstrapping_words p) 2
    ∷ below i p.n 3
    ∷ []

-- Its refusal: 1, 2, 3 or 0.
unfoldable pub bit_rows_number : Params → ℕ → ℕ → ℕ
bit_rows_number p len i = refusal_by p (bit_rows_checks p len i)
