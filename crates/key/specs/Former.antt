-- The layout of the switching key before 02, 2026-06, for those who hold such a key: BASE rows for each field, the first of them, k = 0, idle. Of the routines `drop_idle_rows` alone reads it; beside it the laws
-- on former keys do, and computed cases whose numbers were found in that layout.
use Rattle.std.specs.Prelude.{List, [], ◌∷◌, ℕ, ◌+◌, ◌*◌}
use Rattle.ring.specs.Lists.{part, joined}
use Rattle.params.specs.declared.Params.{Params}
use Rattle.params.specs.Sizes.{size, base, switching_rows, switching_words}
use Rattle.refusals.specs.Table.{Check, is, refusal_by}
use Rattle.key.specs.Generation.{row_outer, row_field, row_digit}

-- Its words: n + 1 for each of its N·T·BASE rows.
abbrev pub former_words : Params → ℕ
former_words p = size p * p.t * base p * (p.n + 1)

-- The place of row (i, j, k) among its rows: for i below N, j below T, k below BASE.
unfoldable pub former_index : Params → ℕ → ℕ → ℕ → ℕ
former_index p i j k = base p * p.t * i + base p * j + k

-- Row (i, j, k) of a former key: its n + 1 words.
unfoldable pub former_row : Params → List ℕ → ℕ → ℕ → ℕ → List ℕ
former_row p former i j k = part (p.n + 1) (former_index p i j k * (p.n + 1)) former

-- A former key without its idle rows: in the place of row (i, j, k), k from 1, that row of it.
unfoldable pub without_idle : Params → List ℕ → List ℕ
without_idle p former = joined (switching_rows p) (λ r. former_row p former (row_outer p r) (row_field p r) (row_digit p r))

-- The dropping of a former key's idle rows, with so many words of it and of the slice that is written: both lengths.
abbrev pub drop_checks : Params → ℕ → ℕ → List Check
drop_checks p former out =
    is former (former_words p) 2
    ∷ is out (switching_words p) 2
    ∷ []

-- Its refusal: 1, 2 or 0.
unfoldable pub drop_number : Params → ℕ → ℕ → ℕ
drop_number p former out = refusal_by p (drop_checks p former out)
