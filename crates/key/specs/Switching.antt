-- The layout of the switching key, and what its rows carry (01, key, as 02, 2026-06, changes it: no row stands for k = 0; `gen_key_switching_key` of src/key.rs).
use Rattle.std.specs.Prelude.{Result, List, [], ◌∷◌, ℕ, ◌+◌, ◌*◌, ◌-◌, ◌%◌, ◌^◌}
use Rattle.ring.specs.Word.{Q, at, neg}
use Rattle.ring.specs.Lists.{part}
use Rattle.ring.specs.Phase.{phase_of}
use Rattle.params.specs.declared.Params.{Params}
use Rattle.params.specs.declared.refusal.Refusal.{Refusal}
use Rattle.params.specs.Refusal.{answer, given}
use Rattle.params.specs.Sizes.{size, base, switching_words}
use Rattle.refusals.specs.Table.{Check, is, below, refusal_by}

-- The place of row (i, j, k) among the rows: for i below N, j below T, k from 1 to BASE - 1.
unfoldable pub row_index : Params → ℕ → ℕ → ℕ → ℕ
row_index p i j k = (base p - 1) * (p.t * i + j) + (k - 1)

-- Row (i, j, k) of a key: its n + 1 words.
unfoldable pub row_part : Params → List ℕ → ℕ → ℕ → ℕ → List ℕ
row_part p key i j k = part (p.n + 1) (row_index p i j k * (p.n + 1)) key

-- What row (i, j, k) should carry, z being the level-1 key: k·z_i·2^(32-(j+1)·BASEBIT) (01, key and Drift).
unfoldable pub carried : Params → List ℕ → ℕ → ℕ → ℕ → ℕ
carried p z i j k = k * at z i * 2 ^ (32 - (j + 1) * p.basebit) % Q

-- The error of row (i, j, k) of a key, as a word: its phase under the level-0 key, less what it should carry (01, Drift; there centred).
unfoldable pub switching_row_error : Params → List ℕ → List ℕ → List ℕ → ℕ → ℕ → ℕ → ℕ
switching_row_error p key z rows i j k = (phase_of p.n key (row_part p rows i j k) + neg (carried p z i j k)) % Q

-- A lookup of row (i, j, k) in a key of so many words: its length, then each index in turn, k from both sides.
abbrev pub lookup_checks : Params → ℕ → ℕ → ℕ → ℕ → List Check
lookup_checks p len i j k =
    is len (switching_words p) 2
    ∷ below i (size p) 3
    ∷ below j p.t 3
    ∷ below 0 k 3
    ∷ below k (base p) 3
    ∷ []

-- Its refusal: 1, 2, 3 or 0.
unfoldable pub lookup_number : Params → ℕ → ℕ → ℕ → ℕ → ℕ
lookup_number p len i j k = refusal_by p (lookup_checks p len i j k)

-- What `row_index` hands back: the refusal of a lookup in a key of its stated length, or the row's place.
unfoldable pub place_out : Params → ℕ → ℕ → ℕ → Result ℕ Refusal
place_out p i j k = given (answer (lookup_number p (switching_words p) i j k)) (row_index p i j k)
