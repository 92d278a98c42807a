-- What the turns of a rotation tell (01, Drift), as words: the place that they bring to the front, and what rounding brings in. key is the level-0 secret key and src the
-- ciphertext that the rotation goes by.
use Rattle.std.specs.Prelude.{List, ℕ}
use Rattle.ring.specs.Turn.{source}
use Rattle.ring.specs.Centre.{word_of}
use Rattle.params.specs.declared.Params.{Params}
use Rattle.params.specs.Sizes.{size}
use Rattle.blind_rotation.specs.Drift.{turn_to}
use Rattle.drift.specs.Whole.{rounding_drift}

-- The place, below 2N, from which the turns by b's amount and by the amounts of the masks at the ones of the key fill place 0 (01, trgsw: 'Rounding', and Drift, 'Step i').
unfoldable pub front_place : Params → List ℕ → List ℕ → ℕ
front_place p key src = source (size p) (turn_to p key src p.n) 0

-- What rounding brings in, as a word.
unfoldable pub front_rounding : Params → List ℕ → List ℕ → ℕ
front_rounding p key src = word_of (rounding_drift p key src)
