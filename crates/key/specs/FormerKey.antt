-- The switching key as it was generated before 02, 2026-06 (01, key; `gen_key_switching_key` of src/key.rs): the rows with k = 0 are zero and draw no mask and no noise.
-- No routine reads it: it is there for the law that today's key is this one without its idle rows (`idle_left_out`, in calls `generation_leaves_out` and `dropping_generates`).
use Rattle.std.specs.Prelude.{cond, List, [], ◌∷◌, ◌++◌, ℕ, ◌+◌, ◌*◌, ◌-◌, ◌/◌, ◌%◌, eqb}
use Rattle.ring.specs.Word.{Q, at}
use Rattle.ring.specs.Sums.{tab}
use Rattle.ring.specs.Lists.{part, joined}
use Rattle.ring.specs.Phase.{inner}
use Rattle.params.specs.declared.Params.{Params}
use Rattle.params.specs.Sizes.{size, base}
use Rattle.key.specs.Switching.{carried}

-- The number of row (i, j, k), k from 1, among the rows that draw: they draw in row order.
unfoldable pub former_drawn : Params → ℕ → ℕ → ℕ → ℕ
former_drawn p i j k = (i * p.t + j) * (base p - 1) + (k - 1)

-- Its masks.
unfoldable pub former_masks : Params → List ℕ → ℕ → ℕ → ℕ → List ℕ
former_masks p masks i j k = part p.n (former_drawn p i j k * p.n) masks

-- Row (i, j, k): zero for k = 0; else its masks, and last their sum under the level-0 key + what the row carries + its noise word.
unfoldable pub former_made : Params → List ℕ → List ℕ → List ℕ → List ℕ → ℕ → ℕ → ℕ → List ℕ
former_made p key z masks noise i j k =
    cond (eqb k 0) (tab (p.n + 1) (λ x. 0))
    (former_masks p masks i j k ++ ((inner p.n key (former_masks p masks i j k) + carried p z i j k + at noise (former_drawn p i j k)) % Q ∷ []))

-- The whole key: row number r is row (i, j, k) of i = r div BASE div T, j = r div BASE mod T, k = r mod BASE.
unfoldable pub former_key : Params → List ℕ → List ℕ → List ℕ → List ℕ → List ℕ
former_key p key z masks noise = joined (size p * p.t * base p) (λ r. former_made p key z masks noise (r / base p / p.t) (r / base p % p.t) (r % base p))
