-- Key switching (01, trgsw, `identity_key_switching`; TFHE paper, Algorithm 2): a sample under the level-1 key becomes one under the level-0 key.
use Rattle.std.specs.Prelude.{List, [], ◌∷◌, cond, ℕ, ◌+◌, ◌*◌, ◌-◌, ◌%◌, ◌^◌, eqb}
use Rattle.params.specs.declared.Params.{Params}
use Rattle.params.specs.Sizes.{size, switching_words}
use Rattle.refusals.specs.Table.{Check, is, refusal_by}
use Rattle.ring.specs.Word.{Q, at, field_of}
use Rattle.ring.specs.Poly.{minus, total}
use Rattle.ring.specs.Phase.{trivial}
use Rattle.key.specs.Switching.{row_part}

-- The sample has N + 1 words, the key its rows of n + 1 words, and out n + 1 (01, 'Refusal numbers').
abbrev pub switch_checks : Params → ℕ → ℕ → ℕ → List Check
switch_checks p ls lk lo =
    is ls (size p + 1) 2
    ∷ is lk (switching_words p) 2
    ∷ is lo (p.n + 1) 2
    ∷ []

-- The refusal: 1, 2 or 0.
unfoldable pub switch_number : Params → ℕ → ℕ → ℕ → ℕ
switch_number p ls lk lo = refusal_by p (switch_checks p ls lk lo)

-- 2^(31-BASEBIT·T): half of what the last field counts.
unfoldable pub rounding : Params → ℕ
rounding p = 2 ^ (31 - p.basebit * p.t)

-- A mask with its rounding, wrapping.
unfoldable pub rounded : Params → ℕ → ℕ
rounded p a = (a + rounding p) % Q

-- Field j of mask i of a sample, its rounding added: the k of the row that it uses.
unfoldable pub mask_field : Params → List ℕ → ℕ → ℕ → ℕ
mask_field p src i j = field_of (rounded p (at src i)) p.basebit j

-- The row that field j of mask i uses, the field being k: row (i, j, k), and for k = 0 none.
unfoldable pub used_row : Params → List ℕ → ℕ → ℕ → ℕ → List ℕ
used_row p key i j k = cond (eqb k 0) [] (row_part p key i j k)

-- The sum of the rows that mask i uses.
unfoldable pub mask_rows : Params → List ℕ → List ℕ → ℕ → List ℕ
mask_rows p key src i = total (p.n + 1) p.t (λ j. used_row p key i j (mask_field p src i j))

-- The switched sample: the trivial sample (0, b) of src's last word b, less the sum of the rows used.
unfoldable pub switched : Params → List ℕ → List ℕ → List ℕ
switched p key src = minus (p.n + 1) (trivial p.n (at src (size p))) (total (p.n + 1) (size p) (mask_rows p key src))
