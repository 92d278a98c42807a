-- What only proofs and private contracts of this crate need: a row as the code makes it, what m·H adds being one word in a and one in b.
use Rattle.std.specs.Prelude.{cond, List, [], ◌∷◌, ℕ, ◌-◌, ◌*◌, ltb}
use Rattle.ring.specs.Poly.{plus, times, scale}
use Rattle.params.specs.declared.Params.{Params}
use Rattle.params.specs.Sizes.{size}
use Rattle.decomposition.specs.Digit.{digit_weight}

-- What row r of an encryption of the word m has added to a[0]: m·g_r for r below L, nothing from L on.
unfoldable pub mask_message : Params → ℕ → ℕ → ℕ
mask_message p m r = cond (ltb r p.l) (m * digit_weight p r) 0

-- What it has added to b[0]: nothing for r below L, m·g_i for row L + i.
unfoldable pub body_message : Params → ℕ → ℕ → ℕ
body_message p m r = cond (ltb r p.l) 0 (m * digit_weight p (r - p.l))

-- The a of row r.
unfoldable pub row_mask : Params → ℕ → ℕ → List ℕ → List ℕ
row_mask p m r masks = plus (size p) masks (scale (size p) (mask_message p m r) (1 ∷ []))

-- Its b.
unfoldable pub row_body : Params → ℕ → ℕ → List ℕ → List ℕ → List ℕ → List ℕ
row_body p m r z masks noise = plus (size p) (plus (size p) noise (times (size p) masks z)) (scale (size p) (body_message p m r) (1 ∷ []))
