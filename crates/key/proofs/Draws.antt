-- The rows as they are generated: row number r takes masks and noise of its number, which lie within those lent, and is as long as it should be; and what the code reckons on
-- the way to it. Products of bounds, and products modulo Q by their factors.
-- Assumes nothing.
use mathlib.Core.Path.{◌≡◌, refl, ap, ◌∙◌}
use Rattle.std.proofs.Common.{slice_set}
use mathlib.Core.List.{List, [], ◌∷◌, ◌++◌}
use Prim.Native.Nat.{ℕ, ◌+◌, ◌*◌, ◌-◌, ◌%◌, ◌^◌, ◌≤◌, ◌<◌}
use native.Mathlib.Omega.{arith}
use lib.ListN.{length, take, drop, length-append}
use native.Mathlib.Nat.{mul-le-mul_right}
use Rattle.params.specs.Ranges.{InRange}
use Rattle.params.proofs.Ranges.{t_to}
use Rattle.key.proofs.Places.{field_below}
use Rattle.ring.specs.Word.{Q, at}
use Rattle.ring.specs.Phase.{inner}
use Rattle.ring.proofs.Words.{mul-mod_l, mul-mod_r}
use Rattle.ring.proofs.Parts.{part_length, slice_part}
use Rattle.params.specs.declared.Params.{Params}
use Rattle.params.specs.Sizes.{switching_rows}
use Rattle.key.specs.Switching.{carried}
use Rattle.key.specs.Generation.{row_outer, row_field, row_digit, row_masks, generated_row}
use Rattle.key.proofs.Rows.{row_ends}

module _ (p : Params) (r : ℕ) (h : r < switching_rows p) (masks : List ℕ) (e : length masks ≡ switching_rows p * p.n) where
  pub length-masks : length (row_masks p masks r) ≡ p.n
  unfolding row_masks
  length-masks = part_length masks (r * p.n) p.n (rw e (row_ends r (switching_rows p) p.n h))

  -- a row has n + 1 words
  pub length_row : (key z noise : List ℕ) → length (generated_row p key z masks noise r) ≡ p.n + 1
  unfolding generated_row
  length_row key z noise = simp length-append (let l = length-masks in omega arith)

-- ---- the code's numbers on the way to a row

-- a field's number and its end in a word
pub field_fits : (p : Params) (r : ℕ) → InRange p → (row_field p r < 32) × (p.basebit ≤ 6) × ((row_field p r + 1) * p.basebit ≤ 32)
field_fits p r range = let j = field_below p range r in let m = mul-le-mul_right p.basebit j in (omega (arith, t_to p range, j), range.basebit_to, omega (arith, m, range.fields_to))

-- the row that stands in the masks from r · n on
pub row_code : (p : Params) (key z masks noise : List ℕ) (r w : ℕ) → length key ≡ p.n → w ≡ carried p z (row_outer p r) (row_field p r) (row_digit p r)
    → take (r * p.n + p.n - r * p.n) (drop (r * p.n) masks) ++ ((inner (length key) key (take (r * p.n + p.n - r * p.n) (drop (r * p.n) masks)) + w + at noise r) % Q ∷ [])
    ≡ generated_row p key z masks noise r
unfolding generated_row row_masks
row_code p key z masks noise r w el ew = rw (slice_part masks (r * p.n) p.n, el, ew)

-- ---- what a row carries, as the code reckons it

pub carried_code : (k z e : ℕ) {a b c : ℕ} → a ≡ k * z % Q → b ≡ 2 ^ e % Q → c ≡ a * b % Q → c ≡ k * z * 2 ^ e % Q
carried_code k z e {a} {b} {c} ea eb ec =
    ec ∙ ap (λ (x : ℕ). x * b % Q) ea ∙ mul-mod_l (k * z) b ∙ ap (λ (x : ℕ). k * z * x % Q) eb ∙ mul-mod_r (k * z) (2 ^ e)

-- a list of one word, once that is written
pub last_set : (l : List ℕ) (b : ℕ) → length l ≡ 1 → slice_set l 0 b ≡ b ∷ []
last_set [] b e = absurd (let q : ⊥ = omega arith in q)
last_set (x ∷ []) b e = refl
last_set (x ∷ y ∷ l) b e = absurd (let q : ⊥ = omega arith in q)

-- the last word, as the code reckons it
pub body_code : (a w n : ℕ) {s x y : ℕ} → s ≡ a % Q → x ≡ (s + w) % Q → y ≡ (x + n) % Q → y ≡ (a + w + n) % Q
unfolding Q
body_code a w n es ex ey = omega arith
