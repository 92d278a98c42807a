-- A generated switching key, row by row: row (i, j, k) of the whole is the row that was made, and its error, in the sense of 01's Drift, is its noise word. The masks' sum under the key and what the row carries fall out of its phase.
-- Assumes nothing.
use mathlib.Core.Path.{◌≡◌, ap, ◌∙◌}
use mathlib.Core.List.{List, [], ◌∷◌, ◌++◌}
use Prim.Native.Nat.{ℕ, ◌+◌, ◌%◌, ◌≤◌, ◌<◌}
use native.Mathlib.Nat.{add_assoc}
use native.Mathlib.Omega.{arith}
use lib.ListN.{length}
use Rattle.ring.specs.Word.{Q, at, neg}
use Rattle.ring.specs.Phase.{inner, phase_of}
use Rattle.ring.proofs.Extract.{phase_row}
use Rattle.params.specs.declared.Params.{Params}
use Rattle.params.specs.Sizes.{size, base, switching_rows}
use Rattle.key.specs.Switching.{row_index, row_part, carried, switching_row_error}
use Rattle.key.specs.Generation.{row_masks, generated_row, generated}
use Rattle.key.specs.Private.{Lent}
use Rattle.key.proofs.Places.{row_below, outer_back, field_back, digit_back}
use Rattle.key.proofs.Draws.{length-masks, length_row}
use Rattle.ring.proofs.Joins.{joined-part}

-- a term taken off again
less : (x y : ℕ) → ((x + y) % Q + neg x) % Q ≡ y % Q
unfolding neg Q
less x y = omega arith

-- what is added to the masks' sum is the phase, and less w it is what is added to w
pub added : (n : ℕ) (key m : List ℕ) (w e : ℕ) → (((inner n key m + w + e) % Q + neg (inner n key m)) % Q + neg w) % Q ≡ e % Q
added n key m w e =
    ap (λ (x : ℕ). ((x % Q + neg (inner n key m)) % Q + neg w) % Q) (add_assoc (inner n key m) w e)
    ∙ ap (λ (x : ℕ). (x + neg w) % Q) (less (inner n key m) (w + e)) ∙ less w e

module _ (p : Params) (key z masks noise : List ℕ) (lent : Lent p (length key) (length z) (length masks) (length noise)) where
  -- every row has n + 1 words
  lengths : (r : ℕ) → r < switching_rows p → length (generated_row p key z masks noise r) ≡ p.n + 1
  lengths r h = length_row p r h masks lent.masks_length key z noise

  module _ (i j k : ℕ) (hi : i < size p) (hj : j < p.t) (from : 1 ≤ k) (hk : k < base p) where
    -- row (i, j, k) of the whole
    pub row_is : row_part p (generated p key z masks noise) i j k ≡ generated_row p key z masks noise (row_index p i j k)
    unfolding row_part generated
    row_is = joined-part (p.n + 1) (generated_row p key z masks noise) (switching_rows p) lengths (row_index p i j k) (row_below p i j k hj from hk hi)

    -- its error is its noise word
    pub error_noise : switching_row_error p key z (generated p key z masks noise) i j k ≡ at noise (row_index p i j k) % Q
    unfolding switching_row_error generated_row
    error_noise =
        let r = row_index p i j k in
        let m = row_masks p masks r in
        let b = (inner p.n key m + carried p z i j k + at noise r) % Q in
        let row : row_part p (generated p key z masks noise) i j k ≡ m ++ (b ∷ []) =
        row_is ∙ rw (outer_back p i j k hj from hk, field_back p i j k hj from hk, digit_back p i j k hj from hk)
        in
        ap (λ (x : List ℕ). (phase_of p.n key x + neg (carried p z i j k)) % Q) row
        ∙ ap (λ (x : ℕ). (x + neg (carried p z i j k)) % Q) (phase_row p.n key m b (length-masks p r (row_below p i j k hj from hk hi) masks lent.masks_length))
        ∙ added p.n key m (carried p z i j k) (at noise r)
