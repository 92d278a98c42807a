-- The generated switching key is, word for word, the one that was generated before 02, 2026-06, without its idle rows, from the same masks and noise. Row by row: former row (i, j, k),
-- k from 1, stands where the former layout has it, and the number by which it drew is its place today.
-- Assumes nothing.
use mathlib.Core.Path.{◌≡◌, refl, ◌∙◌}
use mathlib.Core.Bool.{Bool, true, false, cond}
use mathlib.Core.List.{List, [], ◌∷◌, ◌++◌}
use Prim.Native.Nat.{ℕ, ◌+◌, ◌*◌, ◌/◌, ◌%◌, ◌<◌}
use native.Mathlib.Nat.{mod-lt}
use native.Mathlib.Omega.{arith}
use borrow.Author.Tests.{ne_eqb, eqb-false}
use lib.Dec.{eqb}
use lib.ListN.{length, length-append}
use Rattle.ring.specs.Word.{Q, at}
use Rattle.ring.specs.Phase.{inner}
use Rattle.ring.specs.Sums.{tab}
use Rattle.ring.proofs.Tab.{length-tab}
use Rattle.ring.proofs.Parts.{part_length}
use Rattle.ring.proofs.Joins.{joined-part, joined_alike}
use Rattle.params.specs.declared.Params.{Params}
use Rattle.params.specs.Sizes.{size, base, switching_rows}
use Rattle.params.proofs.Ranges.{base_from}
use Rattle.key.specs.Switching.{row_index, carried}
use Rattle.key.specs.Generation.{row_outer, row_field, row_digit, row_masks, generated_row, generated}
use Rattle.key.specs.Former.{former_index, former_row, without_idle}
use Rattle.key.specs.FormerKey.{former_drawn, former_masks, former_made, former_key}
use Rattle.key.specs.Private.{Lent}
use Rattle.key.proofs.Mixed.{first_of, second_of, third_of, first_below}
use Rattle.key.proofs.Places.{row_below, outer_below, field_below, digit_from, digit_below, number_back}
use Rattle.key.proofs.Rows.{row_ends}
use Rattle.key.proofs.IdleRows.{as_made, former_below}

-- the number by which a row drew is its place today
drawn_place : (p : Params) (i j k : ℕ) → former_drawn p i j k ≡ row_index p i j k
unfolding former_drawn row_index
drawn_place p i j k = omega arith

module _ (p : Params) (key z masks noise : List ℕ) (lent : Lent p (length key) (length z) (length masks) (length noise)) where
  abbrev made : ℕ → List ℕ
  made r = former_made p key z masks noise (r / base p / p.t) (r / base p % p.t) (r % base p)

  -- every former row had n + 1 words
  made_length : (i j k : ℕ) → i < size p → j < p.t → k < base p → length (former_made p key z masks noise i j k) ≡ p.n + 1
  unfolding former_made former_masks
  made_length i j k hi hj hk = go (eqb k 0) refl
    where
      go : (b : Bool) → eqb k 0 ≡ b → length (cond b (tab (p.n + 1) (λ x. 0)) (former_masks p masks i j k ++ ((inner p.n key (former_masks p masks i j k) + carried p z i j k + at noise (former_drawn p i j k)) % Q ∷ []))) ≡ p.n + 1
      go true q = length-tab (p.n + 1) (λ x. 0)
      go false q =
          let h = eqb-false k 0 q in
          let below : former_drawn p i j k < switching_rows p = rw (drawn_place p i j k) (row_below p i j k hj (omega arith) hk hi) in
          let l = part_length masks (former_drawn p i j k * p.n) p.n (rw lent.masks_length (row_ends (former_drawn p i j k) (switching_rows p) p.n below)) in
          simp length-append (omega arith)

  lengths : (r : ℕ) → r < size p * p.t * base p → length (made r) ≡ p.n + 1
  lengths r h =
      let from = lent.range.t_from in
      made_length _ _ _ (first_below (base p) p.t (size p) r (base_from p) from h) (mod-lt (r / base p) from) (mod-lt r (base_from p))

  -- row (i, j, k) of the former key is the row that was made for it
  row_was : (i j k : ℕ) → i < size p → j < p.t → k < base p → former_row p (former_key p key z masks noise) i j k ≡ former_made p key z masks noise i j k
  unfolding former_row former_key
  row_was i j k hi hj hk =
      joined-part (p.n + 1) made (size p * p.t * base p) lengths (former_index p i j k) (former_below p i j k hi hj hk)
      ∙ rw (as_made p i j k, first_of (base p) p.t i j k hj hk, second_of (base p) p.t i j k hj hk, third_of (base p) p.t i j k hj hk)

  drew : (r : ℕ) → r < switching_rows p → former_made p key z masks noise (row_outer p r) (row_field p r) (row_digit p r) ≡ generated_row p key z masks noise r
  unfolding former_made former_masks generated_row row_masks
  drew r h =
      let e = drawn_place p (row_outer p r) (row_field p r) (row_digit p r) ∙ number_back p lent.range r in
      let from = digit_from p lent.range r in
      rw (ne_eqb (row_digit p r) 0 (λ q. omega arith), e)

  -- today's key is the former key without its idle rows
  pub idle_left_out : without_idle p (former_key p key z masks noise) ≡ generated p key z masks noise
  unfolding without_idle generated
  idle_left_out =
      joined_alike (switching_rows p) _ _ (λ r h.
      row_was (row_outer p r) (row_field p r) (row_digit p r) (outer_below p lent.range r h) (field_below p lent.range r) (digit_below p lent.range r) ∙ drew r h)
