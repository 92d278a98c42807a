-- Parts of a list, their lengths and words; and that the slice `&l[s..s + m]`, as the check writes it down, is a part. Words are told by `get_or`, parts of parts
-- word by word.
-- Assumes nothing.
use Rattle.std.proofs.Common.{◌≡◌, ℕ, ◌+◌, ◌-◌, ◌<◌, ◌≤◌, List, length, take, drop, sym, ap, ◌∙◌, arith, length-drop, length-take-le, get_or-drop, get_or-take}
use native.Mathlib.Nat.{add-sub_cancel_left}
use Rattle.ring.specs.Word.{at}
use Rattle.ring.specs.Lists.{part}
use Rattle.ring.proofs.Tab.{tab_of}

module _ (l : List ℕ) (s m : ℕ) where
  -- m words from place s on are m words
  pub part_length : s + m ≤ length l → length (part m s l) ≡ m
  unfolding part
  part_length h = length-take-le m (drop s l) (rw (length-drop s l) (omega arith))

  pub part_at : (i : ℕ) → i < m → at (part m s l) i ≡ at l (s + i)
  unfolding part
  part_at i h = get_or-take m (drop s l) i 0 h ∙ get_or-drop s l i 0

  -- the slice from s to s + m
  pub slice_part : take (s + m - s) (drop s l) ≡ part m s l
  unfolding part
  slice_part = ap (λ (k : ℕ). take k (drop s l)) (add-sub_cancel_left s m)

  pub slice_length : s + m ≤ length l → length (take (s + m - s) (drop s l)) ≡ m
  slice_length h = ap length slice_part ∙ part_length h

  pub slice_at : (i : ℕ) → i < m → at (take (s + m - s) (drop s l)) i ≡ at l (s + i)
  slice_at i h = ap (λ (r : List ℕ). at r i) slice_part ∙ part_at i h

-- a part of a part is a part
pub part-part : (l : List ℕ) (t n s m : ℕ) → t + n ≤ length l → s + m ≤ n → part m s (part n t l) ≡ part m (t + s) l
part-part l t n s m h k =
    tab_of (part m s (part n t l)) m (λ i. at l (t + s + i)) (part_length (part n t l) s m (rw (part_length l t n h) k))
    (λ i b. part_at (part n t l) s m i b ∙ part_at l t n (s + i) (omega arith) ∙ ap (at l) (omega arith))
    ∙ sym (tab_of (part m (t + s) l) m (λ i. at l (t + s + i)) (part_length l (t + s) m (omega arith)) (λ i b. part_at l (t + s) m i b))
