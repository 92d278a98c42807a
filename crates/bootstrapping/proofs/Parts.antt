-- The rows as the code makes them: a constant polynomial is one word, sums of three come in any order, the parts that the code lends are the words
-- that a row or a bit draws, and every part lies within what was lent. Words one by one, the ring's laws, and products of bounds.
-- Assumes nothing.
use mathlib.Core.Path.{◌≡◌, refl, sym, ap, ap₂, ◌∙◌}
use mathlib.Core.Bool.{Bool, true, false, cond}
use mathlib.Core.List.{List, [], ◌∷◌, ◌++◌}
use Prim.Native.Nat.{ℕ, zero, suc, ◌+◌, ◌-◌, ◌*◌, ◌%◌, ◌≤◌, ◌<◌}
use native.Mathlib.Nat.{mul-le-mul_right, mul-zero, zero-mul, add-zero, mod-eq_of_lt}
use native.Mathlib.Omega.{arith}
use lib.Dec.{ltb}
use lib.ListN.{length, take, drop, set}
use Rattle.ring.specs.Word.{Q, at}
use Rattle.ring.specs.Sums.{tab}
use Rattle.ring.specs.Poly.{plus, times, scale}
use Rattle.ring.specs.Lists.{part}
use Rattle.ring.specs.Pair.{Pair}
use Rattle.ring.proofs.Tab.{at-tab, tab_ext, tab_of}
use Rattle.ring.proofs.Laws.{plus_assoc, plus_comm}
use Rattle.params.specs.declared.Params.{Params}
use Rattle.params.specs.Ranges.{InRange}
use Rattle.params.specs.declared.Sizes.{Sizes}
use Rattle.params.specs.Sizes.{size, bit_words, sizes_in}
use Rattle.params.proofs.Ranges.{size_from}
use Rattle.product.specs.Product.{poly_mul_add_out}
use Rattle.product.proofs.Uses.{poly_mul_add_done}
use Rattle.ring.proofs.Places.{length-plus}
use Rattle.ring.proofs.Parts.{slice_part}
use Rattle.decomposition.specs.Digit.{digit_weight}
use Rattle.bootstrapping.specs.Rows.{gadget_row, zero_row, pair_row, key_row, row_draw, torus_row, torus_rows, bit_draws, bit_draw, key_bit}
use Rattle.bootstrapping.specs.Private.{mask_message, body_message, row_mask, row_body}

-- ---- what is added to the first word

-- word i of the list of the one word c, and of c times the polynomial 1
one_word : (c i : ℕ) → at (c % Q ∷ []) i ≡ c * at (1 ∷ []) i % Q
unfolding Q
one_word c zero = omega arith
one_word c (suc i) = omega arith

-- a list, c added to its first word, is the sum with the list of c alone
pub first_added : (a : List ℕ) (c : ℕ) {v : ℕ} → 0 < length a → ((x : ℕ) → at a x < Q) → v ≡ (at a 0 + c) % Q → set a 0 v ≡ plus (length a) a (c ∷ [])
unfolding plus tab
first_added [] c h b e = absurd (let q : ⊥ = omega arith in q)
first_added (x ∷ xs) c h b e = ap₂ (λ (y : ℕ) (l : List ℕ). y ∷ l) e (tab_of xs (length xs) _ refl (λ i l. sym (ap (λ (y : ℕ). y % Q) (add-zero (at xs i)) ∙ mod-eq_of_lt (b (suc i)))))

-- m times the constant g, and m times nothing
scaled_one : (m g i : ℕ) → m * at (g ∷ []) i % Q ≡ m * g * at (1 ∷ []) i % Q
unfolding Q
scaled_one m g zero = omega arith
scaled_one m g (suc i) = omega arith

scaled_constant : (N m g : ℕ) → scale N m (g ∷ []) ≡ scale N (m * g) (1 ∷ [])
unfolding scale
scaled_constant N m g = tab_ext N _ _ (λ i l. scaled_one m g i)

scaled_nothing : (N m : ℕ) → scale N m [] ≡ scale N 0 (1 ∷ [])
unfolding scale
scaled_nothing N m = tab_ext N _ _ (λ i l. ap (λ (x : ℕ). x % Q) (mul-zero m ∙ sym (zero-mul (at (1 ∷ []) i))))

-- the row as the code makes it is Z + m·H
module _ (p : Params) (m r : ℕ) (z masks noise : List ℕ) where
  pub row_halved : key_row p m r z masks noise ≡ row_mask p m r masks ++ row_body p m r z masks noise
  unfolding key_row pair_row zero_row gadget_row row_mask row_body mask_message body_message
  row_halved = go (ltb r p.l)
    where
      N : ℕ
      N = size p

      g : Bool → Pair
      g t = cond t (record { a = digit_weight p r ∷ []; b = [] }) (record { a = []; b = digit_weight p (r - p.l) ∷ [] })

      go : (t : Bool)
          → plus N masks (scale N m (g t).a) ++ plus N (plus N noise (times N masks z)) (scale N m (g t).b)
          ≡ plus N masks (scale N (cond t (m * digit_weight p r) 0) (1 ∷ [])) ++ plus N (plus N noise (times N masks z)) (scale N (cond t 0 (m * digit_weight p (r - p.l))) (1 ∷ []))
      go true = ap₂ (λ (x y : List ℕ). plus N masks x ++ plus N (plus N noise (times N masks z)) y) (scaled_constant N m (digit_weight p r)) (scaled_nothing N m)
      go false = ap₂ (λ (x y : List ℕ). plus N masks x ++ plus N (plus N noise (times N masks z)) y) (scaled_nothing N m) (scaled_constant N m (digit_weight p (r - p.l)))

-- the constant polynomial c is the word c
pub constant : (N : ℕ) (a : List ℕ) (c : ℕ) → plus N a (c % Q ∷ []) ≡ plus N a (scale N c (1 ∷ []))
unfolding plus scale
constant N a c = tab_ext N _ _ (λ i l. ap (λ (x : ℕ). (at a i + x) % Q) (one_word c i ∙ sym (at-tab N (λ j. c * at (1 ∷ []) j % Q) i l)))

-- three polynomials, the last two the other way round
swap : (N : ℕ) → 0 < N → (a b c : List ℕ) → plus N (plus N a b) c ≡ plus N (plus N a c) b
swap N h a b c = plus_assoc N h a b c ∙ ap (plus N a) (plus_comm N h b c) ∙ sym (plus_assoc N h a c b)

-- ---- what the callees leave

module _ (p : Params) (range : InRange p) where
  -- b: the noise and the word, then the product
  pub body_made : (c : ℕ) (masks noise key : List ℕ) (o : List ℕ) → {sum out : List ℕ} → length masks ≡ size p → length key ≡ size p → length o ≡ size p
      → sum ≡ plus (length o) noise (c ∷ []) → out ≡ poly_mul_add_out p masks key sum
      → out ≡ plus (size p) (plus (size p) noise (c ∷ [])) (times (size p) masks key)
  body_made c masks noise key o {sum} lm lk lo e f =
      let s : sum ≡ plus (size p) noise (c ∷ []) = e ∙ ap (λ (k : ℕ). plus k noise (c ∷ [])) lo in
      f ∙ poly_mul_add_done p range masks key sum lm lk (ap length s ∙ length-plus (size p) noise (c ∷ []))
      ∙ ap (λ (l : List ℕ). plus (size p) l (times (size p) masks key)) s

  -- the row, the words added being those of its number
  pub row_made : (m r : ℕ) (key masks noise : List ℕ) {x y : ℕ} {out : List ℕ} → x ≡ mask_message p m r % Q → y ≡ body_message p m r % Q
      → out ≡ plus (size p) masks (x ∷ []) ++ plus (size p) (plus (size p) noise (y ∷ [])) (times (size p) masks key)
      → out ≡ key_row p m r key masks noise
  unfolding row_mask row_body
  row_made m r key masks noise ex ey e =
      e ∙ ap₂ (λ (a b : List ℕ). a ++ b)
      (ap (λ (x : ℕ). plus (size p) masks (x ∷ [])) ex ∙ constant (size p) masks (mask_message p m r))
      (ap (λ (y : ℕ). plus (size p) (plus (size p) noise (y ∷ [])) (times (size p) masks key)) ey
      ∙ ap (λ (l : List ℕ). plus (size p) l (times (size p) masks key)) (constant (size p) noise (body_message p m r))
      ∙ swap (size p) (size_from p) noise (scale (size p) (body_message p m r) (1 ∷ [])) (times (size p) masks key))
      ∙ sym (row_halved p m r key masks noise)

-- ---- the parts that the code lends

-- part i of so many, each of w words, ends within them
pub fits : (i count w v : ℕ) {len : ℕ} → i < count → w ≡ v → len ≡ count * v → i * w + w ≤ len
fits i count w v h e l = let q = ap (λ (k : ℕ). i * k + k) e in let a = mul-le-mul_right v h in omega arith

-- the words and the draws of a bit, as the lengths of checked parameters have them
pub bit_sizes : {p q : Params} {s : Sizes} → s ≡ sizes_in q → q ≡ p → (s.bit ≡ bit_words p) × (s.bitmasks ≡ bit_draws p)
bit_sizes e v = (ap (λ (t : Sizes). t.bit) e ∙ ap (λ (t : Params). bit_words t) v, ap (λ (t : Sizes). t.bitmasks) e ∙ ap (λ (t : Params). bit_draws t) v)

-- row r of a bit ends within its rows
pub row_room : (p : Params) (r n : ℕ) {len : ℕ} → r < p.l + p.l → n ≡ size p → len ≡ bit_words p → r * (n + n) + (n + n) ≤ len
row_room p r n h e l = fits r (p.l + p.l) (n + n) (size p + size p) h (ap (λ (k : ℕ). k + k) e) l

-- a part of w words
pub part_is : (l : List ℕ) (i w v : ℕ) → w ≡ v → take (i * w + w - i * w) (drop (i * w) l) ≡ part v (i * v) l
part_is l i w v e = slice_part l (i * w) w ∙ ap (λ (k : ℕ). part k (i * k) l) e

module _ (p : Params) (z masks noise : List ℕ) where
  -- row r, its draws being lent as parts
  pub row_drawn : (m r n : ℕ) → n ≡ size p → {out : List ℕ}
      → out ≡ key_row p m r z (take (r * n + n - r * n) (drop (r * n) masks)) (take (r * n + n - r * n) (drop (r * n) noise)) → out ≡ torus_row p m z masks noise r
  unfolding torus_row row_draw
  row_drawn m r n e f = f ∙ ap₂ (λ (a b : List ℕ). key_row p m r z a b) (part_is masks r n (size p) e) (part_is noise r n (size p) e)

  -- bit i
  pub bit_drawn : (key : List ℕ) (i w : ℕ) → w ≡ bit_draws p → {out : List ℕ}
      → out ≡ torus_rows p (at key i) z (take (i * w + w - i * w) (drop (i * w) masks)) (take (i * w + w - i * w) (drop (i * w) noise)) → out ≡ key_bit p key z masks noise i
  unfolding key_bit bit_draw
  bit_drawn key i w e f = f ∙ ap₂ (λ (a b : List ℕ). torus_rows p (at key i) z a b) (part_is masks i w (bit_draws p) e) (part_is noise i w (bit_draws p) e)
