-- What the callees leave makes a step, and steps make the rotation: each law is the definition's next line.
-- Assumes nothing.
use mathlib.Core.Path.{◌≡◌, ap, ap₂, ◌∙◌}
use mathlib.Core.List.{List, []}
use Prim.Native.Nat.{ℕ, ◌+◌, ◌≤◌, ◌<◌}
use native.Mathlib.Numerals.{add-one}
use native.Mathlib.Omega.{arith}
use lib.ListN.{length, take, replicate}
use Rattle.ring.specs.Word.{at}
use Rattle.ring.specs.Poly.{minus}
use Rattle.ring.specs.Turn.{rotated}
use Rattle.params.specs.declared.Params.{Params}
use Rattle.params.specs.Refusal.{if_done}
use Rattle.params.specs.Ranges.{InRange}
use Rattle.params.specs.Sizes.{size, bit_words, bootstrapping_words, sizes_in}
use Rattle.params.specs.declared.Sizes.{Sizes}
use Rattle.params.proofs.Answers.{when_done}
use Rattle.params.proofs.Ranges.{not_refused, size_to}
use Rattle.words.proofs.Scratch.{scratch}
use Rattle.key.specs.Testvec.{test_number, test_pair}
use Rattle.key.specs.Bits.{bit_rows_number, bit_rows}
use Rattle.key.proofs.Checks.{test_done, bit_done}
use Rattle.ring.proofs.Places.{length-minus}
use Rattle.rotation.specs.Amount.{mask_amount, body_amount}
use Rattle.rotation.proofs.Amounts.{mask_below}
use Rattle.trgsw.specs.External.{external, cmux_of}
use Rattle.trgsw.specs.Refusals.{external_number, external_add_out}
use Rattle.trgsw.proofs.Checks.{external_done}
use Rattle.blind_rotation.specs.Blind.{turned, blind_step, steps_to, start_of}
use Rattle.blind_rotation.specs.Private.{Whole}
use Rattle.ring.specs.Pair.{Pair, pair_plus, pair_minus}

-- two polynomials as a pair
abbrev pub pair : List ℕ → List ℕ → Pair
pair a b = record { a = a; b = b }

-- and each of them from the pair
module _ {a b : List ℕ} {w : Pair} where
  pub first_is : pair a b ≡ w → a ≡ w.a
  first_is e = ap (λ (x : Pair). x.a) e

  pub second_is : pair a b ≡ w → b ≡ w.b
  second_is e = ap (λ (x : Pair). x.b) e

module _ (p : Params) where
  -- a mask's amount is at most 2N
  pub amount_to : {k : ℕ} (mask : ℕ) → InRange p → k ≡ mask_amount p mask → k ≤ size p + size p
  amount_to mask r e = omega (arith, e, mask_below p r mask)

  -- the rows that the lookup hands back: it is not refused, so they are those of bit i
  pub rows_is : InRange p → (key : List ℕ) (i : ℕ) → length key ≡ bootstrapping_words p → i < p.n
      → {rows : List ℕ} → rows ≡ if_done (bit_rows_number p (length key) i) (bit_rows p key i) [] → rows ≡ bit_rows p key i
  rows_is r key i l h e = e ∙ when_done _ _ _ (bit_done p (length key) i (not_refused p r) l h)

  -- the external product of the turned pair less the pair, added to the pair, is the choice
  pub step_made : InRange p → (rows : List ℕ) (k : ℕ) (x w : Pair) → length rows ≡ bit_words p → length x.a ≡ size p → length x.b ≡ size p
      → w ≡ pair_minus (size p) (turned p k x) x → {u v : List ℕ} → u ≡ (external_add_out p rows w x).a → v ≡ (external_add_out p rows w x).b
      → pair u v ≡ cmux_of p rows x (turned p k x)
  unfolding cmux_of
  step_made r rows k x w lr la lb ew {u} {v} eu ev =
      let n : ℕ = external_number p (length rows) (length w.a) (length w.b) (length x.a) (length x.b) in
      let lwa : length w.a ≡ size p = ap (λ (q : Pair). length q.a) ew ∙ length-minus (size p) _ _ in
      let lwb : length w.b ≡ size p = ap (λ (q : Pair). length q.b) ew ∙ length-minus (size p) _ _ in
      let d = when_done n (pair_plus (size p) (external p rows w) x) x
      (external_done p (length rows) (length w.a) (length w.b) (length x.a) (length x.b) (record { range = not_refused p r; rows = lr; first = lwa; second = lwb; into_a = la; into_b = lb })) in
      ap₂ pair eu ev ∙ d ∙ ap (λ (q : Pair). pair_plus (size p) (external p rows q) x) ew

  -- the turned pair less the pair, from what the callees leave
  pub turned_less : (k : ℕ) (a b : List ℕ) {ra rb ta tb : List ℕ} {m n : ℕ} → ra ≡ rotated (size p) k a → rb ≡ rotated (size p) k b → m ≡ size p → n ≡ size p
      → ta ≡ minus m ra a → tb ≡ minus n rb b → pair ta tb ≡ pair_minus (size p) (turned p k (pair a b)) (pair a b)
  unfolding turned
  turned_less k a b ea eb em en ta tb = ap₂ pair (ta ∙ ap₂ (λ (m : ℕ) (r : List ℕ). minus m r a) em ea) (tb ∙ ap₂ (λ (m : ℕ) (r : List ℕ). minus m r b) en eb)

  -- a step from its part of the key and its mask's amount
  pub step_is : (key : List ℕ) (i mask : ℕ) (x : Pair) {rows : List ℕ} {k : ℕ} → rows ≡ bit_rows p key i → k ≡ mask_amount p mask
      → cmux_of p rows x (turned p k x) ≡ blind_step p key i mask x
  unfolding blind_step
  step_is key i mask x er ek = ap₂ (λ (r : List ℕ) (k : ℕ). cmux_of p r x (turned p k x)) er ek

  -- the start from b's amount
  pub start_is : (a b : List ℕ) (body : ℕ) {k : ℕ} {ra rb : List ℕ} → k ≡ body_amount p body → ra ≡ rotated (size p) k a → rb ≡ rotated (size p) k b → pair ra rb ≡ start_of p (pair a b) body
  unfolding start_of turned
  start_is a b body ek ea eb = ap₂ pair (ea ∙ ap (λ (k : ℕ). rotated (size p) k a) ek) (eb ∙ ap (λ (k : ℕ). rotated (size p) k b) ek)

  -- the gates' vector, worked out
  pub test_put : InRange p → (a b : List ℕ) → Whole p a b → {ta tb : List ℕ}
      → ta ≡ if_done (test_number p (length a) (length b)) (test_pair p).a a → tb ≡ if_done (test_number p (length a) (length b)) (test_pair p).b b → pair ta tb ≡ test_pair p
  test_put r a b w ea eb =
      let n : test_number p (length a) (length b) ≡ 0 = ap₂ (test_number p) w.first w.second ∙ test_done p (not_refused p r) in
      ap₂ pair (ea ∙ when_done _ _ _ n) (eb ∙ when_done _ _ _ n)

  -- scratch that a routine makes: its first N words are lent
  module _ (s : Sizes) (inv : InRange p × (s ≡ sizes_in p)) where
    pub room : s.size ≤ 1024
    room = rw inv.1 (size_to p inv.0)

    pub lent : length {A = ℕ} (take s.size (replicate 1024 0)) ≡ size p
    lent = scratch 1024 s.size room ∙ ap (λ (s : Sizes). s.size) inv.1

    pub both_lent : Whole p (take s.size (replicate 1024 0)) (take s.size (replicate 1024 0))
    both_lent = record { first = lent; second = lent }

  module _ (key src : List ℕ) (start : Pair) where
    -- what the loop over the steps keeps: both pairs have their lengths, and the accumulator is that after the first i steps
    pub record Stepped (i : ℕ) (ta tb a b : List ℕ) : Type 0 where
      pub scratch : Whole p ta tb
      pub accumulator : Whole p a b
      pub made : pair a b ≡ steps_to p key src start i

    -- one more step
    pub steps_more : (i : ℕ) {a b : List ℕ} {new : Pair} → pair a b ≡ steps_to p key src start i → new ≡ blind_step p key i (at src i) (pair a b) → new ≡ steps_to p key src start (i + 1)
    unfolding steps_to
    steps_more i ea e = e ∙ ap (blind_step p key i (at src i)) ea ∙ rw add-one
