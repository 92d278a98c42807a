-- The drifts' slice as the loops fill it: `short_to … g ++ drop (inputs + g) …` over the gates, `tab i … ++ drop i …` over the inputs; and what all of a list being inside
-- makes of one more. Inductions on the number of gates; the lengths place each part.
-- Assumes nothing.
use mathlib.Core.Path.{◌≡◌, refl, sym, ap, ap₂, ◌∙◌}
use mathlib.Core.Bool.{Bool, true, false, cond}
use mathlib.Core.List.{List, [], ◌∷◌, ◌++◌, append-nil}
use Prim.Native.Nat.{ℕ, zero, suc, ◌+◌, ◌≤◌, ◌<◌}
use native.Mathlib.Nat.{add-zero, le_antisymm}
use native.Mathlib.Numerals.{add-one}
use native.Mathlib.Omega.{arith}
use lib.ListN.{length, take, drop, set, length-append, length-drop, take-append-drop, drop_of_length-le}
use lib.Seq.{length-take-le, take_at, drop_at, drop-drop, set_split, append_snoc}
use Rattle.ring.specs.Sums.{tab}
use Rattle.ring.proofs.Tab.{tab_snoc, length-tab}
use Rattle.params.specs.declared.Params.{Params}
use Rattle.circuit.specs.Form.{inputs, gates, wires}
use Rattle.drift.specs.PrivateCircuit.{all_words, gate_brought_words, fresh_words}
use Rattle.drift.specs.PrivateShort.{short_gate, short_to, short_brought_to}
use Rattle.drift_run.specs.Private.{put_short}
use Rattle.drift_size.specs.Size.{inside_word}

-- ---- all of a list

pub all_append : (xs ys : List ℕ) → all_words (xs ++ ys) ≡ cond (all_words xs) (all_words ys) false
unfolding all_words
all_append [] ys = refl
all_append (x ∷ xs) ys = ap (λ (b : Bool). cond (inside_word x) b false) (all_append xs ys) ∙ nested (inside_word x) (all_words xs) (all_words ys)
  where
    nested : (a b c : Bool) → cond a (cond b c false) false ≡ cond (cond a b false) c false
    nested true b c = refl
    nested false b c = refl

all_one : (x : ℕ) → all_words (x ∷ []) ≡ inside_word x
unfolding all_words
all_one x = settled (inside_word x)
  where
    settled : (b : Bool) → cond b true false ≡ b
    settled true = refl
    settled false = refl

-- a loop over the words f 0, f 1, ..
pub all_none : (f : ℕ → ℕ) → true ≡ all_words (tab 0 f)
unfolding all_words tab
all_none f = refl

pub all_more : (f : ℕ → ℕ) (i : ℕ) {b c r : Bool} → b ≡ all_words (tab i f) → c ≡ inside_word (f i) → r ≡ cond b c false → r ≡ all_words (tab (i + 1) f)
all_more f i eb ec er =
    er ∙ ap₂ (λ (x y : Bool). cond x y false) eb (ec ∙ sym (all_one (f i))) ∙ sym (all_append (tab i f) (f i ∷ []))
    ∙ ap all_words (sym (ap (λ (n : ℕ). tab n f) (add-one i) ∙ tab_snoc i f))

pub all_done : (f : ℕ → ℕ) {i n : ℕ} {b : Bool} → i ≤ n → n ≤ i → b ≡ all_words (tab i f) → b ≡ all_words (tab n f)
all_done f l m e = rw (le_antisymm l m) at e

-- ---- one gate's drift in its place

pub drift_made : (p : Params) (key bs ws ds : List ℕ) (g : ℕ) {own d : ℕ} → own ≡ inputs bs + g → inputs bs + g < length ds
    → d ≡ short_gate p key bs ws (take own ds) g → set ds own d ≡ put_short p key bs ws ds g
unfolding put_short
drift_made p key bs ws ds g {own} {d} eo l ed =
    ap₂ (set ds) eo (ed ∙ ap (λ (k : ℕ). short_gate p key bs ws (take k ds) g) eo)
    ∙ set_split ds (inputs bs + g) (short_gate p key bs ws (take (inputs bs + g) ds) g) l
    ∙ ap (λ (k : ℕ). take (inputs bs + g) ds ++ (short_gate p key bs ws (take (inputs bs + g) ds) g ∷ drop k ds)) (sym (add-one (inputs bs + g)))

-- ---- the loop over the gates, which begins with the drifts ds

module _ (p : Params) (key bs ws ds : List ℕ) (h : inputs bs ≤ length ds) where
  abbrev start : List ℕ
  start = take (inputs bs) ds

  start-length : length start ≡ inputs bs
  start-length = length-take-le (inputs bs) ds h

  pub so_far_length : (g : ℕ) → length (short_to p key bs ws start g) ≡ inputs bs + g
  unfolding short_to
  so_far_length zero = start-length ∙ sym (add-zero (inputs bs))
  so_far_length (suc g) =
      let e = length-append (short_to p key bs ws start g) (short_gate p key bs ws (short_to p key bs ws start g) g ∷ []) in
      let i = so_far_length g in
      omega (arith, e, i)

  one_more : (g : ℕ) → short_to p key bs ws start (g + 1) ≡ short_to p key bs ws start g ++ (short_gate p key bs ws (short_to p key bs ws start g) g ∷ [])
  unfolding short_to
  one_more g = rw (add-one g)

  pub gates_none : ds ≡ short_to p key bs ws start 0 ++ drop (inputs bs + 0) ds
  unfolding short_to
  gates_none = rw (add-zero (inputs bs)) (sym (take-append-drop (inputs bs) ds))

  module _ (g : ℕ) {held : List ℕ} (inv : held ≡ short_to p key bs ws start g ++ drop (inputs bs + g) ds) where
    pub held_front : take (inputs bs + g) held ≡ short_to p key bs ws start g
    held_front = ap (take (inputs bs + g)) inv ∙ take_at (short_to p key bs ws start g) (drop (inputs bs + g) ds) (inputs bs + g) (so_far_length g)

    pub held-length : inputs bs + g ≤ length ds → length held ≡ length ds
    held-length l =
        let e = ap length inv ∙ length-append (short_to p key bs ws start g) (drop (inputs bs + g) ds) in
        let s = so_far_length g in
        let d = length-drop (inputs bs + g) ds in
        omega (arith, e, s, d)

    pub gates_more : put_short p key bs ws held g ≡ short_to p key bs ws start (g + 1) ++ drop (inputs bs + (g + 1)) ds
    unfolding put_short
    gates_more =
        let own = inputs bs + g in
        let front = short_to p key bs ws start g in
        let back : drop (own + 1) held ≡ drop (inputs bs + (g + 1)) ds =
        sym (drop-drop 1 own held) ∙ ap (drop 1) (ap (drop own) inv ∙ drop_at front (drop own ds) own (so_far_length g)) ∙ drop-drop 1 own ds
        ∙ ap (λ (k : ℕ). drop k ds) (let q : own + 1 ≡ inputs bs + (g + 1) = omega arith in q) in
        ap₂ (λ (f r : List ℕ). f ++ (short_gate p key bs ws f g ∷ r)) held_front back
        ∙ sym (append_snoc front (short_gate p key bs ws front g) (drop (inputs bs + (g + 1)) ds))
        ∙ ap (λ (x : List ℕ). x ++ drop (inputs bs + (g + 1)) ds) (sym (one_more g))

    pub brought_more : {b c r : Bool} → b ≡ all_words (short_brought_to p key bs ws start g) → c ≡ all_words (gate_brought_words p key bs ws (take (inputs bs + g) held) g) → r ≡ cond b c false
        → r ≡ all_words (short_brought_to p key bs ws start (g + 1))
    unfolding short_brought_to
    brought_more eb ec er =
        er ∙ ap₂ (λ (x y : Bool). cond x y false) eb (ec ∙ ap (λ (d : List ℕ). all_words (gate_brought_words p key bs ws d g)) held_front)
        ∙ sym (all_append (short_brought_to p key bs ws start g) (gate_brought_words p key bs ws (short_to p key bs ws start g) g))
        ∙ ap (λ (k : ℕ). all_words (short_brought_to p key bs ws start k)) (sym (add-one g))

  pub brought_none : true ≡ all_words (short_brought_to p key bs ws start 0)
  unfolding short_brought_to all_words
  brought_none = refl

  -- the loop's end: the slice holds nothing but the wires' drifts
  pub gates_end : (g : ℕ) {held : List ℕ} → g ≤ gates bs → gates bs ≤ g → length ds ≡ wires bs → held ≡ short_to p key bs ws start g ++ drop (inputs bs + g) ds
      → held ≡ short_to p key bs ws start (gates bs)
  gates_end g {held} a b l e =
      let q : g ≡ gates bs = le_antisymm a b in
      let all : length ds ≤ inputs bs + gates bs = omega arith in
      e ∙ ap (λ (k : ℕ). short_to p key bs ws start k ++ drop (inputs bs + k) ds) q
      ∙ ap (λ (x : List ℕ). short_to p key bs ws start (gates bs) ++ x) (drop_of_length-le ds all)
      ∙ append-nil (short_to p key bs ws start (gates bs))

  pub brought_end : {g : ℕ} {b : Bool} → g ≤ gates bs → gates bs ≤ g → b ≡ all_words (short_brought_to p key bs ws start g) → b ≡ all_words (short_brought_to p key bs ws start (gates bs))
  brought_end l m e = rw (le_antisymm l m) at e

-- ---- the whole pass

-- the inputs' drifts in front are where the gates' begin
pub start_is : (p : Params) (key bs ins plain ds : List ℕ) {held : List ℕ} → length plain ≡ inputs bs
    → held ≡ fresh_words p key ins plain (length plain) ++ drop (length plain) ds → take (inputs bs) held ≡ fresh_words p key ins plain (inputs bs)
unfolding fresh_words
start_is p key bs ins plain ds {held} l e =
    ap (take (inputs bs)) (e ∙ ap (λ (n : ℕ). fresh_words p key ins plain n ++ drop n ds) l)
    ∙ take_at (fresh_words p key ins plain (inputs bs)) (drop (inputs bs) ds) (inputs bs) (length-tab (inputs bs) _)
