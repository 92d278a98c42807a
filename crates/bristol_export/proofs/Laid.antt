-- A text laid over a slice piece by piece: two pieces one behind the other are one. An induction on the first piece's bytes.
-- Assumes nothing.
use mathlib.Core.Path.{◌≡◌, refl, sym, ap, ◌∙◌}
use mathlib.Core.List.{List, [], ◌∷◌, ◌++◌}
use Prim.Native.Nat.{ℕ, suc, ◌+◌, ◌≤◌, ◌<◌}
use native.Mathlib.Nat.{add-zero, zero-add, add-suc, suc-add}
use native.Mathlib.Numerals.{add-one}
use native.Mathlib.Omega.{arith}
use lib.ListN.{length, take, drop, set, length-append}
use lib.Seq.{sets, length-sets, sets-eq, set_out, take-suc, take_all}
use Rattle.ring.specs.Word.{at}
use Rattle.ring.specs.Lists.{joined}
use Rattle.bristol_export.specs.Private.{laid}

pub length-laid : (o : List ℕ) (i : ℕ) (p : List ℕ) → length (laid o i p) ≡ length o
unfolding laid
length-laid o i p = length-sets o i p

pub laid_none : (o : List ℕ) (i : ℕ) → o ≡ laid o i []
unfolding laid
laid_none o i = refl

pub laid_one : (o : List ℕ) (i v : ℕ) → set o i v ≡ laid o i (v ∷ [])
unfolding laid
laid_one o i v = refl

pub laid_out : (o : List ℕ) (i v : ℕ) → length o ≤ i → o ≡ laid o i (v ∷ [])
unfolding laid
laid_out o i v h = sym (set_out o i v h)

-- a second piece behind the first
laid_then : (o : List ℕ) (i : ℕ) (p q : List ℕ) → laid (laid o i p) (i + length p) q ≡ laid o i (p ++ q)
unfolding laid
laid_then o i [] q = ap (λ (k : ℕ). sets o k q) (add-zero i)
laid_then o i (b ∷ p) q = ap (λ (k : ℕ). sets (sets (set o i b) (suc i) p) k q) (add-suc i (length p) ∙ sym (suc-add i (length p))) ∙ laid_then (set o i b) (suc i) p q

-- where there is room for all of it, at the very front
pub laid_front : (o p : List ℕ) → length p ≤ length o → laid o 0 p ≡ p ++ drop (length p) o
unfolding laid
laid_front o p h = sets-eq p o 0 (omega arith) ∙ ap (λ (k : ℕ). p ++ drop k o) (zero-add (length p))

-- ---- how far a routine has come

-- the text p lies over o from place i on, and the next place is j
pub record Put (o : List ℕ) (i : ℕ) (p out : List ℕ) (j : ℕ) : Type 0 where
  pub text : out ≡ laid o i p
  pub place : j ≡ i + length p

pub put_none : (o : List ℕ) (i : ℕ) → Put o i [] o i
put_none o i = record { text = laid_none o i; place = omega arith }

pub put_next : (o : List ℕ) (i : ℕ) (p q : List ℕ) {out out' : List ℕ} {j r : ℕ} → Put o i p out j → r ≡ j + length q → out' ≡ laid out j q → Put o i (p ++ q) out' r
put_next o i p q {out} {out'} {j} {r} w e d =
    let l = length-append p q in
    let z = w.place in
    record {
      text = d ∙ ap (λ (x : List ℕ). laid x j q) w.text ∙ ap (λ (k : ℕ). laid (laid o i p) k q) z ∙ laid_then o i p q;
      place = omega arith;
    }

-- ---- a loop that writes f 0, f 1, .. one behind the other

pub rows_none : (o : List ℕ) (i : ℕ) (f : ℕ → List ℕ) → Put o i (joined 0 f) o i
unfolding joined
rows_none o i f = put_none o i

pub rows_more : (o : List ℕ) (i : ℕ) (f : ℕ → List ℕ) (k : ℕ) {out out' : List ℕ} {j r : ℕ} → Put o i (joined k f) out j → r ≡ j + length (f k) → out' ≡ laid out j (f k) → Put o i (joined (k + 1) f) out' r
unfolding joined
rows_more o i f k w e d = rw (add-one k) (put_next o i (joined k f) (f k) w e d)

-- the bytes of a slice one by one
pub bytes_more : (o : List ℕ) (i : ℕ) (s : List ℕ) (k : ℕ) {out out' : List ℕ} → k < length s → Put o i (take k s) out (i + k) → out' ≡ laid out (i + k) (at s k ∷ []) → Put o i (take (k + 1) s) out' (i + (k + 1))
bytes_more o i s k h w d =
    rw (add-one k) (rw (take-suc s k 0 h) (put_next o i (take k s) (at s k ∷ []) w (omega arith) d))

pub bytes_none : (o : List ℕ) (i : ℕ) (s : List ℕ) → Put o i (take 0 s) o (i + 0)
bytes_none o i s = record { text = laid_none o i; place = refl }

pub bytes_done : (o : List ℕ) (i : ℕ) (s : List ℕ) (k : ℕ) {out : List ℕ} → length s ≤ k → Put o i (take k s) out (i + k) → Put o i s out (i + k)
bytes_done o i s k h w = rw (take_all k s h) at w
