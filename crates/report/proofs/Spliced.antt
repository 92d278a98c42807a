-- A text written over a slice piece by piece: a byte stored is a piece, and two pieces one behind the other are one.
-- Assumes nothing.
use mathlib.Core.Path.{◌≡◌, refl, sym, ap, ap₂, ◌∙◌}
use mathlib.Core.Bool.{Bool, true, false, cond}
use mathlib.Core.List.{List, [], ◌∷◌, ◌++◌, append_assoc, append-nil}
use Prim.Native.Nat.{ℕ, suc, ◌+◌, ◌≤◌, ◌<◌}
use native.Mathlib.Nat.{add-zero, zero-add}
use native.Mathlib.Numerals.{add-one}
use native.Mathlib.Omega.{arith}
use lib.ListN.{length, take, drop, set, length-append, length-drop, take-append-drop}
use lib.Seq.{length-take-le, take_at, drop-drop, set_split, drop-append-add, append_snoc}
use mir.Val.{bool_byte}
use Rattle.ring.specs.Word.{at}
use Rattle.ring.specs.Sums.{tab}
use Rattle.ring.proofs.Tab.{tab_of, tab_snoc, length-tab}
use Rattle.report.specs.Private.{splice}

-- the front up to the end of a piece
front : (o : List ℕ) (i : ℕ) (p : List ℕ) → i ≤ length o → length (take i o ++ p) ≡ i + length p
front o i p h = let e = length-append (take i o) p in let t = length-take-le i o h in omega arith

pub length-splice : (o : List ℕ) (i : ℕ) (p : List ℕ) → i + length p ≤ length o → length (splice o i p) ≡ length o
unfolding splice
length-splice o i p h =
    let f = front o i p (omega arith) in
    let e = length-append (take i o ++ p) (drop (i + length p) o) in
    let d = length-drop (i + length p) o in
    omega arith

pub splice_none : (o : List ℕ) (i : ℕ) → o ≡ splice o i []
unfolding splice
splice_none o i = rw (add-zero i, append-nil (take i o)) (sym (take-append-drop i o))

pub splice_one : (o : List ℕ) (i v : ℕ) → i < length o → set o i v ≡ splice o i (v ∷ [])
unfolding splice
splice_one o i v h =
    let e : i + 1 ≡ suc i = add-one i in
    set_split o i v h ∙ sym (append_snoc (take i o) v (drop (suc i) o)) ∙ ap (λ (k : ℕ). (take i o ++ (v ∷ [])) ++ drop k o) (sym e)

-- a second piece behind the first
pub splice_then : (o : List ℕ) (i : ℕ) (p q : List ℕ) {o₁ o₂ : List ℕ} → i + length p ≤ length o → o₁ ≡ splice o i p → o₂ ≡ splice o₁ (i + length p) q → o₂ ≡ splice o i (p ++ q)
unfolding splice
splice_then o i p q {o₁} {o₂} h e d =
    let f = front o i p (omega arith) in
    let r = drop (i + length p) o in
    let t : take (i + length p) o₁ ≡ take i o ++ p = ap (take (i + length p)) e ∙ take_at (take i o ++ p) r (i + length p) f in
    let n : i + length p + length q ≡ length (take i o ++ p) + length q = ap (λ (k : ℕ). k + length q) (sym f) in
    let s : drop (i + length p + length q) o₁ ≡ drop (i + length (p ++ q)) o =
    ap (drop (i + length p + length q)) e
    ∙ ap (λ (k : ℕ). drop k ((take i o ++ p) ++ r)) n
    ∙ drop-append-add (take i o ++ p) r (length q)
    ∙ drop-drop (length q) (i + length p) o
    ∙ ap (λ (k : ℕ). drop k o) (let l = length-append p q in let z : i + length p + length q ≡ i + length (p ++ q) = omega arith in z)
    in
    d ∙ ap₂ (λ (a b : List ℕ). a ++ q ++ b) t s ∙ ap (λ (a : List ℕ). a ++ drop (i + length (p ++ q)) o) (append_assoc (take i o) p q)

-- the same, the second place being known by an equation
pub splice_next : (o : List ℕ) (i : ℕ) (p q : List ℕ) {o₁ o₂ : List ℕ} {j : ℕ} → i + length p ≤ length o → o₁ ≡ splice o i p → j ≡ i + length p → o₂ ≡ splice o₁ j q → o₂ ≡ splice o i (p ++ q)
splice_next o i p q {o₁} h e z d = splice_then o i p q h e (d ∙ ap (λ (k : ℕ). splice o₁ k q) z)

-- a loop that writes f 0, f 1, .. from place i on
pub splice_start : (o : List ℕ) (i : ℕ) (f : ℕ → ℕ) → o ≡ splice o i (tab 0 f)
unfolding tab
splice_start o i f = splice_none o i

pub splice_more : (o : List ℕ) (i k : ℕ) (f : ℕ → ℕ) {out : List ℕ} {v : ℕ} → i + k < length o → length out ≡ length o → out ≡ splice o i (tab k f) → v ≡ f k → set out (i + k) v ≡ splice o i (tab (k + 1) f)
splice_more o i k f {out} {v} h l e d =
    let t = length-tab k f in
    let z : i + k ≡ i + length (tab k f) = ap (λ (n : ℕ). i + n) (sym t) in
    splice_next o i (tab k f) (v ∷ []) (omega arith) e z (splice_one out (i + k) v (omega arith))
    ∙ ap (λ (p : List ℕ). splice o i p) (ap (λ (x : ℕ). tab k f ++ (x ∷ [])) d ∙ sym (tab_snoc k f) ∙ ap (λ (n : ℕ). tab n f) (sym (add-one k)))

-- a list is the tab of its own words
pub tab_self : (l : List ℕ) → tab (length l) (λ i. at l i) ≡ l
tab_self l = sym (tab_of l (length l) (λ i. at l i) refl (λ i h. refl))

-- at the very front
pub splice_front : (o p : List ℕ) → splice o 0 p ≡ p ++ drop (length p) o
unfolding splice
splice_front o p = rw (zero-add (length p))

-- a bit's character, as the machine makes it
pub char_byte : (b : Bool) → 48 + bool_byte b ≡ cond b 49 48
char_byte true = refl
char_byte false = refl
