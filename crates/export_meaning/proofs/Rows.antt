-- Lines given by a closed form, and lists of lines one after another: their texts, their lengths, the line at a place, and that they set wire after wire.
-- Inductions on how many there are.
-- Assumes nothing.
use mathlib.Core.Path.{◌≡◌, refl, sym, ap, ap₂, subst, ◌∙◌}
use mathlib.Core.Logic.{⊎_elim}
use mathlib.Core.List.{List, [], ◌∷◌, ◌++◌, append-nil}
use Prim.Native.Nat.{ℕ, zero, suc, ◌+◌, ◌-◌, ◌≤◌, ◌<◌}
use native.Mathlib.Omega.{arith}
use lib.ListN.{length, length-append, get_or-append}
use lib.Seq.{get_or_at, get_or-append-add}
use Rattle.ring.specs.Sums.{sum_to}
use Rattle.ring.specs.Lists.{joined}
use Rattle.circuit.proofs.Accept.{lt_or_ge}
use Rattle.export_meaning.proofs.Lines.{Line, text_of, lines_text, lines_append, no_line, line_at, Ordered}

-- f 0, f 1, .. f (m - 1)
unfoldable pub row : ℕ → (ℕ → Line) → List Line
row zero f = []
row (suc m) f = row m f ++ (f m ∷ [])

-- the lists f 0 .. f (g - 1), one after another
unfoldable pub flat : ℕ → (ℕ → List Line) → List Line
flat zero f = []
flat (suc g) f = flat g f ++ f g

pub length-row : (m : ℕ) (f : ℕ → Line) → length (row m f) ≡ m
unfolding row
length-row zero f = refl
length-row (suc m) f = let l = length-append (row m f) (f m ∷ []) in let i = length-row m f in omega arith

pub row_at : (m : ℕ) (f : ℕ → Line) (s : ℕ) → s < m → line_at (row m f) s ≡ f s
unfolding row
row_at zero f s h = absurd (let q : ⊥ = omega arith in q)
row_at (suc m) f s h =
    let l = length-row m f in
    ⊎_elim
    (λ (b : s < m). get_or-append (row m f) (f m ∷ []) no_line s (omega arith) ∙ row_at m f s b)
    (λ (b : m ≤ s). let e : s ≡ m = omega arith in get_or_at (row m f) (f m) [] no_line s (omega arith) ∙ ap f (sym e))
    (lt_or_ge s m)

pub row_text : (m : ℕ) (f : ℕ → Line) → lines_text (row m f) ≡ joined m (λ s. text_of (f s))
unfolding row joined lines_text
row_text zero f = refl
row_text (suc m) f = lines_append (row m f) (f m ∷ []) ∙ ap₂ (λ (a b : List ℕ). a ++ b) (row_text m f) (append-nil (text_of (f m)))

pub flat_text : (g : ℕ) (f : ℕ → List Line) → lines_text (flat g f) ≡ joined g (λ r. lines_text (f r))
unfolding flat joined lines_text
flat_text zero f = refl
flat_text (suc g) f = lines_append (flat g f) (f g) ∙ ap (λ (a : List ℕ). a ++ lines_text (f g)) (flat_text g f)

pub length-flat : (g : ℕ) (f : ℕ → List Line) → length (flat g f) ≡ sum_to g (λ r. length (f r))
unfolding flat sum_to
length-flat zero f = refl
length-flat (suc g) f = length-append (flat g f) (f g) ∙ ap (λ (n : ℕ). n + length (f g)) (length-flat g f)

-- line s of list r
pub flat_at : (g : ℕ) (f : ℕ → List Line) (r s : ℕ) → r < g → s < length (f r) → (length (flat r f) + s < length (flat g f)) × (line_at (flat g f) (length (flat r f) + s) ≡ line_at (f r) s)
unfolding flat
flat_at zero f r s h l = absurd (let q : ⊥ = omega arith in q)
flat_at (suc g) f r s h l =
    let a = length-append (flat g f) (f g) in
    ⊎_elim
    (λ (b : r < g).
    let i = flat_at g f r s b l in
    (omega arith, get_or-append (flat g f) (f g) no_line (length (flat r f) + s) i.0 ∙ i.1))
    (λ (b : g ≤ r).
    let e : r ≡ g = omega arith in
    let lg : s < length (f g) = subst (λ (k : ℕ). s < length (f k)) e l in
    let z = ap (λ (k : ℕ). length (flat k f)) e in
    (omega arith, ap (λ (k : ℕ). line_at (flat g f ++ f g) (length (flat k f) + s)) e ∙ get_or-append-add (flat g f) (f g) s no_line ∙ ap (λ (k : ℕ). line_at (f k) s) (sym e)))
    (lt_or_ge r g)

-- ---- wire after wire

-- the lines behind i wires and so many lines
unfoldable pub Chain : ℕ → ℕ → List Line → Type 0
Chain i from ls = (s : ℕ) → s < length ls → Ordered i (from + s) (line_at ls s)

pub chained : (i : ℕ) (ls : List Line) → Chain i 0 ls → (j : ℕ) → j < length ls → Ordered i j (line_at ls j)
unfolding Chain
chained i ls c j h = let e : 0 + j ≡ j = omega arith in subst (λ (k : ℕ). Ordered i k (line_at ls j)) e (c j h)

pub chain_append : (i from : ℕ) (a b : List Line) → Chain i from a → Chain i (from + length a) b → Chain i from (a ++ b)
unfolding Chain
chain_append i from a b ca cb s h =
    let l = length-append a b in
    ⊎_elim
    (λ (k : s < length a). subst (λ (x : Line). Ordered i (from + s) x) (sym (get_or-append a b no_line s k)) (ca s k))
    (λ (k : length a ≤ s).
    let r = s - length a in
    let e : length a + r ≡ s = omega arith in
    let f : from + length a + r ≡ from + s = omega arith in
    subst (λ (n : ℕ). Ordered i n (line_at (a ++ b) s)) f
    (subst (λ (x : Line). Ordered i (from + length a + r) x) (sym (get_or-append-add a b r no_line) ∙ ap (line_at (a ++ b)) e) (cb r (omega arith))))
    (lt_or_ge s (length a))

pub chain_flat : (i g : ℕ) (f : ℕ → List Line) → ((r : ℕ) → r < g → Chain i (length (flat r f)) (f r)) → Chain i 0 (flat g f)
unfolding flat Chain
chain_flat i zero f h = λ s l. absurd (let q : ⊥ = omega arith in q)
chain_flat i (suc g) f h =
    let e : 0 + length (flat g f) ≡ length (flat g f) = omega arith in
    chain_append i 0 (flat g f) (f g) (chain_flat i g f (λ r l. h r (omega arith))) (subst (λ (n : ℕ). Chain i n (f g)) (sym e) (h g (omega arith)))

pub chain_row : (i from m : ℕ) (f : ℕ → Line) → ((s : ℕ) → s < m → Ordered i (from + s) (f s)) → Chain i from (row m f)
unfolding Chain
chain_row i from m f h s l =
    let n = length-row m f in
    subst (λ (x : Line). Ordered i (from + s) x) (sym (row_at m f s (omega arith))) (h s (omega arith))
