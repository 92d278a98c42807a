-- The worst of what is brought in tells of all: they are inside exactly where the one that is largest in absolute value is. Induction on the list, the worst so far being carried along.
-- Assumes nothing.
use mathlib.Core.Path.{◌≡◌, refl, ap, ◌∙◌}
use mathlib.Core.Logic.{⊎_elim}
use mathlib.Core.Bool.{Bool, true, false, cond}
use mathlib.Core.List.{List, [], ◌∷◌}
use Prim.Native.Nat.{ℕ, ◌≤◌, ◌<◌}
use native.Mathlib.Omega.{arith}
use borrow.Author.Tests.{lt-ltb, le-ltb}
use lib.Dec.{ltb}
use lib.IntN.{ℤ, pos, nat_abs}
use Rattle.circuit.proofs.Accept.{lt_or_ge}
use Rattle.drift.specs.Whole.{inside}
use Rattle.drift.specs.Circuit.{all_of, worse, worst_from, worst_of}
use Rattle.ring.specs.Word.{eighth}

-- of two sizes the larger tells
larger : (m n : ℕ) → m ≤ n → cond (ltb m eighth) (ltb n eighth) false ≡ ltb n eighth
larger m n h =
    ⊎_elim
    (λ (l : n < eighth). rw (lt-ltb n eighth l, lt-ltb m eighth (omega arith)))
    (λ (l : eighth ≤ n). rw (le-ltb n eighth l) (never (ltb m eighth)))
    (lt_or_ge n eighth)
  where
    never : (b : Bool) → cond b false false ≡ false
    never true = refl
    never false = refl

swapped : (a b : Bool) → cond a b false ≡ cond b a false
swapped true true = refl
swapped true false = refl
swapped false true = refl
swapped false false = refl

worse_tells : (x y : ℤ) → cond (inside x) (inside y) false ≡ inside (worse x y)
unfolding inside worse
worse_tells x y =
    ⊎_elim
    (λ (l : nat_abs x < nat_abs y). rw (lt-ltb (nat_abs x) (nat_abs y) l) (larger (nat_abs x) (nat_abs y) (omega arith)))
    (λ (l : nat_abs y ≤ nat_abs x). rw (le-ltb (nat_abs x) (nat_abs y) l) (swapped (ltb (nat_abs x) eighth) (ltb (nat_abs y) eighth) ∙ larger (nat_abs y) (nat_abs x) l))
    (lt_or_ge (nat_abs x) (nat_abs y))

grouped : (a b c : Bool) → cond a (cond b c false) false ≡ cond (cond a b false) c false
grouped true b c = refl
grouped false b c = refl

settled : (b : Bool) → cond b true false ≡ b
settled true = refl
settled false = refl

from : (w : ℤ) (ds : List ℤ) → cond (inside w) (all_of ds) false ≡ inside (worst_from w ds)
unfolding all_of worst_from
from w [] = settled (inside w)
from w (d ∷ ds) = grouped (inside w) (inside d) (all_of ds) ∙ ap (λ (b : Bool). cond b (all_of ds) false) (worse_tells w d) ∙ from (worse w d) ds

-- nothing is brought in, and 0 is inside
pub worst_tells : (ds : List ℤ) → all_of ds ≡ inside (worst_of ds)
unfolding inside
worst_tells ds = from (pos 0) ds
