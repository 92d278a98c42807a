-- Sums of polynomials as a loop meets them: one more product behind a sum that was begun with something else, and a sum that was begun with nothing.
-- Assumes nothing.
use mathlib.Core.Path.{◌≡◌, sym, ap, ap₂, ◌∙◌}
use mathlib.Core.List.{List}
use Prim.Native.Nat.{ℕ, zero, suc, ◌+◌, ◌%◌, ◌<◌}
use native.Mathlib.Nat.{mod-lt}
use native.Mathlib.Numerals.{add-one}
use native.Mathlib.Omega.{arith}
use lib.ListN.{length}
use Rattle.ring.specs.Word.{Q, Q_pos, at}
use Rattle.ring.specs.Sums.{tab}
use Rattle.ring.specs.Poly.{plus, total}
use Rattle.ring.specs.Pair.{Pair}
use Rattle.params.specs.declared.Params.{Params}
use Rattle.params.specs.Sizes.{size}
use Rattle.trgsw.specs.External.{external}
use Rattle.ring.proofs.Tab.{at-tab, length-tab, tab_ext, tab_of, tab_below}

-- the later of two additions first
pub plus_swap : (N : ℕ) (t o g : List ℕ) → plus N (plus N t o) g ≡ plus N (plus N t g) o
unfolding plus Q
plus_swap N t o g = tab_ext N _ _ (λ i l.
    let e = at-tab N (λ i. (at t i + at o i) % Q) i l in
    let f = at-tab N (λ i. (at t i + at g i) % Q) i l in
    omega arith)

-- nothing before
pub plus_none : (N : ℕ) (o : List ℕ) → length o ≡ N → ((i : ℕ) → at o i < Q) → o ≡ plus N (tab N (λ i. 0)) o
unfolding plus Q
plus_none N o e w = tab_of o N _ e (λ i l. let z = at-tab N (λ i. 0) i l in let b = w i in omega arith)

-- nothing behind
pub plus_nothing : (N : ℕ) (t : List ℕ) → length t ≡ N → ((i : ℕ) → at t i < Q) → plus N t (tab N (λ i. 0)) ≡ t
unfolding plus Q
plus_nothing N t e w = sym (tab_of t N _ e (λ i l. let z = at-tab N (λ i. 0) i l in let b = w i in omega arith))

-- a total has N words
pub length-total : (N n : ℕ) (f : ℕ → List ℕ) → length (total N n f) ≡ N
unfolding total plus
length-total N zero f = length-tab N _
length-total N (suc n) f = length-tab N _

pub total_below : (N n : ℕ) (f : ℕ → List ℕ) (i : ℕ) → at (total N n f) i < Q
unfolding total plus
total_below N zero f i = tab_below N (λ i. 0) (λ i. Q_pos) i
total_below N (suc n) f i = tab_below N _ (λ i. mod-lt _ Q_pos) i

-- an external product added to a pair that was cleared
module _ (p : Params) (rows : List ℕ) (x : Pair) (m : ℕ) (e : m ≡ size p) where
  pub alone_a : plus (size p) (external p rows x).a (tab m (λ i. 0)) ≡ (external p rows x).a
  unfolding external
  alone_a = ap (λ (k : ℕ). plus (size p) (external p rows x).a (tab k (λ i. 0))) e ∙ plus_nothing (size p) _ (length-total (size p) _ _) (total_below (size p) _ _)

  pub alone_b : plus (size p) (external p rows x).b (tab m (λ i. 0)) ≡ (external p rows x).b
  unfolding external
  alone_b = ap (λ (k : ℕ). plus (size p) (external p rows x).b (tab k (λ i. 0))) e ∙ plus_nothing (size p) _ (length-total (size p) _ _) (total_below (size p) _ _)

-- ---- a loop that adds f 0, f 1, .. to a polynomial o

module _ (N : ℕ) (f : ℕ → List ℕ) (o : List ℕ) where
  pub add_begun : length o ≡ N → ((i : ℕ) → at o i < Q) → o ≡ plus N (total N 0 f) o
  unfolding total
  add_begun e w = plus_none N o e w

  pub add_more : (r : ℕ) {out new g : List ℕ} → out ≡ plus N (total N r f) o → g ≡ f r → new ≡ plus N out g → new ≡ plus N (total N (r + 1) f) o
  unfolding total
  add_more r eo eg en = en ∙ ap₂ (plus N) eo eg ∙ plus_swap N (total N r f) o (f r) ∙ rw add-one
