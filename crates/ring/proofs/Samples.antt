-- The trivial sample, and what a loop leaves that subtracts list after list: the first less their sum. Word by word, and by induction on the number of lists.
-- Assumes nothing.
use Rattle.std.proofs.Common.{◌≡◌, ℕ, zero, suc, ◌+◌, ◌%◌, ◌<◌, ◌≤◌, Bool, true, false, cond, eqb, List, [], ◌∷◌, ◌++◌, length, set, sym, refl, ap, ◌∙◌, ap₂, add_assoc, le_antisymm, add-one, arith, eq-eqb, ne_eqb}
use native.Mathlib.Nat.{mod-add-mod}
use lib.Seq.{set_at}
use Rattle.ring.specs.Word.{Q, Q_pos, at, neg}
use Rattle.ring.specs.Sums.{tab}
use Rattle.ring.specs.Poly.{plus, minus, total}
use Rattle.ring.specs.Phase.{trivial}
use Rattle.ring.proofs.Tab.{at-tab, length-tab, tab_ext, tab_of, tab_snoc, tab_below}
use Rattle.ring.proofs.Words.{neg-mod, neg-plus, glue}

-- ---- a loop that subtracts f 0, f 1, .. from o

-- one word less two others
less_twice : (o t u : ℕ) → ((o + neg t) % Q + neg u) % Q ≡ (o + neg ((t + u) % Q)) % Q
less_twice o t u =
    mod-add-mod (o + neg t) Q (neg u) ∙ ap (λ (n : ℕ). n % Q) (add_assoc o (neg t) (neg u))
    ∙ glue o (neg t + neg u) (neg ((t + u) % Q)) (sym (neg-plus t u) ∙ ap (λ (n : ℕ). n % Q) (sym (neg-mod (t + u))))

module _ (N : ℕ) (f : ℕ → List ℕ) (o : List ℕ) where
  pub less_none : length o ≡ N → ((x : ℕ) → at o x < Q) → o ≡ minus N o (total N 0 f)
  unfolding minus total neg Q
  less_none e h = tab_of o N _ e (λ x l. let z = at-tab N (λ i. 0) x l in let b = h x in omega arith)

  pub less_more : (j : ℕ) {out new : List ℕ} → out ≡ minus N o (total N j f) → new ≡ minus N out (f j) → new ≡ minus N o (total N (j + 1) f)
  unfolding minus plus total
  less_more j eo en =
      en ∙ rw (eo, add-one)
      (tab_ext N _ _ (λ x l.
      ap (λ (v : ℕ). (v + neg (at (f j) x)) % Q) (at-tab N (λ y. (at o y + neg (at (total N j f) y)) % Q) x l)
      ∙ less_twice (at o x) (at (total N j f) x) (at (f j) x)
      ∙ ap (λ (v : ℕ). (at o x + neg v) % Q) (sym (at-tab N (λ y. (at (total N j f) y + at (f j) y) % Q) x l))))

  pub less_done : {j n : ℕ} {out : List ℕ} → j ≤ n → n ≤ j → out ≡ minus N o (total N j f) → out ≡ minus N o (total N n f)
  less_done a c e = rw (le_antisymm a c) at e

-- nothing is subtracted
pub less_empty : (N : ℕ) (o : List ℕ) → length o ≡ N → ((x : ℕ) → at o x < Q) → o ≡ minus N o []
unfolding minus neg Q
less_empty N o e h = tab_of o N _ e (λ x l. let b = h x in omega arith)

-- lists of the same words have the same sum
pub total_ext : (N n : ℕ) (f g : ℕ → List ℕ) → ((i x : ℕ) → i < n → x < N → at (f i) x ≡ at (g i) x) → total N n f ≡ total N n g
unfolding plus total
total_ext N zero f g h = refl
total_ext N (suc n) f g h =
    tab_ext N _ _ (λ x l. ap₂ (λ (u v : ℕ). (u + v) % Q) (ap (λ (t : List ℕ). at t x) (total_ext N n f g (λ i y k m. h i y (omega arith) m))) (h n x (omega arith) l))

-- ---- the trivial sample

pub trivial-length : (n b : ℕ) → length (trivial n b) ≡ n + 1
unfolding trivial
trivial-length n b = length-tab (n + 1) _

pub trivial_below : (n b : ℕ) → b < Q → (x : ℕ) → at (trivial n b) x < Q
unfolding trivial
trivial_below n b h = tab_below (n + 1) _ (λ i. go (eqb i n))
  where
    go : (q : Bool) → cond q b 0 < Q
    go true = h
    go false = Q_pos

-- zeros, and b stored in the last place
pub trivial_stored : (n b : ℕ) → set (tab (n + 1) (λ i. 0)) n b ≡ trivial n b
unfolding trivial
trivial_stored n b =
    ap (λ (k : ℕ). set (tab k (λ i. 0)) n b) (add-one n) ∙ ap (λ (l : List ℕ). set l n b) (tab_snoc n (λ i. 0)) ∙ set_at (tab n (λ i. 0)) 0 [] b n (length-tab n (λ i. 0))
    ∙ ap₂ (λ (l : List ℕ) (v : ℕ). l ++ (v ∷ [])) (tab_ext n (λ i. 0) f (λ i l. sym (rw (ne_eqb i n (λ e. let q : ⊥ = omega arith in q))))) (sym (rw (eq-eqb n n refl)))
    ∙ sym (tab_snoc n f) ∙ ap (λ (k : ℕ). tab k f) (sym (add-one n))
  where
    f : ℕ → ℕ
    f i = cond (eqb i n) b 0
