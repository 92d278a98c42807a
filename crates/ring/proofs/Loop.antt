-- Loops that add to every word of a slice: `add_by` says what one call does, `acc_to` where a loop of such calls stands.
-- A turn adds one term to each word's sum; lists are equal word by word.
-- Assumes nothing.
use Rattle.std.proofs.Common.{◌≡◌, ℕ, ◌+◌, ◌%◌, ◌<◌, ◌≤◌, List, length, sym, refl, ap, ◌∙◌, add-zero, mod-eq_of_lt, le_antisymm, add-one, arith}
use Rattle.ring.specs.Word.{Q, at}
use Rattle.ring.specs.Sums.{sum_to, tab}
use Rattle.ring.specs.Poly.{plus}
use Rattle.ring.proofs.Tab.{length-tab, at-tab, tab_ext, tab_of}
use Rattle.ring.specs.Private.{add_by, acc_to}

pub length_add : (o : List ℕ) (f : ℕ → ℕ) → length (add_by o f) ≡ length o
unfolding add_by
length_add o f = length-tab (length o) _

pub length_acc : (m : ℕ) (b : ℕ → ℕ) (g : ℕ → ℕ → ℕ) (j : ℕ) → length (acc_to m b g j) ≡ m
unfolding acc_to
length_acc m b g j = length-tab m _

pub add_ext : (o : List ℕ) (f g : ℕ → ℕ) → ((x : ℕ) → x < length o → f x ≡ g x) → add_by o f ≡ add_by o g
unfolding add_by
add_ext o f g h = tab_ext (length o) _ _ (λ x l. rw (h x l))

-- terms count modulo Q
pub add_mod_ext : (o : List ℕ) (f g : ℕ → ℕ) → ((x : ℕ) → x < length o → f x % Q ≡ g x % Q) → add_by o f ≡ add_by o g
unfolding add_by Q
add_mod_ext o f g h = tab_ext (length o) _ _ (λ x l. let e = h x l in omega arith)

-- nothing is added
pub add_none : (o : List ℕ) (f : ℕ → ℕ) → ((x : ℕ) → at o x < Q) → ((x : ℕ) → x < length o → f x ≡ 0) → o ≡ add_by o f
unfolding add_by
add_none o f w h = tab_of o (length o) _ refl (λ x l. sym (ap (λ (y : ℕ). (at o x + y) % Q) (h x l) ∙ ap (λ (y : ℕ). y % Q) (add-zero (at o x)) ∙ mod-eq_of_lt (w x)))

-- one addition is a sum of lists
pub add_plus : (o : List ℕ) (f : ℕ → ℕ) (b : List ℕ) → ((x : ℕ) → x < length o → at b x ≡ f x) → add_by o f ≡ plus (length o) o b
unfolding add_by plus
add_plus o f b h = tab_ext (length o) _ _ (λ x l. rw (h x l))

module _ (m : ℕ) (b : ℕ → ℕ) (g : ℕ → ℕ → ℕ) where
  -- before the loop
  pub acc_none : (o : List ℕ) → o ≡ tab m b → ((x : ℕ) → x < m → b x < Q) → o ≡ acc_to m b g 0
  unfolding acc_to sum_to
  acc_none o e w = e ∙ tab_ext m _ _ (λ x l. sym (ap (λ (y : ℕ). y % Q) (add-zero (b x)) ∙ mod-eq_of_lt (w x l)))

  -- a turn adds g x j to each word x
  pub acc_more : (j : ℕ) (f : ℕ → ℕ) → ((x : ℕ) → x < m → f x ≡ g x j) → {out new : List ℕ} → out ≡ acc_to m b g j → new ≡ add_by out f → new ≡ acc_to m b g (j + 1)
  unfolding add_by acc_to sum_to Q
  acc_more j f h {out} {new} eo en =
      en ∙ rw (eo, length-tab m (λ x. (b x + sum_to j (g x)) % Q), add-one)
      (tab_ext m _ _ (λ x l. let q = at-tab m (λ x. (b x + sum_to j (g x)) % Q) x l in let r = h x l in omega arith))

  pub acc_done : {j n : ℕ} {out : List ℕ} → j ≤ n → n ≤ j → out ≡ acc_to m b g j → out ≡ acc_to m b g n
  acc_done a c e = rw (le_antisymm a c) at e
