-- The phase of a sum of samples is the sum of their phases, that of a trivial sample its word; by induction on the number of samples.
-- Assumes nothing.
use mathlib.Core.Path.{◌≡◌, refl, ap, ◌∙◌}
use mathlib.Core.List.{List, []}
use Prim.Native.Nat.{ℕ, zero, suc, ◌+◌, ◌*◌, ◌%◌, ◌<◌}
use native.Mathlib.Nat.{zero-mul}
use native.Mathlib.Omega.{arith}
use borrow.Author.Tests.{eq-eqb, ne_eqb}
use Rattle.ring.specs.Word.{Q, at, neg}
use Rattle.ring.specs.Sums.{sum_to, tab}
use Rattle.ring.specs.Poly.{total}
use Rattle.ring.specs.Phase.{inner, phase_of, trivial}
use Rattle.ring.proofs.Tab.{at-tab}
use Rattle.ring.proofs.SumLaws.{sum_ext, sum_zero}
use Rattle.tlwe.proofs.Phases.{phase_add}

module _ (n : ℕ) (key : List ℕ) where
  -- masks that are 0 leave b
  bare : (c : List ℕ) (b : ℕ) → ((x : ℕ) → x < n → at c x ≡ 0) → at c n ≡ b → phase_of n key c ≡ b % Q
  unfolding phase_of inner neg Q
  bare c b h e =
      let s : sum_to n (λ i. at c i * at key i) ≡ 0 = sum_ext n _ (λ i. 0) (λ i l. ap (λ (x : ℕ). x * at key i) (h i l) ∙ zero-mul (at key i)) ∙ sum_zero n in
      omega arith

  pub phase_empty : phase_of n key [] ≡ 0
  unfolding Q
  phase_empty = bare [] 0 (λ x l. refl) refl

  pub phase_trivial : (b : ℕ) → phase_of n key (trivial n b) ≡ b % Q
  unfolding trivial
  phase_trivial b =
      bare (trivial n b) b
      (λ x l. at-tab (n + 1) _ x (omega arith) ∙ rw (ne_eqb x n (λ e. let q : ⊥ = omega arith in q)))
      (at-tab (n + 1) _ n (omega arith) ∙ rw (eq-eqb n n refl))

  pub phase_total : (m : ℕ) (f : ℕ → List ℕ) → phase_of n key (total (n + 1) m f) % Q ≡ sum_to m (λ i. phase_of n key (f i)) % Q
  unfolding total sum_to Q
  phase_total zero f = let e = bare (tab (n + 1) (λ i. 0)) 0 (λ x l. at-tab (n + 1) (λ i. 0) x (omega arith)) (at-tab (n + 1) (λ i. 0) n (omega arith)) in omega arith
  phase_total (suc m) f = let e = phase_add n key (total (n + 1) m f) (f m) in let ih = phase_total m f in omega arith
