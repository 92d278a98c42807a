-- Of two leaders the one that `lead_of` gives, by the numbers of wires being 0 or not (`lead_first`, `lead_second`, `lead_both`), and of three, whichever two are taken first
-- (`lead_order`): being ahead is associative, moving a wire keeps the drift, and moves add up modulo 2^32.
-- Assumes nothing.
use mathlib.Core.Path.{◌≡◌, refl, sym, ap, ap₂, ◌∙◌}
use mathlib.Core.Bool.{Bool, cond}
use mathlib.Core.Logic.{⊎_elim}
use Prim.Native.Nat.{ℕ, ◌+◌, ◌%◌, ◌<◌}
use native.Mathlib.Nat.{eq-zero-or-pos, add_assoc, add-mod-mod}
use native.Mathlib.Omega.{arith}
use lib.Dec.{eqb, ltb}
use borrow.Author.Tests.{eq-eqb, ne_eqb}
use Rattle.ring.specs.Word.{Q}
use Rattle.ring.proofs.Value.{by_test}
use Rattle.drift_report.specs.declared.leading.Leader.{Leader}
use Rattle.drift_report.specs.Leader.{ahead, lead_of}
use Rattle.drift_report.specs.Merge.{moved}
use Rattle.drift_report.proofs.Leaders.{at_wire, lead, ahead_assoc}

module _ (a : Leader) (m : ℕ) (b : Leader) (n : ℕ) where
  pub lead_first : n ≡ 0 → lead_of a m b n ≡ a
  unfolding lead_of
  lead_first e = rw (eq-eqb n 0 e)

  pub lead_second : (n ≡ 0 → ⊥) → m ≡ 0 → lead_of a m b n ≡ b
  unfolding lead_of
  lead_second some e = rw (ne_eqb n 0 some, eq-eqb m 0 e)

  pub lead_both : (n ≡ 0 → ⊥) → (m ≡ 0 → ⊥) → lead_of a m b n ≡ ahead a b
  unfolding lead_of
  lead_both some more = rw (ne_eqb n 0 some, ne_eqb m 0 more)

-- Of three, each among so many wires. Where one has no wires both sides are `lead_of` of the other two; else being ahead is associative.
lead_assoc : (a : Leader) (m : ℕ) (b : Leader) (n : ℕ) (c : Leader) (p : ℕ) → lead_of (lead_of a m b n) (m + n) c p ≡ lead_of a m (lead_of b n c p) (n + p)
lead_assoc a m b n c p = ⊎_elim
    (λ (e : p ≡ 0). lead_first (lead_of a m b n) (m + n) c p e ∙ sym (ap₂ (lead_of a m) (lead_first b n c p e) (let q : n + p ≡ n = omega arith in q)))
    (λ (some : 0 < p). ⊎_elim
    (λ (e : n ≡ 0). ap₂ (λ (x : Leader) (k : ℕ). lead_of x k c p) (lead_first a m b n e) (let q : m + n ≡ m = omega arith in q)
    ∙ sym (ap₂ (lead_of a m) (lead_second b n c p (λ z. omega arith) e) (let q : n + p ≡ p = omega arith in q)))
    (λ (more : 0 < n). ⊎_elim
    (λ (e : m ≡ 0). ap₂ (λ (x : Leader) (k : ℕ). lead_of x k c p) (lead_second a m b n (λ z. omega arith) e) (let q : m + n ≡ n = omega arith in q)
    ∙ sym (lead_second a m (lead_of b n c p) (n + p) (λ z. omega arith) e))
    (λ (most : 0 < m). lead_both (lead_of a m b n) (m + n) c p (λ z. omega arith) (λ z. omega arith)
    ∙ ap (λ (x : Leader). ahead x c) (lead_both a m b n (λ z. omega arith) (λ z. omega arith))
    ∙ ahead_assoc a b c
    ∙ sym (lead_both a m (lead_of b n c p) (n + p) (λ z. omega arith) (λ z. omega arith) ∙ ap (ahead a) (lead_both b n c p (λ z. omega arith) (λ z. omega arith))))
    (eq-zero-or-pos m))
    (eq-zero-or-pos n))
    (eq-zero-or-pos p)

lead_moved : (k : ℕ) (a : Leader) (m : ℕ) (b : Leader) (n : ℕ) → lead_of (moved k a) m (moved k b) n ≡ moved k (lead_of a m b n)
unfolding lead_of ahead
lead_moved k a m b n = by_test (eqb n 0)
    (λ (none : Bool). cond none (moved k a) (cond (eqb m 0) (moved k b) (ahead (moved k a) (moved k b))) ≡ moved k (cond none a (cond (eqb m 0) b (ahead a b))))
    (λ t. refl)
    (λ t. by_test (eqb m 0) (λ (none : Bool). cond none (moved k b) (ahead (moved k a) (moved k b)) ≡ moved k (cond none b (ahead a b)))
    (λ u. refl)
    (λ u. by_test (ltb (lead a) (lead b)) (λ (less : Bool). cond less (moved k b) (moved k a) ≡ moved k (cond less b a)) (λ v. refl) (λ v. refl)))

moved_twice : (j k : ℕ) (a : Leader) → moved j (moved k a) ≡ moved (j + k) a
moved_twice j k a = ap (λ (w : ℕ). at_wire w a.drift) (add-mod-mod j (k + a.wire) Q ∙ ap (λ (w : ℕ). w % Q) (sym (add_assoc j k a.wire)))

-- Of three lists of wires, one after the other: each leader is moved by the wires before it.
pub lead_order : (a : Leader) (m : ℕ) (b : Leader) (n : ℕ) (c : Leader) (p : ℕ)
    → lead_of (lead_of a m (moved m b) n) (m + n) (moved (m + n) c) p ≡ lead_of a m (moved m (lead_of b n (moved n c) p)) (n + p)
lead_order a m b n c p =
    lead_assoc a m (moved m b) n (moved (m + n) c) p
    ∙ ap (λ (x : Leader). lead_of a m x (n + p)) (ap (λ (x : Leader). lead_of (moved m b) n x p) (sym (moved_twice m n c)) ∙ lead_moved m b n (moved n c) p)
