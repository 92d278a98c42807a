-- Where the identity of a rotation starts and what it turns by: the phase of a vector whose a is zero, as the gates' and a table's, is its b, and the amount turned is b's
-- amount plus the sum of the masks' under the key, modulo 2N.
-- Assumes nothing.
use mathlib.Core.Path.{◌≡◌, ap, ◌∙◌}
use mathlib.Core.List.{List}
use Prim.Native.Nat.{ℕ, zero, suc, ◌+◌, ◌-◌, ◌*◌, ◌%◌, ◌^◌, ◌<◌}
use native.Mathlib.Nat.{mod-add-mod, zero-mul}
use native.Mathlib.Omega.{arith}
use Rattle.ring.specs.Word.{Q, neg, at}
use Rattle.ring.specs.Sums.{sum_to, tab}
use Rattle.ring.specs.Poly.{before, minus, times}
use Rattle.ring.specs.Phase.{phase}
use Rattle.ring.proofs.Tab.{at-tab, tab_ext}
use Rattle.ring.proofs.SumLaws.{sum_ext, sum_zero}
use Rattle.params.specs.declared.Params.{Params}
use Rattle.params.specs.Sizes.{size}
use Rattle.rotation.specs.Amount.{mask_amount, body_amount}
use Rattle.blind_rotation.specs.Drift.{turn_to}

-- nothing times z
zero-times : (N : ℕ) (z : List ℕ) → times N (tab N (λ i. 0)) z ≡ tab N (λ i. 0)
unfolding times Q
zero-times N z = tab_ext N _ _ (λ k l.
    ap (λ (n : ℕ). n % Q) (sum_ext N _ (λ i. 0) (λ i li. ap (λ (n : ℕ). n * before N z k i) (at-tab N (λ i. 0) i li) ∙ zero-mul (before N z k i)) ∙ sum_zero N))

pub zero-phase : (N : ℕ) (z b : List ℕ) (i : ℕ) → i < N → at (phase N z (tab N (λ i. 0)) b) i ≡ at b i % Q
unfolding phase minus neg Q
zero-phase N z b i l =
    let f : at (times N (tab N (λ i. 0)) z) i ≡ 0 = ap (λ (t : List ℕ). at t i) (zero-times N z) ∙ at-tab N (λ i. 0) i l in
    at-tab N _ i l ∙ (let q : (at b i + (2 ^ 32 - at (times N (tab N (λ i. 0)) z) i % 2 ^ 32)) % 2 ^ 32 ≡ at b i % 2 ^ 32 = omega arith in q)

pub turn_sum : (p : Params) (s src : List ℕ) (k : ℕ)
    → turn_to p s src k ≡ (body_amount p (at src p.n) + sum_to k (λ i. at s i * mask_amount p (at src i))) % (size p + size p)
unfolding turn_to sum_to
turn_sum p s src zero = ap (λ (n : ℕ). n % (size p + size p)) (let q : body_amount p (at src p.n) ≡ body_amount p (at src p.n) + 0 = omega arith in q)
turn_sum p s src (suc k) =
    ap (λ (n : ℕ). (n + at s k * mask_amount p (at src k)) % (size p + size p)) (turn_sum p s src k)
    ∙ mod-add-mod _ (size p + size p) _
    ∙ ap (λ (n : ℕ). n % (size p + size p)) (let S : ℕ = sum_to k (λ i. at s i * mask_amount p (at src i)) in
    let q : body_amount p (at src p.n) + S + at s k * mask_amount p (at src k) ≡ body_amount p (at src p.n) + (S + at s k * mask_amount p (at src k)) = omega arith in q)
