-- The front of a rotation, whatever vector is rotated: where its a is zero, as the gates' vector's and a table's, the phase of the rotated pair has at place 0 the coefficient that
-- the turns bring there, with true negation, plus the tracked drift (01, Drift). It is the identity of the blind rotation, which holds for any key rows, read at place 0.
-- Assumes nothing.
use mathlib.Core.Path.{◌≡◌, sym, ap, ◌∙◌}
use mathlib.Core.Bool.{Bool, cond}
use mathlib.Core.List.{List}
use Prim.Native.Nat.{ℕ, ◌+◌, ◌-◌, ◌%◌, ◌≤◌, ◌<◌}
use native.Mathlib.Nat.{mod-lt, mod-mod, mod-add-mod}
use native.Mathlib.Omega.{arith}
use lib.Dec.{ltb, ltb→lt, nltb→le}
use Rattle.ring.specs.Word.{Q, at, neg}
use Rattle.ring.specs.Sums.{tab}
use Rattle.ring.specs.Turn.{source, negating}
use Rattle.ring.specs.Phase.{phase}
use Rattle.ring.specs.Pair.{Pair}
use Rattle.ring.proofs.Tab.{at-tab}
use Rattle.ring.proofs.Value.{by_test}
use Rattle.ring.proofs.Places.{at-plus}
use Rattle.params.specs.declared.Params.{Params}
use Rattle.params.specs.Ranges.{InRange}
use Rattle.params.specs.Sizes.{size}
use Rattle.params.proofs.Ranges.{size_from}
use Rattle.blind_rotation.specs.Blind.{blind_rotated}
use Rattle.blind_rotation.specs.Drift.{turn_to, drift_to}
use Rattle.blind_rotation.proofs.Start.{zero-phase}
use Rattle.blind_rotation.proofs.Identity.{rotation_identity}
use Rattle.drift.specs.PrivateShort.{front_word}

pub neg-mod : (x : ℕ) → neg (x % Q) ≡ neg x
unfolding neg
neg-mod x = ap (λ (n : ℕ). Q - n) (mod-mod x Q)

-- two lists that agree modulo 2^32 have fronts that do
front_agrees : (N k : ℕ) (a b : List ℕ) → 0 < N → ((i : ℕ) → i < N → at a i ≡ at b i % Q) → at (negating N k a) 0 % Q ≡ at (negating N k b) 0 % Q
unfolding negating source
front_agrees N k a b h e =
    let S = (0 + (N + N) - k) % (N + N) in
    ap (λ (n : ℕ). n % Q) (at-tab N _ 0 h)
    ∙ by_test (ltb S N) (λ (c : Bool). cond c (at a S) (neg (at a (S - N)) % Q) % Q ≡ cond c (at b S) (neg (at b (S - N)) % Q) % Q)
    (λ t. ap (λ (n : ℕ). n % Q) (e S (ltb→lt S N t)) ∙ mod-mod (at b S) Q)
    (λ t. let u : N ≤ S = nltb→le S N t in
    let l : S < N + N = mod-lt _ (let q : 0 < N + N = omega arith in q) in
    ap (λ (n : ℕ). neg n % Q % Q) (e (S - N) (omega arith)) ∙ ap (λ (n : ℕ). n % Q % Q) (neg-mod (at b (S - N))))
    ∙ sym (ap (λ (n : ℕ). n % Q) (at-tab N _ 0 h))

-- the front after all steps, for any key rows at all
pub front_tracked : (p : Params) → InRange p → (key z bsk src : List ℕ) (v : Pair) → v.a ≡ tab (size p) (λ i. 0) → ((i : ℕ) → at key i ≤ 1)
    → at (phase (size p) z (blind_rotated p bsk src v).a (blind_rotated p bsk src v).b) 0 ≡ (front_word p v key src + at (drift_to p key z bsk src v p.n) 0) % Q
unfolding front_word
front_tracked p r key z bsk src v e bits =
    let N = size p in
    let K = turn_to p key src p.n in
    let d = at (drift_to p key z bsk src v p.n) 0 in
    let ph = phase N z v.a v.b in
    ap (λ (u : List ℕ). at u 0) (rotation_identity p r key z bsk src v bits) ∙ at-plus N _ (drift_to p key z bsk src v p.n) 0 (size_from p)
    ∙ sym (mod-add-mod (at (negating N K ph) 0) Q d)
    ∙ ap (λ (n : ℕ). (n + d) % Q)
    (front_agrees N K ph v.b (size_from p) (λ i l. ap (λ (a : List ℕ). at (phase N z a v.b) i) e ∙ zero-phase N z v.b i l))
    ∙ mod-add-mod (at (negating N K v.b) 0) Q d
