-- The phase of a rotated vector, whatever its drift: what the turns bring to the front plus the drift that 01 reckons; the rotation's front, extraction and switching, one
-- after another (`extracted_front`, `rotated_front`, of gates and of tables). Of the gates' vector the front is ±2^29 by the side on which the rounded turn falls.
-- Assumes nothing.
use mathlib.Core.Path.{◌≡◌, refl, sym, ap, ap₂, ◌∙◌}
use mathlib.Core.Bool.{Bool, true, cond}
use mathlib.Core.List.{List}
use Prim.Native.Nat.{ℕ, ◌+◌, ◌-◌, ◌%◌, ◌^◌, ◌≤◌, ◌<◌}
use native.Mathlib.Nat.{mod-lt, add-mod, mod-add-mod}
use native.Mathlib.Omega.{arith}
use lib.Dec.{ltb, ltb→lt, nltb→le}
use Rattle.ring.specs.Word.{Q, at, neg, eighth}
use Rattle.ring.specs.Turn.{source, negating}
use Rattle.ring.specs.Phase.{after, phase_of}
use Rattle.ring.proofs.Tab.{at-tab}
use Rattle.ring.proofs.Value.{by_test}
use Rattle.params.specs.declared.Params.{Params}
use Rattle.params.specs.Ranges.{InRange}
use Rattle.params.specs.Sizes.{size}
use Rattle.params.proofs.Ranges.{size_from}
use Rattle.key.specs.Testvec.{test_pair}
use Rattle.tlwe.specs.Key.{binary}
use Rattle.tlwe.specs.Plain.{bit_word}
use Rattle.trlwe.proofs.Pairs.{phase-extracted}
use Rattle.blind_rotation.specs.Blind.{blind_rotated}
use Rattle.blind_rotation.specs.Drift.{turn_to, drift_to}
use Rattle.switching.specs.Drift.{switching_drift}
use Rattle.switching.proofs.Phase.{switching_phase}
use Rattle.gate_sums.specs.declared.Kind.TheVariants.{And, AndNy}
use Rattle.gate_sums.specs.Sum.{summed, mux_sum}
use Rattle.gates.specs.Gate.{bootstrapped, muxed}
use Rattle.drift.specs.PrivateShort.{front_word, side_of}
use Rattle.drift.specs.PrivateWords.{extracted_word, rotated_word, gate_word, mux_word}
use Rattle.drift.proofs.Track.{front_tracked}
use Rattle.drift.proofs.Phases.{key_bit, together, mux_phase}
use Rattle.samples.specs.Sample.{sample_from, rotated_sample}
use Rattle.switching.specs.Switched.{switched}
use Rattle.ring.specs.Pair.{Pair}
use Rattle.ring.specs.Sums.{tab}

flatten : (x y c s : ℕ) → (((x % Q + y % Q) % Q + c) % Q + s) % Q ≡ (x + y + c + s) % Q
flatten x y c s =
    ap (λ (t : ℕ). ((t + c) % Q + s) % Q) (sym (add-mod x y Q)) ∙ ap (λ (t : ℕ). (t + s) % Q) (mod-add-mod (x + y) Q c) ∙ mod-add-mod (x + y + c) Q s

gather : (x y d e c s : ℕ) → (x + d + (y + e) + c + s) % Q ≡ ((x + y + c) % Q + (d + e + s) % Q) % Q
unfolding Q
gather x y d e c s = omega arith

join : (x y d e s c : ℕ) → ((((x + d) % Q + (y + e) % Q) % Q + c) % Q + s) % Q ≡ ((x + y + c) % Q + (d + e + s) % Q) % Q
join x y d e s c = flatten (x + d) (y + e) c s ∙ gather x y d e c s

-- the front of the turned test vector, by the side
side_front : (p : Params) (key src : List ℕ) → front_word p (test_pair p) key src ≡ bit_word (side_of p key src)
unfolding front_word side_of negating source neg Q
side_front p key src =
    let N = size p in
    let S = source N (turn_to p key src p.n) 0 in
    at-tab N _ 0 (size_from p)
    ∙ by_test (ltb S N) (λ (c : Bool). cond c (at (test_pair p).b S) (neg (at (test_pair p).b (S - N)) % Q) ≡ bit_word c)
    (λ t. at-tab N (λ i. 2 ^ 29) S (ltb→lt S N t))
    (λ t. let u : N ≤ S = nltb→le S N t in
    let b : S < N + N = mod-lt _ (let q : 0 < N + N = omega (arith, size_from p) in q) in
    ap (λ (x : ℕ). (2 ^ 32 - x % 2 ^ 32) % 2 ^ 32) (at-tab N (λ i. 2 ^ 29) (S - N) (omega arith)))

module _ (p : Params) (r : InRange p) (key z : List ℕ) (binary_key : binary key ≡ true) (ksk bsk : List ℕ) where
  -- the extracted sample of a rotation, and the switched one: of any vector whose a is zero
  module _ (v : Pair) (zero_a : v.a ≡ tab (size p) (λ i. 0)) (src : List ℕ) where
    pub extracted_front : phase_of (size p) z (sample_from p v bsk src) ≡ (front_word p v key src + extracted_word p key z bsk v src) % Q
    unfolding sample_from extracted_word
    extracted_front =
        let N = size p in
        let d = at (drift_to p key z bsk src v p.n) 0 in
        phase-extracted N (size_from p) 0 z (blind_rotated p bsk src v).a (blind_rotated p bsk src v).b (size_from p)
        ∙ ap (λ (t : ℕ). (t + after N 0 z) % Q) (front_tracked p r key z bsk src v zero_a (key_bit key binary_key))
        ∙ together (front_word p v key src) d (after N 0 z)

    pub rotated_front : phase_of p.n key (switched p ksk (sample_from p v bsk src)) ≡ (front_word p v key src + rotated_word p key z ksk bsk v src) % Q
    unfolding rotated_word
    rotated_front =
        switching_phase p r z (sample_from p v bsk src) key ksk
        ∙ ap (λ (t : ℕ). (t + switching_drift p key z ksk (sample_from p v bsk src)) % Q) extracted_front
        ∙ together (front_word p v key src) (extracted_word p key z bsk v src) (switching_drift p key z ksk (sample_from p v bsk src))

  -- a gate's
  pub extracted_side : (src : List ℕ) → phase_of (size p) z (rotated_sample p bsk src) ≡ (bit_word (side_of p key src) + extracted_word p key z bsk (test_pair p) src) % Q
  unfolding rotated_sample
  extracted_side src = extracted_front (test_pair p) refl src ∙ ap (λ (t : ℕ). (t + extracted_word p key z bsk (test_pair p) src) % Q) (side_front p key src)

  pub gate_side : (src : List ℕ) → phase_of p.n key (bootstrapped p bsk ksk src) ≡ (bit_word (side_of p key src) + gate_word p key z ksk bsk src) % Q
  unfolding bootstrapped rotated_sample gate_word
  gate_side src = rotated_front (test_pair p) refl src ∙ ap (λ (t : ℕ). (t + rotated_word p key z ksk bsk (test_pair p) src) % Q) (side_front p key src)

  -- `mux`
  pub mux_side : (a b c : List ℕ) → let s1 = summed p And a b in
      let s2 = summed p AndNy a c in
      phase_of p.n key (muxed p ksk bsk a b c) ≡ ((bit_word (side_of p key s1) + bit_word (side_of p key s2) + eighth) % Q + mux_word p key z ksk bsk s1 s2) % Q
  unfolding muxed mux_word
  mux_side a b c =
      let s1 = summed p And a b in
      let s2 = summed p AndNy a c in
      let u = rotated_sample p bsk s1 in
      let v = rotated_sample p bsk s2 in
      switching_phase p r z (mux_sum p u v) key ksk
      ∙ ap (λ (t : ℕ). (t + switching_drift p key z ksk (mux_sum p u v)) % Q)
      (mux_phase p z u v ∙ ap₂ (λ (s t : ℕ). ((s + t) % Q + eighth) % Q) (extracted_side s1) (extracted_side s2))
      ∙ join (bit_word (side_of p key s1)) (bit_word (side_of p key s2)) (extracted_word p key z bsk (test_pair p) s1) (extracted_word p key z bsk (test_pair p) s2) (switching_drift p key z ksk (mux_sum p u v)) eighth
