-- What a gate means, over any key material (the per-gate form of demand 3): where the brought-in drift is inside, the phase of the result is ±2^29 by
-- the kind's Boolean meaning plus the drift that 01 reckons.
-- Assumes nothing.
use mathlib.Core.Path.{◌≡◌, refl, ap, ap₂, ◌∙◌}
use mathlib.Core.Bool.{Bool, true, false, not, cond, ◌&&◌}
use mathlib.Core.List.{List}
use Prim.Native.Nat.{ℕ, ◌+◌, ◌%◌, ◌<◌}
use native.Mathlib.Nat.{mod-lt}
use native.Mathlib.Omega.{arith}
use Rattle.ring.specs.Word.{Q, Q_pos, at, neg, eighth}
use Rattle.ring.specs.Poly.{plus}
use Rattle.ring.proofs.Tab.{at-tab}
use Rattle.params.specs.declared.Params.{Params}
use Rattle.params.specs.Ranges.{InRange}
use Rattle.tlwe.specs.Key.{binary}
use Rattle.tlwe.specs.Plain.{bit_word}
use Rattle.tlwe.specs.Linear.{negative}
use Rattle.gate_sums.specs.declared.Kind.{Kind}
use Rattle.gate_sums.specs.declared.Kind.TheVariants.{Or, And, AndNy}
use Rattle.gate_sums.specs.Kind.{meaning, sum_of}
use Rattle.gate_sums.specs.Sum.{summed}
use Rattle.gates.specs.Gate.{gated, muxed, muxed_naive}
use Rattle.drift.specs.PrivateWords.{brought_word, gate_word, mux_word}
use Rattle.gate_sums.proofs.Tables.{table}
use Rattle.drift.specs.PrivateShort.{side_of}
use Rattle.drift.proofs.Round.{side_is}
use Rattle.drift.proofs.Sides.{gate_side, mux_side}
use Rattle.drift.proofs.Phases.{brought, not_drift}
use Rattle.ring.specs.Phase.{phase_of}
use Rattle.drift_size.specs.Size.{inside_word}

either : (va vb vc : Bool) → meaning Or (va && vb) (not va && vc) ≡ cond va vb vc
either true true vc = refl
either true false vc = refl
either false vb vc = refl

-- the two samples of `mux` stand for its bit, an eighth being added
chosen : (va vb vc : Bool) → (bit_word (meaning And va vb) + bit_word (meaning AndNy va vc) + eighth) % Q ≡ bit_word (cond va vb vc)
unfolding Q
chosen true true vc = refl
chosen true false vc = refl
chosen false vb true = refl
chosen false vb false = refl

pub summed_below : (p : Params) (kind : Kind) (a b : List ℕ) (i : ℕ) → i < p.n + 1 → at (summed p kind a b) i < Q
unfolding summed plus
summed_below p kind a b i l = rw (at-tab (p.n + 1) _ i l) (mod-lt _ Q_pos)

module _ (p : Params) (r : InRange p) (key z : List ℕ) (binary_key : binary key ≡ true) (ksk bsk : List ℕ) where
  module _ (kind : Kind) (a b : List ℕ) (va vb : Bool) (da db : ℕ)
      (ea : phase_of p.n key a ≡ (bit_word va + da) % Q) (eb : phase_of p.n key b ≡ (bit_word vb + db) % Q)
      (within : inside_word (brought_word p kind key (summed p kind a b) da db) ≡ true) where
    brought_below : brought_word p kind key (summed p kind a b) da db < Q
    unfolding brought_word
    brought_below = mod-lt _ Q_pos

    -- the side of its rotation is the kind's meaning
    pub side_means : side_of p key (summed p kind a b) ≡ meaning kind va vb
    side_means =
        side_is p r key (summed p kind a b) (summed_below p kind a b p.n (omega arith)) (sum_of kind va vb) (brought_word p kind key (summed p kind a b) da db) within brought_below
        (brought p kind key a b va vb da db ea eb) (meaning kind va vb) (table kind va vb)

    -- a two-input gate: ±2^29 by the kind's meaning, and the gate's drift
    pub gate_means : phase_of p.n key (gated p kind ksk bsk a b) ≡ (bit_word (meaning kind va vb) + gate_word p key z ksk bsk (summed p kind a b)) % Q
    gate_means =
        gate_side p r key z binary_key ksk bsk (summed p kind a b)
        ∙ ap (λ (m : Bool). (bit_word m + gate_word p key z ksk bsk (summed p kind a b)) % Q) side_means

  -- `mux`, both rotations' brought-in drifts being inside: ±2^29 by a ? b : c, and its drift
  pub mux_means : (a b c : List ℕ) (va vb vc : Bool) (da db dc : ℕ)
      → phase_of p.n key a ≡ (bit_word va + da) % Q → phase_of p.n key b ≡ (bit_word vb + db) % Q → phase_of p.n key c ≡ (bit_word vc + dc) % Q
      → inside_word (brought_word p And key (summed p And a b) da db) ≡ true → inside_word (brought_word p AndNy key (summed p AndNy a c) da dc) ≡ true
      → phase_of p.n key (muxed p ksk bsk a b c) ≡ (bit_word (cond va vb vc) + mux_word p key z ksk bsk (summed p And a b) (summed p AndNy a c)) % Q
  mux_means a b c va vb vc da db dc ea eb ec i j =
      let s1 = summed p And a b in
      let s2 = summed p AndNy a c in
      mux_side p r key z binary_key ksk bsk a b c
      ∙ ap₂ (λ (m n : Bool). ((bit_word m + bit_word n + eighth) % Q + mux_word p key z ksk bsk s1 s2) % Q) (side_means And a b va vb da db ea eb i) (side_means AndNy a c va vc da dc ea ec j)
      ∙ ap (λ (t : ℕ). (t + mux_word p key z ksk bsk s1 s2) % Q) (chosen va vb vc)

  -- `mux_naive`: its last gate's drift, the three gates' brought-in drifts being inside
  pub mux_naive_means : (a b c : List ℕ) (va vb vc : Bool) (da db dc : ℕ)
      → phase_of p.n key a ≡ (bit_word va + da) % Q → phase_of p.n key b ≡ (bit_word vb + db) % Q → phase_of p.n key c ≡ (bit_word vc + dc) % Q
      → let n = negative (p.n + 1) a in
      let u = gated p And ksk bsk a b in
      let v = gated p And ksk bsk n c in
      let du = gate_word p key z ksk bsk (summed p And a b) in
      let dv = gate_word p key z ksk bsk (summed p And n c) in
      inside_word (brought_word p And key (summed p And a b) da db) ≡ true
      → inside_word (brought_word p And key (summed p And n c) (neg da) dc) ≡ true
      → inside_word (brought_word p Or key (summed p Or u v) du dv) ≡ true
      → phase_of p.n key (muxed_naive p ksk bsk a b c) ≡ (bit_word (cond va vb vc) + gate_word p key z ksk bsk (summed p Or u v)) % Q
  unfolding muxed_naive
  mux_naive_means a b c va vb vc da db dc ea eb ec i j k =
      let n = negative (p.n + 1) a in
      let u = gated p And ksk bsk a b in
      let v = gated p And ksk bsk n c in
      gate_means Or u v (va && vb) (not va && vc) _ _ (gate_means And a b va vb da db ea eb i) (gate_means And n c (not va) vc (neg da) dc (not_drift p key a va da ea) ec j) k
      ∙ ap (λ (m : Bool). (bit_word m + gate_word p key z ksk bsk (summed p Or u v)) % Q) (either va vb vc)
