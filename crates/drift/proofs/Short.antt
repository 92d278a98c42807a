-- The short way is the drift: a way's ciphertext has the phase that its sides put into it plus its drift, whatever the drifts are, so the drift is the phase less that.
-- Assumes nothing.
use mathlib.Core.Path.{◌≡◌, refl, ap, ◌∙◌}
use mathlib.Core.Bool.{true}
use mathlib.Core.List.{List}
use Prim.Native.Nat.{ℕ, ◌+◌, ◌%◌, ◌<◌}
use native.Mathlib.Nat.{mod-lt}
use native.Mathlib.Omega.{arith}
use Rattle.ring.specs.Word.{Q, Q_pos, neg, eighth}
use Rattle.params.specs.declared.Params.{Params}
use Rattle.params.specs.Ranges.{InRange}
use Rattle.tlwe.specs.Key.{binary}
use Rattle.tlwe.specs.Plain.{bit_word}
use Rattle.tlwe.proofs.Phases.{phase_neg}
use Rattle.gate_sums.specs.declared.Kind.TheVariants.{And, AndNy}
use Rattle.gate_sums.specs.Sum.{summed}
use Rattle.gates.specs.Gate.{gated}
use Rattle.ways.specs.declared.Way.{Way}
use Rattle.ways.specs.declared.Way.TheVariants.{Known, Negated, Gate, NegatedGate, Choice}
use Rattle.ways.specs.Ways.{ran}
use Rattle.ways.proofs.Made.{ran_gate, ran_negated_gate, ran_choice}
use Rattle.drift.specs.PrivateWords.{rotated_word, gate_word, mux_word}
use Rattle.drift.proofs.Track.{neg-mod}
use Rattle.drift.specs.PrivateCircuit.{way_word}
use Rattle.drift.specs.PrivateShort.{side_of, carried_word, short_word}
use Rattle.drift.proofs.Sides.{gate_side, mux_side}
use Rattle.ring.specs.Phase.{phase_of}

-- a phase less what it carries
pub less : (f b d : ℕ) → d < Q → f ≡ (b + d) % Q → (f + neg b) % Q ≡ d
unfolding neg Q
less f b d l e = omega arith

less_mod : (f b d : ℕ) → d < Q → f ≡ (b % Q + d) % Q → (f + neg b) % Q ≡ d
unfolding neg Q
less_mod f b d l e = omega arith

-- the same of what is negated
pub twice : (x b : ℕ) → (x + neg (neg b)) % Q ≡ (x + b) % Q
unfolding neg Q
twice x b = omega arith

-- what adds up with d to a whole turn is one word
only : (x y d : ℕ) → x < Q → y < Q → (x + d) % Q ≡ 0 → (y + d) % Q ≡ 0 → x ≡ y
unfolding Q
only x y d l m e h = omega arith

first : (b d : ℕ) → ((neg (b + d) % Q + b) % Q + d) % Q ≡ 0
unfolding neg Q
first b d = omega arith

second : (d : ℕ) → (neg d % Q + d) % Q ≡ 0
unfolding neg Q
second d = omega arith

back : (b d : ℕ) → (neg ((b + d) % Q) % Q + b) % Q ≡ neg d % Q
back b d = ap (λ (x : ℕ). (x % Q + b) % Q) (neg-mod (b + d)) ∙ only ((neg (b + d) % Q + b) % Q) (neg d % Q) d (mod-lt _ Q_pos) (mod-lt _ Q_pos) (first b d) (second d)

less_negated : (f g b d : ℕ) → f ≡ neg g % Q → g ≡ (b + d) % Q → (f + neg (neg b)) % Q ≡ neg d % Q
less_negated f g b d e h = twice f b ∙ ap (λ (x : ℕ). (x + b) % Q) (e ∙ ap (λ (x : ℕ). neg x % Q) h) ∙ back b d

module _ (p : Params) (r : InRange p) (key z : List ℕ) (binary_key : binary key ≡ true) (ksk bsk : List ℕ) where
  gate_below : (src : List ℕ) → gate_word p key z ksk bsk src < Q
  unfolding gate_word rotated_word
  gate_below src = mod-lt _ Q_pos

  mux_below : (s t : List ℕ) → mux_word p key z ksk bsk s t < Q
  unfolding mux_word
  mux_below s t = mod-lt _ Q_pos

  pub short_is : (way : Way) (a b c : List ℕ) (da : ℕ) {own : List ℕ} → own ≡ ran p ksk bsk way a b c
      → short_word p key way a b c da own ≡ way_word p key z ksk bsk way a b c da
  unfolding short_word carried_word way_word
  short_is (Known bit) a b c da e = refl
  short_is Negated a b c da e = refl
  short_is (Gate kind) a b c da {own} e =
      less (phase_of p.n key own) (bit_word (side_of p key (summed p kind a b))) (gate_word p key z ksk bsk (summed p kind a b)) (gate_below (summed p kind a b))
      (ap (phase_of p.n key) (e ∙ ran_gate p ksk bsk a b c kind) ∙ gate_side p r key z binary_key ksk bsk (summed p kind a b))
  short_is (NegatedGate kind) a b c da {own} e =
      less_negated (phase_of p.n key own) (phase_of p.n key (gated p kind ksk bsk a b)) (bit_word (side_of p key (summed p kind a b))) (gate_word p key z ksk bsk (summed p kind a b))
      (ap (phase_of p.n key) (e ∙ ran_negated_gate p ksk bsk a b c kind) ∙ phase_neg p.n key (gated p kind ksk bsk a b) (gated p kind ksk bsk a b))
      (gate_side p r key z binary_key ksk bsk (summed p kind a b))
  short_is Choice a b c da {own} e =
      let s = summed p And a b in
      let t = summed p AndNy a c in
      less_mod (phase_of p.n key own) (bit_word (side_of p key s) + bit_word (side_of p key t) + eighth) (mux_word p key z ksk bsk s t) (mux_below s t)
      (ap (phase_of p.n key) (e ∙ ran_choice p ksk bsk a b c) ∙ mux_side p r key z binary_key ksk bsk a b c)
