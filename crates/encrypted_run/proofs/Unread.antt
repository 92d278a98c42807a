-- A run reads no key row that its gates do not use: two key materials that are alike where the gates look give the same wires. A switching
-- depends on no row that its fields do not use; gate after gate the wires are then the same, by induction on the gates.
-- Assumes nothing.
use mathlib.Core.Path.{◌≡◌, refl, sym, ap, ◌∙◌}
use mathlib.Core.List.{List, ◌++◌}
use Prim.Native.Nat.{ℕ, zero, suc, ◌+◌, ◌<◌}
use native.Mathlib.Omega.{arith}
use Rattle.params.specs.declared.Params.{Params}
use Rattle.switching.specs.Switched.{switched}
use Rattle.switching.proofs.Rows.{used_alike}
use Rattle.tlwe.specs.Linear.{negative}
use Rattle.gate_sums.specs.declared.Kind.{Kind}
use Rattle.gate_sums.specs.declared.Kind.TheVariants.{And, AndNy}
use Rattle.gate_sums.specs.Sum.{summed, mux_sum}
use Rattle.gates.specs.Gate.{bootstrapped, gated, muxed}
use Rattle.circuit.specs.Form.{gates, kind_at, operand_at}
use Rattle.ways.specs.declared.Way.{Way}
use Rattle.ways.specs.declared.Way.TheVariants.{Known, Negated, Gate, NegatedGate, Choice}
use Rattle.ways.specs.Ways.{way_of, ran}
use Rattle.ways.specs.Ciphers.{cipher_at}
use Rattle.ways.proofs.Made.{ran_known, ran_negated, ran_gate, ran_negated_gate, ran_choice}
use Rattle.encrypted_run.specs.Run.{gate_cipher, ciphers_to, ciphers_of}
use Rattle.encrypted_run.specs.Rows.{RowsAlike, Alike, KeysAlike, GateAlike}
use Rattle.samples.specs.Sample.{rotated_sample}

-- a switching
pub switched_alike : (p : Params) (ksk ksk' sample : List ℕ) → RowsAlike p ksk ksk' sample → switched p ksk sample ≡ switched p ksk' sample
unfolding RowsAlike
switched_alike p ksk ksk' sample h = used_alike p ksk ksk' sample h

-- a gate's bootstrapping
gated_alike : (p : Params) (kind : Kind) (ksk ksk' bsk bsk' a b : List ℕ) → Alike p ksk ksk' bsk bsk' (rotated_sample p bsk (summed p kind a b)) → gated p kind ksk bsk a b ≡ gated p kind ksk' bsk' a b
unfolding bootstrapped
gated_alike p kind ksk ksk' bsk bsk' a b h =
    switched_alike p ksk ksk' (rotated_sample p bsk (summed p kind a b)) h.1
    ∙ ap (λ (k : List ℕ). switched p ksk' (rotated_sample p k (summed p kind a b))) h.0

-- each way
pub ran_alike : (p : Params) (ksk ksk' bsk bsk' : List ℕ) (way : Way) (a b c : List ℕ) → KeysAlike p ksk ksk' bsk bsk' way a b c → ran p ksk bsk way a b c ≡ ran p ksk' bsk' way a b c
unfolding KeysAlike muxed
ran_alike p ksk ksk' bsk bsk' (Known bit) a b c h = ran_known p ksk bsk a b c bit ∙ sym (ran_known p ksk' bsk' a b c bit)
ran_alike p ksk ksk' bsk bsk' Negated a b c h = ran_negated p ksk bsk a b c ∙ sym (ran_negated p ksk' bsk' a b c)
ran_alike p ksk ksk' bsk bsk' (Gate kind) a b c h = ran_gate p ksk bsk a b c kind ∙ gated_alike p kind ksk ksk' bsk bsk' a b h ∙ sym (ran_gate p ksk' bsk' a b c kind)
ran_alike p ksk ksk' bsk bsk' (NegatedGate kind) a b c h =
    ran_negated_gate p ksk bsk a b c kind ∙ ap (negative (p.n + 1)) (gated_alike p kind ksk ksk' bsk bsk' a b h) ∙ sym (ran_negated_gate p ksk' bsk' a b c kind)
ran_alike p ksk ksk' bsk bsk' Choice a b c h =
    ran_choice p ksk bsk a b c
    ∙ switched_alike p ksk ksk' (mux_sum p (rotated_sample p bsk (summed p And a b)) (rotated_sample p bsk (summed p AndNy a c))) h.1
    ∙ ap (λ (k : List ℕ). switched p ksk' (mux_sum p (rotated_sample p k (summed p And a b)) (rotated_sample p k (summed p AndNy a c)))) h.0
    ∙ sym (ran_choice p ksk' bsk' a b c)

module _ (p : Params) (ksk ksk' bsk bsk' bs ins : List ℕ) where
  wires_alike : (n : ℕ) → ((g : ℕ) → g < n → GateAlike p ksk ksk' bsk bsk' bs ins g) → ciphers_to p ksk bsk bs ins n ≡ ciphers_to p ksk' bsk' bs ins n
  unfolding ciphers_to gate_cipher GateAlike
  wires_alike zero h = refl
  wires_alike (suc n) h =
      let before = wires_alike n (λ g l. h g (omega arith)) in
      let ws = ciphers_to p ksk bsk bs ins n in
      let own : gate_cipher p ksk bsk bs ws n ≡ gate_cipher p ksk' bsk' bs ws n = ran_alike p ksk ksk' bsk bsk' (way_of (kind_at bs n)) (cipher_at p ws (operand_at bs n 0)) (cipher_at p ws (operand_at bs n 1)) (cipher_at p ws (operand_at bs n 2)) (h n (omega arith)) in
      ap (λ (x : List ℕ). ws ++ x) own ∙ ap (λ (x : List ℕ). x ++ gate_cipher p ksk' bsk' bs x n) before

  -- the whole run
  pub unread : ((g : ℕ) → g < gates bs → GateAlike p ksk ksk' bsk bsk' bs ins g) → ciphers_of p ksk bsk bs ins ≡ ciphers_of p ksk' bsk' bs ins
  unread h = wires_alike (gates bs) h
