-- What the callees leave, one after the other, makes a gate: each link's arguments are good, so each call does its work.
-- Assumes nothing.
use mathlib.Core.Path.{◌≡◌, ap, ◌∙◌}
use mathlib.Core.List.{List}
use Prim.Native.Nat.{ℕ, ◌+◌}
use lib.ListN.{length}
use Rattle.ring.proofs.Tab.{length-tab}
use Rattle.params.specs.declared.Params.{Params}
use Rattle.params.specs.Refusal.{if_done}
use Rattle.params.specs.Ranges.{params_number}
use Rattle.params.specs.Sizes.{size, switching_words}
use Rattle.params.proofs.Answers.{when_done}
use Rattle.tlwe.specs.Linear.{negative}
use Rattle.switching.specs.Switched.{switch_number, switched}
use Rattle.switching.proofs.Checks.{switch_done, switch_written, switched-length}
use Rattle.gate_sums.specs.declared.Kind.{Kind}
use Rattle.gate_sums.specs.Sum.{summed}
use Rattle.samples.specs.Sample.{sample_number, sample_out, rotated_sample}
use Rattle.samples.proofs.Chain.{sample_length}
use Rattle.samples.proofs.Checks.{sample_done}
use Rattle.gates.specs.Private.{GateGood}
use Rattle.gates.specs.Gate.{bootstrapped, gated}

-- ---- lengths

pub negative-length : (m : ℕ) (a : List ℕ) → length (negative m a) ≡ m
unfolding negative
negative-length m a = length-tab m _

-- ---- links

module _ (p : Params) (e : params_number p ≡ 0) (ksk bsk o : List ℕ) (lk : length ksk ≡ switching_words p) (lo : length o ≡ p.n + 1) where
  -- one switching, of a sample of N + 1 words
  pub switched_to : (src : List ℕ) {sample out : List ℕ} → length src ≡ size p + 1 → sample ≡ src
      → out ≡ if_done (switch_number p (length sample) (length ksk) (length o)) (switched p ksk sample) o → out ≡ switched p ksk src
  switched_to src {sample} {out} ls es eo =
      switch_written p src ksk o e ls lk lo (eo ∙ ap (λ (x : List ℕ). if_done (switch_number p (length x) (length ksk) (length o)) (switched p ksk x) o) es)

-- of the lengths of a gate that is not refused, with scratch of ls words
module _ (p : Params) {la lb lk ls lo lr : ℕ} (k : GateGood p la lb lk ls lo) (e : lr ≡ size p + 1) where
  pub gate_sampled : sample_number p la lb ls lr ≡ 0
  gate_sampled = sample_done p la lb ls lr (record { good = k.good; first = k.first; second = k.second; bootstrapping = k.bootstrapping; result = e })

  pub gate_switched : switch_number p lr lk lo ≡ 0
  gate_switched = switch_done p lr lk lo k.good e k.switching k.result

-- the sample, then the switching; the scratch was s
pub gate_made : (p : Params) (kind : Kind) (a b ksk bsk o s : List ℕ) {sample out : List ℕ} → GateGood p (length a) (length b) (length ksk) (length bsk) (length o) → length s ≡ size p + 1
    → sample ≡ sample_out p kind a b bsk s → out ≡ if_done (switch_number p (length sample) (length ksk) (length o)) (switched p ksk sample) o → out ≡ gated p kind ksk bsk a b
unfolding bootstrapped
gate_made p kind a b ksk bsk o s k ls es eo =
    switched_to p k.good ksk bsk o k.switching k.result (rotated_sample p bsk (summed p kind a b)) (sample_length p bsk (summed p kind a b))
    (es ∙ when_done _ _ _ (gate_sampled p k ls)) eo

-- a gate has n + 1 words
pub gated-length : (p : Params) (kind : Kind) (ksk bsk a b : List ℕ) → length (gated p kind ksk bsk a b) ≡ p.n + 1
unfolding bootstrapped
gated-length p kind ksk bsk a b = switched-length p ksk _
