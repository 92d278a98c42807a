-- Demand 3 asks of as many brought-in drifts as the circuit's work counts: one for each blind rotation of the run. Gate after gate, by induction.
-- Assumes nothing.
use mathlib.Core.Path.{◌≡◌, refl, ap₂, ◌∙◌}
use mathlib.Core.List.{List}
use Prim.Native.Nat.{ℕ, zero, suc, ◌+◌}
use lib.ListN.{length, length-append, length-map}
use Rattle.ring.specs.Sums.{sum_to}
use Rattle.params.specs.declared.Params.{Params}
use Rattle.circuit.specs.Form.{gates, kind_at}
use Rattle.circuit.specs.Plain.{work_of}
use Rattle.ways.specs.Ways.{way_of, rotations_of}
use Rattle.ways.proofs.Work.{ways_rotate}
use Rattle.encrypted_run.specs.Run.{ciphers_to}
use Rattle.encrypted_run.proofs.Work.{work_to}
use Rattle.drift.specs.Circuit.{way_brought, gate_brought_on, drifts_to, brought_to, brought_of}

module _ (p : Params) (key z ksk bsk bs ins plain : List ℕ) where
  counted : (g : ℕ) → length (brought_to p key z ksk bsk bs ins plain g) ≡ work_to bs g
  unfolding brought_to gate_brought_on way_brought sum_to
  counted zero = refl
  counted (suc g) =
      length-append (brought_to p key z ksk bsk bs ins plain g) (gate_brought_on p key bs (ciphers_to p ksk bsk bs ins g) (drifts_to p key z ksk bsk bs ins plain g) g)
      ∙ ap₂ (λ (x y : ℕ). x + y) (counted g) (length-map (rotations_of (way_of (kind_at bs g))) _ ∙ ways_rotate (kind_at bs g))

  pub one_each : length (brought_of p key z ksk bsk bs ins plain) ≡ work_of bs
  unfolding work_of
  one_each = counted (gates bs)
