-- What the calls of `encrypted_run` leave: what a drift run is lent is good for an encrypted run too, so each call does its work.
-- Assumes nothing.
use mathlib.Core.Path.{◌≡◌, ap, ◌∙◌}
use mathlib.Core.Bool.{Bool, cond}
use mathlib.Core.List.{List}
use Prim.Native.Nat.{ℕ, ◌<◌}
use borrow.Author.Tests.{lt-ltb}
use lib.ListN.{length}
use Rattle.params.specs.declared.Params.{Params}
use Rattle.params.specs.Refusal.{Answer}
use Rattle.params.specs.Ranges.{params_number}
use Rattle.params.proofs.Answers.{when_done}
use Rattle.circuit.specs.Form.{gates}
use Rattle.encrypted_run.specs.Private.{StepGood, RunGood as EncryptedGood}
use Rattle.encrypted_run.specs.Run.{stepped, step_after}
use Rattle.encrypted_run.proofs.Checks.{step_done}
use Rattle.drift_run.specs.Private.{DriftGate, DriftRun}

module _ (p : Params) (z : params_number p ≡ 0) (lk ls : ℕ) (key bs : List ℕ) where
  pub step_good : (lw ld : ℕ) → DriftGate p lk ls key bs lw ld → StepGood p lk ls bs lw
  step_good lw ld g = record {
    keys = record { good = z; switching = g.switching; bootstrapping = g.bootstrapping };
    valid = g.passing.finished.valid;
    wires_length = g.passing.finished.wires_length;
  }

  pub encrypted_good : (li lp lw lo ld : ℕ) → DriftRun p lk ls key bs li lp lw lo ld → EncryptedGood p lk ls bs li lw lo
  encrypted_good li lp lw lo ld g = record { step = step_good lw ld g.gate; ins_length = g.ins_length; outs_length = g.outs_length }

-- one gate
pub stepped_made : (p : Params) (ksk bsk bs ws : List ℕ) (g : ℕ) {out : List ℕ} → StepGood p (length ksk) (length bsk) bs (length ws) → g < gates bs
    → out ≡ step_after p ksk bsk bs g ws → out ≡ stepped p ksk bsk bs g ws
unfolding step_after
stepped_made p ksk bsk bs ws g h l e =
    e ∙ when_done _ _ _ (ap (λ (a : Answer). a.number) (step_done p (length ksk) (length bsk) bs (length ws) h))
    ∙ ap (λ (b : Bool). cond b (stepped p ksk bsk bs g ws) ws) (lt-ltb g (gates bs) l)
