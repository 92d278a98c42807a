-- What the calls tell where they do their work, of calls, by their contracts as `rattle` reads them from the code: the bit and the worst drift that `drift_gate` hands back are `gate_inside` and `gate_worst`,
-- the bit of `drift_run` is `inside_after`, and the drift of `fresh_drift` is `fresh_value`. So what the laws of calls in order (Laws) say of these is said of what the calls hand back.
-- Assumes nothing.
use mathlib.Core.Path.{◌≡◌, sym, ap, ◌∙◌}
use mathlib.Core.Bool.{Bool}
use contract.Lifetimes.{Lfts}
use denote.Triple.Entry.{Args, Res}
use denote.Triple.Clauses.{Lasts, at_exit}
use Rattle.std.specs.Prelude.{Result, Ok}
use Rattle.params.specs.declared.refusal.Refusal.{Refusal}
use Rattle.params.specs.Refusal.{Answer, given}
use Rattle.params.proofs.Answers.{when_done, given_ok, given_done}
use Rattle.turns.proofs.Given.{ok_same}
use Rattle.utils.specs.declared.Torus.{Torus}
use Rattle.drift_run.specs.declared.Brought.{Brought}
use Rattle.drift_run.specs.Run.{fresh_value, inside_after, gate_inside, gate_worst}
use Rattle.drift_run.proofs.fresh_drift as freshly
use Rattle.drift_run.specs.contracts.fresh_drift as freshly_c
use Rattle.drift_run.proofs.drift_gate as gating
use Rattle.drift_run.specs.contracts.drift_gate as gating_c
use Rattle.drift_run.proofs.drift_run as running
use Rattle.drift_run.specs.contracts.drift_run as running_c

-- what is handed back by an answer that is done: the value, and that with anything beside a refusal
module _ (a : Answer) {A : Type 0} (v : A) {x : Result A Refusal} {r : A} (said : x ≡ given a v) (e : x ≡ Ok r) where
  done : a.number ≡ 0
  done = given_ok a v (sym said ∙ e)

  value : v ≡ r
  value = ok_same (sym (given_done a v done) ∙ sym said ∙ e)

-- one gate: told inside, and the worst of what is brought in
pub gate_told : (κs : Lfts (gating_c.ended).signature.lifetimes) (a : Args (gating_c.ended).signature κs) (x : Res (gating_c.ended).signature κs) (v : Lasts gating_c.ended κs a)
    → gating.Reads.Learnt κs a x (at_exit gating_c.ended κs a v)
    → (b : Brought) → x ≡ Ok b
    → let p = a.0 in let ksk = a.1.0.now in let bsk = a.1.1.0.now in let key = a.1.1.1.0.now in let z = a.1.1.1.1.0.now in let bs = a.1.1.1.1.1.0.now in let g = a.1.1.1.1.1.1.0 in let ws = a.1.1.1.1.1.1.1.0.now in let ds = a.1.1.1.1.1.1.1.1.0.now in
    (b.inside ≡ gate_inside p ksk bsk key z bs g ws ds) × (b.worst.0 ≡ gate_worst p ksk bsk key z bs g ws ds)
unfolding gate_inside gate_worst
gate_told κs a x v h b e =
    let n = done _ _ h.0 e in
    let w = value _ _ h.0 e in
    (sym (ap (λ (r : Brought). r.inside) w) ∙ sym (when_done _ _ _ n), sym (ap (λ (r : Brought). r.worst.0) w) ∙ sym (when_done _ _ _ n))

-- a run: whether all is inside
pub run_told : (κs : Lfts (running_c.ended).signature.lifetimes) (a : Args (running_c.ended).signature κs) (x : Res (running_c.ended).signature κs) (v : Lasts running_c.ended κs a)
    → running.Reads.Learnt κs a x (at_exit running_c.ended κs a v)
    → (t : Bool) → x ≡ Ok t
    → let p = a.0 in let ksk = a.1.0.now in let bsk = a.1.1.0.now in let key = a.1.1.1.0.now in let z = a.1.1.1.1.0.now in let bs = a.1.1.1.1.1.0.now in let ins = a.1.1.1.1.1.1.0.now in let plain = a.1.1.1.1.1.1.1.0.now in let ws = a.1.1.1.1.1.1.1.1.0.now in let out = a.1.1.1.1.1.1.1.1.1.0.now in let ds = a.1.1.1.1.1.1.1.1.1.1.0.now in
    t ≡ inside_after p ksk bsk key z bs ins plain ws out ds
unfolding inside_after
run_told κs a x v h t e = sym (value _ _ h.0 e) ∙ sym (when_done _ _ _ (done _ _ h.0 e))

-- a fresh drift
pub fresh_told : (κs : Lfts (freshly_c.ended).signature.lifetimes) (a : Args (freshly_c.ended).signature κs) (x : Res (freshly_c.ended).signature κs) (v : Lasts freshly_c.ended κs a)
    → freshly.Reads.Learnt κs a x (at_exit freshly_c.ended κs a v)
    → (d : Torus) → x ≡ Ok d
    → let p = a.0 in let key = a.1.0.now in let c = a.1.1.0.now in let bit = a.1.1.1.0 in
    d.0 ≡ fresh_value p key c bit
unfolding fresh_value
fresh_told κs a x v h d e = sym (ap (λ (t : Torus). t.0) (value _ _ h e)) ∙ sym (when_done _ _ _ (done _ _ h e))
