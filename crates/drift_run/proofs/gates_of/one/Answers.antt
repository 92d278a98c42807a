-- `drift_run::gates_of::one` meets its contract: the gate's ciphertext, and then its drift.
-- Assumes nothing.
use mathlib.Core.Path.{ap, ◌∙◌}
use mathlib.Core.List.{List}
use Prim.Native.Nat.{ℕ}
use lib.ListN.{length}
use Rattle.params.specs.Refusal.{Answer}
use Rattle.params.proofs.Ranges.{not_refused}
use Rattle.encrypted_run.proofs.Checks.{step_done}
use Rattle.turns.proofs.Given.{is_given}
use Rattle.drift_run.specs.Private.{put_short, told_short}
use Rattle.drift_run.proofs.Calls.{step_good, stepped_made}
use Rattle.drift_run.proofs.gates_of.one.Goals as goal

pub unwrap-requires : goal.unwrap-requires
unwrap-requires c =
    let g = c.args in
    let z = not_refused g.p (rw c.p.view_is at c.p.invariant.0) in
    let h = step_good g.p z (length g.ksk.now) (length g.bsk.now) g.key.now g.bytes.now (length g.wires.now) (length g.drifts.now) c.requires.0 in
    is_given _ _ (rw c.p.view_is at c.run_gate.ensures.said) (ap (λ (a : Answer). a.number) (step_done g.p (length g.ksk.now) (length g.bsk.now) g.bytes.now (length g.wires.now) h))

pub returns-clause-told : goal.returns-clause-told
returns-clause-told c =
    let g = c.args in
    let z = not_refused g.p (rw c.p.view_is at c.p.invariant.0) in
    let h = step_good g.p z (length g.ksk.now) (length g.bsk.now) g.key.now g.bytes.now (length g.wires.now) (length g.drifts.now) c.requires.0 in
    let wires = stepped_made g.p g.ksk.now g.bsk.now g.bytes.now g.wires.now g.g h c.requires.1 (rw c.p.view_is at c.run_gate.ensures.written) in
    let put = c.put_drift.ensures in
    put.told ∙ ap (λ (w : List ℕ). told_short g.p g.key.now g.bytes.now w g.drifts.now g.g) wires

pub returns-clause-held : goal.returns-clause-held
returns-clause-held c =
    let g = c.args in
    let z = not_refused g.p (rw c.p.view_is at c.p.invariant.0) in
    let h = step_good g.p z (length g.ksk.now) (length g.bsk.now) g.key.now g.bytes.now (length g.wires.now) (length g.drifts.now) c.requires.0 in
    let wires = stepped_made g.p g.ksk.now g.bsk.now g.bytes.now g.wires.now g.g h c.requires.1 (rw c.p.view_is at c.run_gate.ensures.written) in
    wires

pub returns-clause-written : goal.returns-clause-written
returns-clause-written c =
    let g = c.args in
    let z = not_refused g.p (rw c.p.view_is at c.p.invariant.0) in
    let h = step_good g.p z (length g.ksk.now) (length g.bsk.now) g.key.now g.bytes.now (length g.wires.now) (length g.drifts.now) c.requires.0 in
    let wires = stepped_made g.p g.ksk.now g.bsk.now g.bytes.now g.wires.now g.g h c.requires.1 (rw c.p.view_is at c.run_gate.ensures.written) in
    let put = c.put_drift.ensures in
    put.written ∙ ap (λ (w : List ℕ). put_short g.p g.key.now g.bytes.now w g.drifts.now g.g) wires
