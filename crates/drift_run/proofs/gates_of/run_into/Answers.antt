-- `drift_run::gates_of::run_into` meets its contract: the encrypted run, and then the pass over its wires.
-- Assumes nothing.
use mathlib.Core.Path.{ap, ◌∙◌}
use lib.ListN.{length}
use Rattle.encrypted_run.proofs.Laws.{wires_written, outputs_written}
use Rattle.params.specs.Refusal.{Answer}
use Rattle.params.proofs.Ranges.{not_refused}
use Rattle.encrypted_run.proofs.Checks.{run_done}
use Rattle.turns.proofs.Given.{is_given}
use Rattle.drift_run.specs.Private.{short_drifts, short_inside}
use Rattle.drift_run.proofs.Calls.{encrypted_good}
use Rattle.drift_run.proofs.gates_of.run_into.Goals as goal

pub unwrap-requires : goal.unwrap-requires
unwrap-requires c =
    let g = c.args in
    let z = not_refused g.p (rw c.p.view_is at c.p.invariant.0) in
    let h = encrypted_good g.p z (length g.ksk.now) (length g.bsk.now) g.key.now g.bytes.now (length g.ins.now) (length g.plain.now) (length g.wires.now) (length g.out.now) (length g.drifts.now) c.requires in
    is_given _ _ (rw c.p.view_is at c.run_encrypted.ensures.said) (ap (λ (a : Answer). a.number) (run_done g.p (length g.ksk.now) (length g.bsk.now) g.bytes.now (length g.ins.now) (length g.wires.now) (length g.out.now) h))

pub returns-clause-told : goal.returns-clause-told
returns-clause-told c =
    let g = c.args in
    let z = not_refused g.p (rw c.p.view_is at c.p.invariant.0) in
    let h = encrypted_good g.p z (length g.ksk.now) (length g.bsk.now) g.key.now g.bytes.now (length g.ins.now) (length g.plain.now) (length g.wires.now) (length g.out.now) (length g.drifts.now) c.requires in
    let run = rw c.p.view_is at c.run_encrypted.ensures in
    let wires = run.held ∙ wires_written g.p g.ksk.now g.bsk.now g.bytes.now g.ins.now g.wires.now g.out.now h in
    let pass = c.pass.ensures in
    pass.told ∙ ap (short_inside g.p g.key.now g.bytes.now g.ins.now g.plain.now) wires

pub returns-clause-held : goal.returns-clause-held
returns-clause-held c =
    let g = c.args in
    let z = not_refused g.p (rw c.p.view_is at c.p.invariant.0) in
    let h = encrypted_good g.p z (length g.ksk.now) (length g.bsk.now) g.key.now g.bytes.now (length g.ins.now) (length g.plain.now) (length g.wires.now) (length g.out.now) (length g.drifts.now) c.requires in
    let run = rw c.p.view_is at c.run_encrypted.ensures in
    let wires = run.held ∙ wires_written g.p g.ksk.now g.bsk.now g.bytes.now g.ins.now g.wires.now g.out.now h in
    wires

pub returns-clause-written : goal.returns-clause-written
returns-clause-written c =
    let g = c.args in
    let z = not_refused g.p (rw c.p.view_is at c.p.invariant.0) in
    let h = encrypted_good g.p z (length g.ksk.now) (length g.bsk.now) g.key.now g.bytes.now (length g.ins.now) (length g.plain.now) (length g.wires.now) (length g.out.now) (length g.drifts.now) c.requires in
    let run = rw c.p.view_is at c.run_encrypted.ensures in
    let out = run.written ∙ outputs_written g.p g.ksk.now g.bsk.now g.bytes.now g.ins.now g.wires.now g.out.now h in
    out

pub returns-clause-drifted : goal.returns-clause-drifted
returns-clause-drifted c =
    let g = c.args in
    let z = not_refused g.p (rw c.p.view_is at c.p.invariant.0) in
    let h = encrypted_good g.p z (length g.ksk.now) (length g.bsk.now) g.key.now g.bytes.now (length g.ins.now) (length g.plain.now) (length g.wires.now) (length g.out.now) (length g.drifts.now) c.requires in
    let run = rw c.p.view_is at c.run_encrypted.ensures in
    let wires = run.held ∙ wires_written g.p g.ksk.now g.bsk.now g.bytes.now g.ins.now g.wires.now g.out.now h in
    let pass = c.pass.ensures in
    pass.written ∙ ap (short_drifts g.p g.key.now g.bytes.now g.ins.now g.plain.now) wires
