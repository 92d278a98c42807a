-- Two outcomes that a contract of this crate allows coincide.
-- Assumes nothing.
use Rattle.ring.proofs.Outcomes.{Determined, coincide, same_rest, said, said_written_twice}
use Rattle.drift_run.proofs.is_inside as is_inside
use Rattle.drift_run.specs.contracts.is_inside as is_inside_c
use Rattle.drift_run.proofs.fresh_drift as fresh_drift_call
use Rattle.drift_run.specs.contracts.fresh_drift as fresh_drift_c
use Rattle.drift_run.proofs.drift_gate as drift_gate
use Rattle.drift_run.specs.contracts.drift_gate as drift_gate_c
use Rattle.drift_run.proofs.drift_run as drift_run
use Rattle.drift_run.specs.contracts.drift_run as drift_run_c

pub is_inside_determined : Determined is_inside_c.ended is_inside.Reads.Learnt
is_inside_determined κs a x y v w = said

pub fresh_drift_determined : Determined fresh_drift_c.ended fresh_drift_call.Reads.Learnt
fresh_drift_determined κs a x y v w = said

pub drift_gate_determined : Determined drift_gate_c.ended drift_gate.Reads.Learnt
drift_gate_determined κs a x y v w = said_written_twice 7

pub drift_run_determined : Determined drift_run_c.ended drift_run.Reads.Learnt
drift_run_determined κs a x y v w p q =
    let held = coincide p.1.0 q.1.0 in
    let written = coincide p.1.1.0 q.1.1.0 in
    let drifted = coincide p.1.1.1.0 q.1.1.1.0 in
    (coincide p.0 q.0, same_rest 8 (λ i. (held i, (written i, (drifted i, tt)))))
