-- Two outcomes that a contract of this crate allows coincide: of the contract itself, as `rattle` reads it from the code, for every public routine (01, 'What the contracts owe').
-- Assumes nothing.
use Rattle.ring.proofs.Outcomes.{Determined, coincide, same_rest}
use Rattle.table_drift.proofs.lookup_drift as lookup_drift_call
use Rattle.table_drift.specs.contracts.lookup_drift as lookup_drift_c

pub lookup_drift_determined : Determined lookup_drift_c.ended lookup_drift_call.Reads.Learnt
lookup_drift_determined κs a x y v w p q =
    let written = coincide p.1.0 q.1.0 in
    let drifted = coincide p.1.1.0 q.1.1.0 in
    (coincide p.0 q.0, same_rest 10 (λ i. (written i, (drifted i, tt))))
