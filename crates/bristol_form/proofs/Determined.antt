-- Two outcomes that a contract of this crate allows coincide: of the contract itself, as `rattle` reads it from the code, for every public routine (01, 'What the contracts owe').
-- Assumes nothing.
use Rattle.ring.proofs.Outcomes.{Determined, said}
use Rattle.bristol_form.proofs.form.check as check
use Rattle.bristol_form.specs.contracts.form.check as check_c

pub check_determined : Determined check_c.ended check.Reads.Learnt
check_determined κs a x y v w = said
