-- Two outcomes that a contract of this crate allows coincide: of the contract itself, as `rattle` reads it from the code, for every public routine (01, 'What the contracts owe').
-- Assumes nothing.
use Rattle.ring.proofs.Outcomes.{Determined, said, said_written}
use Rattle.drift_report.proofs.empty as empty
use Rattle.drift_report.specs.contracts.empty as empty_c
use Rattle.drift_report.proofs.report_of as report_of_call
use Rattle.drift_report.specs.contracts.report_of as report_of_c
use Rattle.drift_report.proofs.merge as merge
use Rattle.drift_report.specs.contracts.merge as merge_c
use Rattle.drift_report.proofs.as_words.empty_into as empty_into
use Rattle.drift_report.specs.contracts.as_words.empty_into as empty_into_c
use Rattle.drift_report.proofs.as_words.report_into as report_into
use Rattle.drift_report.specs.contracts.as_words.report_into as report_into_c
use Rattle.drift_report.proofs.as_words.merge_into as merge_into
use Rattle.drift_report.specs.contracts.as_words.merge_into as merge_into_c

pub empty_determined : Determined empty_c.ended empty.Reads.Learnt
empty_determined κs a x y v w = said

pub report_of_determined : Determined report_of_c.ended report_of_call.Reads.Learnt
report_of_determined κs a x y v w = said

pub merge_determined : Determined merge_c.ended merge.Reads.Learnt
merge_determined κs a x y v w = said

pub empty_into_determined : Determined empty_into_c.ended empty_into.Reads.Learnt
empty_into_determined κs a x y v w = said_written 0

pub report_into_determined : Determined report_into_c.ended report_into.Reads.Learnt
report_into_determined κs a x y v w = said_written 1

pub merge_into_determined : Determined merge_into_c.ended merge_into.Reads.Learnt
merge_into_determined κs a x y v w = said_written 2
