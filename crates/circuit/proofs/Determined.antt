-- Two outcomes that a contract of this crate allows coincide: of the contract itself, as `rattle` reads it from the code, for every public routine (01, 'What the contracts owe').
-- Assumes nothing.
use Rattle.ring.proofs.Outcomes.{Determined, said, said_written}
use Rattle.circuit.proofs.cost.work as work
use Rattle.circuit.specs.contracts.cost.work as work_c
use Rattle.circuit.proofs.fields.counts as counts
use Rattle.circuit.specs.contracts.fields.counts as counts_c
use Rattle.circuit.proofs.fields.kind_at as kind_at
use Rattle.circuit.specs.contracts.fields.kind_at as kind_at_c
use Rattle.circuit.proofs.fields.operand_at as Operand-at
use Rattle.circuit.specs.contracts.fields.operand_at as Operand-at_c
use Rattle.circuit.proofs.fields.output_at as output_at_call
use Rattle.circuit.specs.contracts.fields.output_at as output_at_c
use Rattle.circuit.proofs.form.check as check
use Rattle.circuit.specs.contracts.form.check as check_c
use Rattle.circuit.proofs.plain.run_plain as run_plain
use Rattle.circuit.specs.contracts.plain.run_plain as run_plain_c
use Rattle.circuit.proofs.words.tell as tell
use Rattle.circuit.specs.contracts.words.tell as tell_c

pub work_determined : Determined work_c.ended work.Reads.Learnt
work_determined κs a x y v w = said

pub counts_determined : Determined counts_c.ended counts.Reads.Learnt
counts_determined κs a x y v w = said

pub kind_at_determined : Determined kind_at_c.ended kind_at.Reads.Learnt
kind_at_determined κs a x y v w = said

pub operand_at_determined : Determined Operand-at_c.ended Operand-at.Reads.Learnt
operand_at_determined κs a x y v w = said

pub output_at_determined : Determined output_at_c.ended output_at_call.Reads.Learnt
output_at_determined κs a x y v w = said

pub check_determined : Determined check_c.ended check.Reads.Learnt
check_determined κs a x y v w = said

pub run_plain_determined : Determined run_plain_c.ended run_plain.Reads.Learnt
run_plain_determined κs a x y v w = said_written 2

pub tell_determined : Determined tell_c.ended tell.Reads.Learnt
tell_determined κs a x y v w = said_written 1
