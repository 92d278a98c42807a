-- Two outcomes that a contract of this crate allows coincide: of the contract itself, as `rattle` reads it from the code, for every public routine (01, 'What the contracts owe').
-- Assumes nothing.
use mathlib.Core.Path.{refl}
use Rattle.ring.proofs.Outcomes.{coincide, Determined, DeterminedAs, said, said_written, said_written_twice}
use Rattle.key.proofs.decomposition_offset as decomposition_offset
use Rattle.key.specs.contracts.decomposition_offset as decomposition_offset_c
use Rattle.key.proofs.gen_testvec as gen_testvec
use Rattle.key.specs.contracts.gen_testvec as gen_testvec_c
use Rattle.key.proofs.row_index as row_index_call
use Rattle.key.specs.contracts.row_index as row_index_c
use Rattle.key.proofs.switching_row_answer as switching_row_answer
use Rattle.key.specs.contracts.switching_row_answer as switching_row_answer_c
use Rattle.key.proofs.switching_row as switching_row
use Rattle.key.specs.contracts.switching_row as switching_row_c
use Rattle.key.proofs.gen_key_switching_key as gen_key_switching_key
use Rattle.key.specs.contracts.gen_key_switching_key as gen_key_switching_key_c
use Rattle.key.proofs.former.drop_idle_rows as drop_idle_rows
use Rattle.key.specs.contracts.former.drop_idle_rows as drop_idle_rows_c
use Rattle.key.proofs.bits.bit_rows_answer as bit_rows_answer
use Rattle.key.specs.contracts.bits.bit_rows_answer as bit_rows_answer_c
use Rattle.key.proofs.bits.bit_rows as bit_rows_call
use Rattle.key.specs.contracts.bits.bit_rows as bit_rows_c

pub decomposition_offset_determined : Determined decomposition_offset_c.ended decomposition_offset.Reads.Learnt
decomposition_offset_determined κs a x y v w = said

pub gen_testvec_determined : Determined gen_testvec_c.ended gen_testvec.Reads.Learnt
gen_testvec_determined κs a x y v w = said_written_twice 1

pub row_index_determined : Determined row_index_c.ended row_index_call.Reads.Learnt
row_index_determined κs a x y v w = said

pub switching_row_answer_determined : Determined switching_row_answer_c.ended switching_row_answer.Reads.Learnt
switching_row_answer_determined κs a x y v w = said

-- of a part that is handed back a caller has its words
pub switching_row_determined : DeterminedAs switching_row_c.ended switching_row.Reads.Learnt (λ κs x. Unit {0}) (λ κs x. x.now)
switching_row_determined κs a x y v w _ _ p q = (coincide p q, refl)

pub gen_key_switching_key_determined : Determined gen_key_switching_key_c.ended gen_key_switching_key.Reads.Learnt
gen_key_switching_key_determined κs a x y v w = said_written 5

pub drop_idle_rows_determined : Determined drop_idle_rows_c.ended drop_idle_rows.Reads.Learnt
drop_idle_rows_determined κs a x y v w = said_written 2

pub bit_rows_answer_determined : Determined bit_rows_answer_c.ended bit_rows_answer.Reads.Learnt
bit_rows_answer_determined κs a x y v w = said

pub bit_rows_determined : DeterminedAs bit_rows_c.ended bit_rows_call.Reads.Learnt (λ κs x. Unit {0}) (λ κs x. x.now)
bit_rows_determined κs a x y v w _ _ p q = (coincide p q, refl)
