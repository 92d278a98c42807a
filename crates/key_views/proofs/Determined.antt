-- Two outcomes that a contract of this crate allows coincide: of the contract itself, as `rattle` reads it from the code, for every public routine (01, 'What the contracts owe').
-- Assumes nothing.
use mathlib.Core.Path.{refl}
use Rattle.ring.proofs.Outcomes.{coincide, Determined, DeterminedAs, said, said_written, said_written_twice}
use Rattle.key_views.proofs.switching_key_answer as switching_key_answer
use Rattle.key_views.specs.contracts.switching_key_answer as switching_key_answer_c
use Rattle.key_views.proofs.bootstrapping_key_answer as bootstrapping_key_answer
use Rattle.key_views.specs.contracts.bootstrapping_key_answer as bootstrapping_key_answer_c
use Rattle.key_views.proofs.switching_key as switching_key
use Rattle.key_views.specs.contracts.switching_key as switching_key_c
use Rattle.key_views.proofs.bootstrapping_key as bootstrapping_key_call
use Rattle.key_views.specs.contracts.bootstrapping_key as bootstrapping_key_c
use Rattle.key_views.proofs.switching_row as switching_row
use Rattle.key_views.specs.contracts.switching_row as switching_row_c
use Rattle.key_views.proofs.bit_rows as bit_rows_call
use Rattle.key_views.specs.contracts.bit_rows as bit_rows_c
use Rattle.key_views.proofs.identity_key_switching as identity_key_switching
use Rattle.key_views.specs.contracts.identity_key_switching as identity_key_switching_c
use Rattle.key_views.proofs.blind_rotate as blind_rotate
use Rattle.key_views.specs.contracts.blind_rotate as blind_rotate_c
use Rattle.key_views.proofs.gate as gate
use Rattle.key_views.specs.contracts.gate as gate_c

pub switching_key_answer_determined : Determined switching_key_answer_c.ended switching_key_answer.Reads.Learnt
switching_key_answer_determined κs a x y v w = said

pub bootstrapping_key_answer_determined : Determined bootstrapping_key_answer_c.ended bootstrapping_key_answer.Reads.Learnt
bootstrapping_key_answer_determined κs a x y v w = said

-- of a view a caller has the words of its slice
pub switching_key_determined : DeterminedAs switching_key_c.ended switching_key.Reads.Learnt (λ κs x. Unit {0}) (λ κs x. x.lent.now)
switching_key_determined κs a x y v w _ _ p q = (coincide p q, refl)

pub bootstrapping_key_determined : DeterminedAs bootstrapping_key_c.ended bootstrapping_key_call.Reads.Learnt (λ κs x. Unit {0}) (λ κs x. x.lent.now)
bootstrapping_key_determined κs a x y v w _ _ p q = (coincide p q, refl)

pub switching_row_determined : DeterminedAs switching_row_c.ended switching_row.Reads.Learnt (λ κs x. Unit {0}) (λ κs x. x.now)
switching_row_determined κs a x y v w _ _ p q = (coincide p q, refl)

pub bit_rows_determined : DeterminedAs bit_rows_c.ended bit_rows_call.Reads.Learnt (λ κs x. Unit {0}) (λ κs x. x.now)
bit_rows_determined κs a x y v w _ _ p q = (coincide p q, refl)

pub identity_key_switching_determined : Determined identity_key_switching_c.ended identity_key_switching.Reads.Learnt
identity_key_switching_determined κs a x y v w = said_written 3

pub blind_rotate_determined : Determined blind_rotate_c.ended blind_rotate.Reads.Learnt
blind_rotate_determined κs a x y v w = said_written_twice 3

pub gate_determined : Determined gate_c.ended gate.Reads.Learnt
gate_determined κs a x y v w = said_written 6
