-- Two outcomes that a contract of this crate allows coincide: of the contract itself, as `rattle` reads it from the code, for every public routine (01, 'What the contracts owe').
-- Assumes nothing.
use mathlib.Core.Path.{refl}
use Rattle.ring.proofs.Outcomes.{coincide, Determined, DeterminedAs, said, said_written}
use Rattle.ways.proofs.way_of as Way-of
use Rattle.ways.specs.contracts.way_of as Way-of_c
use Rattle.ways.proofs.run_way as run_way
use Rattle.ways.specs.contracts.run_way as run_way_c
use Rattle.ways.proofs.ciphertext as ciphertext
use Rattle.ways.specs.contracts.ciphertext as ciphertext_c

pub way_of_determined : Determined Way-of_c.ended Way-of.Reads.Learnt
way_of_determined κs a x y v w = said

pub run_way_determined : Determined run_way_c.ended run_way.Reads.Learnt
run_way_determined κs a x y v w = said_written 7

-- of a part that is handed back a caller has its words
pub ciphertext_determined : DeterminedAs ciphertext_c.ended ciphertext.Reads.Learnt (λ κs x. Unit {0}) (λ κs x. x.now)
ciphertext_determined κs a x y v w _ _ p q = (coincide p q, refl)
