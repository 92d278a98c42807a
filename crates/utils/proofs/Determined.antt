-- Two outcomes that a contract of this crate allows coincide: of the contract itself, as `rattle` reads it from the code, for every public routine (01, 'What the contracts owe').
-- Assumes nothing.
use Rattle.std.proofs.Common.{false, refl}
use lib.Ieee.{binary64}
use Rattle.ring.specs.Word.{Q, Q_pos}
use Rattle.ring.proofs.Outcomes.{coincide, Determined, DeterminedAs, said_written}
use Rattle.utils.proofs.Unique.{value_unique}
use Rattle.utils.proofs.f64_to_torus as to_torus
use Rattle.utils.specs.contracts.f64_to_torus as to_torus_c
use Rattle.utils.proofs.torus_to_f64 as to_f64
use Rattle.utils.specs.contracts.torus_to_f64 as to_f64_c
use Rattle.utils.proofs.f64_to_torus_vec as vec
use Rattle.utils.specs.contracts.f64_to_torus_vec as vec_c

-- the contract speaks of the one field of the result
pub f64_to_torus_determined : Determined to_torus_c.ended to_torus.Reads.Learnt
f64_to_torus_determined κs a x y v w p q = (λ i. record { 0 = coincide p q i }, refl)

-- both results are doubles, so the format holds them
pub torus_to_f64_determined : DeterminedAs to_f64_c.ended to_f64.Reads.Learnt (λ κs. (to_f64.Kinds.r).is.Ok κs) (λ κs x. x)
torus_to_f64_determined κs a x y v w ox oy p q = (value_unique binary64 x y false a.0.0 Q Q_pos (rw ox tt) (rw oy tt) p q, refl)

pub f64_to_torus_vec_determined : Determined vec_c.ended vec.Reads.Learnt
f64_to_torus_vec_determined κs a x y v w = said_written 1
