-- Two outcomes that a contract of this crate allows coincide: of the contract itself, as `rattle` reads it from the code, for every public routine (01, 'What the contracts owe').
-- Assumes nothing.
use Rattle.ring.proofs.Outcomes.{Determined, said_written}
use Rattle.decomposition.proofs.digit_polynomial as digit_polynomial
use Rattle.decomposition.specs.contracts.digit_polynomial as digit_polynomial_c
use Rattle.decomposition.proofs.decomposition as decomposition
use Rattle.decomposition.specs.contracts.decomposition as decomposition_c

pub digit_polynomial_determined : Determined digit_polynomial_c.ended digit_polynomial.Reads.Learnt
digit_polynomial_determined κs a x y v w = said_written 4

pub decomposition_determined : Determined decomposition_c.ended decomposition.Reads.Learnt
decomposition_determined κs a x y v w = said_written 3
