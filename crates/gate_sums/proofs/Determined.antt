-- Two outcomes that a contract of this crate allows coincide: of the contract itself, as `rattle` reads it from the code, for every public routine (01, 'What the contracts owe').
-- Assumes nothing.
use Rattle.ring.proofs.Outcomes.{Determined, said, said_written}
use Rattle.gate_sums.proofs.weights_of as weights_of_call
use Rattle.gate_sums.specs.contracts.weights_of as weights_of_c
use Rattle.gate_sums.proofs.sum as sum
use Rattle.gate_sums.specs.contracts.sum as sum_c
use Rattle.gate_sums.proofs.mux_sum as mux_sum_call
use Rattle.gate_sums.specs.contracts.mux_sum as mux_sum_c
use Rattle.gate_sums.proofs.wires.not as not
use Rattle.gate_sums.specs.contracts.wires.not as not_c
use Rattle.gate_sums.proofs.wires.copy as copy
use Rattle.gate_sums.specs.contracts.wires.copy as copy_c
use Rattle.gate_sums.proofs.wires.constant as constant
use Rattle.gate_sums.specs.contracts.wires.constant as constant_c

pub weights_of_determined : Determined weights_of_c.ended weights_of_call.Reads.Learnt
weights_of_determined κs a x y v w = said

pub sum_determined : Determined sum_c.ended sum.Reads.Learnt
sum_determined κs a x y v w = said_written 4

pub mux_sum_determined : Determined mux_sum_c.ended mux_sum_call.Reads.Learnt
mux_sum_determined κs a x y v w = said_written 3

pub not_determined : Determined not_c.ended not.Reads.Learnt
not_determined κs a x y v w = said_written 2

pub copy_determined : Determined copy_c.ended copy.Reads.Learnt
copy_determined κs a x y v w = said_written 2

pub constant_determined : Determined constant_c.ended constant.Reads.Learnt
constant_determined κs a x y v w = said_written 2
