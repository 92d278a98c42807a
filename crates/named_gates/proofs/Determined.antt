-- Two outcomes that a contract of this crate allows coincide: of the contract itself, as `rattle` reads it from the code, for every public routine (01, 'What the contracts owe').
-- Assumes nothing.
use Rattle.ring.proofs.Outcomes.{Determined, said_written}
use Rattle.named_gates.proofs.nand as nand
use Rattle.named_gates.specs.contracts.nand as nand_c
use Rattle.named_gates.proofs.or as or
use Rattle.named_gates.specs.contracts.or as or_c
use Rattle.named_gates.proofs.and as and
use Rattle.named_gates.specs.contracts.and as and_c
use Rattle.named_gates.proofs.nor as nor
use Rattle.named_gates.specs.contracts.nor as nor_c
use Rattle.named_gates.proofs.and_ny as and_ny
use Rattle.named_gates.specs.contracts.and_ny as and_ny_c
use Rattle.named_gates.proofs.and_yn as and_yn
use Rattle.named_gates.specs.contracts.and_yn as and_yn_c
use Rattle.named_gates.proofs.or_ny as or_ny
use Rattle.named_gates.specs.contracts.or_ny as or_ny_c
use Rattle.named_gates.proofs.or_yn as or_yn
use Rattle.named_gates.specs.contracts.or_yn as or_yn_c
use Rattle.named_gates.proofs.xor as xor
use Rattle.named_gates.specs.contracts.xor as xor_c
use Rattle.named_gates.proofs.xnor as xnor
use Rattle.named_gates.specs.contracts.xnor as xnor_c
use Rattle.named_gates.proofs.mux as mux
use Rattle.named_gates.specs.contracts.mux as mux_c
use Rattle.named_gates.proofs.mux_naive as mux_naive
use Rattle.named_gates.specs.contracts.mux_naive as mux_naive_c

pub nand_determined : Determined nand_c.ended nand.Reads.Learnt
nand_determined κs a x y v w = said_written 5

pub or_determined : Determined or_c.ended or.Reads.Learnt
or_determined κs a x y v w = said_written 5

pub and_determined : Determined and_c.ended and.Reads.Learnt
and_determined κs a x y v w = said_written 5

pub nor_determined : Determined nor_c.ended nor.Reads.Learnt
nor_determined κs a x y v w = said_written 5

pub and_ny_determined : Determined and_ny_c.ended and_ny.Reads.Learnt
and_ny_determined κs a x y v w = said_written 5

pub and_yn_determined : Determined and_yn_c.ended and_yn.Reads.Learnt
and_yn_determined κs a x y v w = said_written 5

pub or_ny_determined : Determined or_ny_c.ended or_ny.Reads.Learnt
or_ny_determined κs a x y v w = said_written 5

pub or_yn_determined : Determined or_yn_c.ended or_yn.Reads.Learnt
or_yn_determined κs a x y v w = said_written 5

pub xor_determined : Determined xor_c.ended xor.Reads.Learnt
xor_determined κs a x y v w = said_written 5

pub xnor_determined : Determined xnor_c.ended xnor.Reads.Learnt
xnor_determined κs a x y v w = said_written 5

pub mux_determined : Determined mux_c.ended mux.Reads.Learnt
mux_determined κs a x y v w = said_written 6

pub mux_naive_determined : Determined mux_naive_c.ended mux_naive.Reads.Learnt
mux_naive_determined κs a x y v w = said_written 6
