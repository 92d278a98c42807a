-- `circuit::plain::put_gates` meets its contract: the loop writes one gate's bit after the other.
-- Assumes nothing.
use native.Mathlib.Omega.{arith}
use Rattle.circuit.proofs.Wires.{run_none, run_more}
use Rattle.circuit.proofs.plain.put_gates.Goals as goal

pub loop-g-init : goal.loop-g-init
loop-g-init c =
    let a = c.args in
    run_none a.bytes.now a.bits.now c.field-first.result (omega arith)

pub loop-g-preserved : goal.loop-g-preserved
loop-g-preserved c =
    let a = c.args in
    run_more a.bytes.now a.bits.now c.field-first.result (omega arith) c.loop-g.g c.loop-g.invariant c.gate_bit.result (omega arith) c.gate_bit.ensures
