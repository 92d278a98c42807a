-- `bristol_export::text::put` meets its contract: the loop lays one byte behind the other.
-- Assumes nothing.
use native.Mathlib.Omega.{arith}
use Rattle.bristol_export.proofs.Laid.{bytes_none, bytes_more}
use Rattle.bristol_export.proofs.text.put.Goals as goal

pub loop-i-init : goal.loop-i-init
loop-i-init c = let a = c.args in bytes_none a.out.now a.at a.src.now

pub loop-i-preserved : goal.loop-i-preserved
loop-i-preserved c =
    let a = c.args in
    bytes_more a.out.now a.at a.src.now c.loop-i.i (omega arith) c.loop-i.invariant c.put_byte.ensures.out_after
