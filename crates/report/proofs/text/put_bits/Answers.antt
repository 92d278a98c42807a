-- `report::text::put_bits` meets its contract: the loop writes one character a bit.
-- Assumes nothing.
use mathlib.Core.Path.{refl}
use native.Mathlib.Omega.{arith}
use lib.ListN.{get_or, length-set}
use Rattle.report.specs.Text.{bit_char}
use Rattle.report.proofs.Spliced.{splice_start, splice_more, char_byte}
use Rattle.ring.specs.Bit.{truth}
use Rattle.report.proofs.text.put_bits.Goals as goal

pub loop-i-init : goal.loop-i-init
loop-i-init c = (refl, splice_start _ _ _)

pub loop-i-preserved : goal.loop-i-preserved
loop-i-preserved c =
    let a = c.args in
    let i = c.loop-i.invariant in
    let s = a.bits.now in
    (simp length-set i.0, splice_more a.out.now a.at c.loop-i.i (λ j. bit_char (get_or s j 0)) (omega arith) i.0 i.1 (char_byte (truth (get_or s c.loop-i.i 0))))
