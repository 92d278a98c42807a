-- Past the test the pattern is no NaN's (`nan_bits_above`).
use Rattle.std.proofs.Common.{◌%◌, ◌∙◌, Bool, sym, subst}
use mathlib.Core.Bool.{not}
use lib.Dec.{T}
use lib.Ieee.{binary64}
use lib.Ieee.Bits.{nan_bits_above}
use borrow.Author.Tests.{le-ltb}
use Rattle.utils_main.proofs.double.Goals as goal

pub float_from_bits-result : goal.float_from_bits-result
float_from_bits-result c =
    let bits = c.args.bits in
    subst (λ (b : Bool). T (not b)) (sym (nan_bits_above binary64 bits ∙ le-ltb 0x7FF0000000000000 (bits % 0x8000000000000000) c.if-bits-gt9218868437227405312.false)) tt
