-- `utils::torus_to_f64` meets its contract: both the cast and the quotient are exact.
-- Assumes nothing.
use Rattle.std.proofs.Common.{ℕ, ◌^◌, ◌<◌, ◌≤◌, false, pos, arith, rules, lit≤}
use lib.Ieee.{binary64, fin, of_int, of_bits, div}
use lib.Ieee.Exact.{HasValue}
use lib.Ieee.Back.{round_whole}
use Rattle.ring.specs.Word.{Q}
use Rattle.utils.proofs.Exact.{div-pow}
use Rattle.utils.proofs.torus_to_f64.Goals as goal

few : (t : ℕ) → t < 2 ^ 32 → t < 2 ^ 53
few t h = omega arith

few_le : (t : ℕ) → t < 2 ^ 32 → t ≤ 2 ^ 53
few_le t h = omega arith

quotient : (t : ℕ) → t < 2 ^ 32 → HasValue (div binary64 (of_int binary64 (pos t)) (fin false 1 (pos 32))) false t (2 ^ 32)
unfolding of_int
quotient t h = div-pow binary64 (of_int binary64 (pos t)) false t 32 (lit≤ tt) (few t h) h (round_whole binary64 false t (few_le t h))

pub returns : goal.returns
unfolding of_bits Q
returns c =
    let h : c.args.t.0 < 2 ^ 32 = search rules in
    rw c.from.ensures (quotient c.args.t.0 h)
