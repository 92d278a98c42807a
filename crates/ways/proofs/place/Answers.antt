-- `ways::place` meets its contract: a quotient tells whether the product passes the end, before it is worked out.
-- Assumes nothing.
use native.Mathlib.Omega.{arith}
use Rattle.ways.proofs.Ciphers.{place_is, place_past}
use Rattle.ways.proofs.place.Goals as goal

pub returns-then-w-most : goal.returns-then-w-most
returns-then-w-most c = place_past _ _ _ (omega arith) c.if-w-most.true

pub returns-else-w-most : goal.returns-else-w-most
returns-else-w-most c = place_is _ _ _ (omega arith) c.if-w-most.false
