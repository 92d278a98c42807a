-- `bristol::bytes::put_field` meets its contract: two bytes stored are two bytes laid.
-- Assumes nothing.
use Prim.Native.Nat.{◌/◌, ◌%◌}
use native.Mathlib.Omega.{arith}
use Rattle.bristol.proofs.Laid.{laid_two}
use Rattle.bristol.proofs.bytes.put_field.Goals as goal

pub returns : goal.returns
returns c = let a = c.args in laid_two a.out.now a.at (a.v % 256) (a.v / 256) (omega arith)
