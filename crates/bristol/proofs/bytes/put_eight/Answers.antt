-- `bristol::bytes::put_eight` meets its contract: four fields one behind the other.
-- Assumes nothing.
use native.Mathlib.Omega.{arith}
use Rattle.bristol.proofs.Laid.{laid_eight}
use Rattle.bristol.proofs.bytes.put_eight.Goals as goal

pub returns : goal.returns
returns c =
    let a = c.args in
    laid_eight a.out.now a.at a.kind a.a a.b (omega arith) (omega arith) c.put_field.ensures c.put_field-2.ensures c.put_field-3.ensures c.put_field-4.ensures
