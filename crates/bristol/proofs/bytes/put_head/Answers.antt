-- `bristol::bytes::put_head` meets its contract: the mark, and four fields behind it.
-- Assumes nothing.
use native.Mathlib.Omega.{arith}
use Rattle.bristol.proofs.Laid.{laid_head}
use Rattle.bristol.proofs.bytes.put_head.Goals as goal

pub returns : goal.returns
returns c =
    let a = c.args in
    laid_head a.out.now a.i a.g a.o (omega arith) c.put_mark.ensures c.put_field.ensures c.put_field-2.ensures c.put_field-3.ensures c.put_field-4.ensures
