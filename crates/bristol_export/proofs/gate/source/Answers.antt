-- `bristol_export::gate::source` meets its contract: the seven stand in an array.
-- Assumes nothing.
use mathlib.Core.Path.{refl}
use native.Mathlib.Omega.{arith}
use Rattle.bristol_export.specs.Steps.{source_of}
use Rattle.bristol_export.proofs.Columns.{source_below}
use Rattle.bristol_export.proofs.gate.source.Goals as goal

pub returns : goal.returns
unfolding source_of
returns c =
    let a = c.args in
    let p = c.requires in
    (refl, source_below a.which a.a a.b a.c a.n 10000 p.0 (omega arith) (omega arith) (omega arith) (omega arith))
