-- `bristol_export::text::put_digit_if` meets its contract: one byte or none.
-- Assumes nothing.
use mathlib.Core.Path.{sym, ap, ◌∙◌}
use lib.ListN.{length}
use Rattle.bristol_export.specs.Private.{laid}
use Rattle.bristol_export.proofs.Laid.{laid_none}
use Rattle.bristol_export.proofs.Digits.{digit_none}
use Rattle.bristol_export.proofs.text.put_digit_if.Goals as goal

pub returns-else-shown-clause-out_after : goal.returns-else-shown-clause-out_after
returns-else-shown-clause-out_after c =
    let a = c.args in
    let e = digit_none a.shown a.d c.if-shown.false in
    let l = ap length e in
    laid_none a.out.now a.at ∙ ap (laid a.out.now a.at) (sym e)
