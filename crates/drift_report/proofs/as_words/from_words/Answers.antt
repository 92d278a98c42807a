-- `drift_report::as_words::from_words` meets its contract: there are 33 words before the last three.
-- Assumes nothing.
use mathlib.Core.Path.{sym}
use native.Mathlib.Omega.{arith}
use lib.Seq.{length-take-le}
use Rattle.drift_report.proofs.as_words.from_words.Goals as goal

pub slice_bounds-copy_from_slice-end-2 : goal.slice_bounds-copy_from_slice-end-2
slice_bounds-copy_from_slice-end-2 c = sym (length-take-le 33 _ (omega (arith, c.requires)))
