-- `utils::fraction` meets its contract: by `proofs/Exact.antt` the difference is exact, and by `proofs/Cut.antt` a NaN and the infinities leave none.
-- Assumes nothing.
use Rattle.std.proofs.Common.{◌∙◌, T, sym, ap, subst}
use Rattle.std.specs.Float.{float_with_sign, is_sign_negative}
use lib.Ieee.{binary64, fits}
use Rattle.utils.proofs.Cut.{fract_is_fraction, no_fraction}
use Rattle.utils.proofs.fraction.Goals as goal

pub returns-then-is_nan : goal.returns-then-is_nan
returns-then-is_nan c = no_fraction c.args.d (sym c.is_nan.ensures.value ∙ c.if-is_nan.true)

pub returns : goal.returns
returns c =
    let d = c.args.d in
    let held : T (fits binary64 d) = subst T (sym c.well_formed.0.1) tt in
    fract_is_fraction d c.copysign.result (sym c.is_nan.ensures.value ∙ c.if-is_nan.false) (c.copysign.ensures ∙ ap (float_with_sign (is_sign_negative d)) c.fract.ensures) held
