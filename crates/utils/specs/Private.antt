-- What only private contracts need: the two float operations of `f64_to_torus`, both exact.
use Rattle.std.specs.Prelude.{◌≡◌, ◌*◌, ◌%◌, Float}
use Rattle.std.specs.Float.{nan, inf, fin}
use Rattle.std.specs.Float.Ieee.{up, down}
use Rattle.std.specs.Float.Ieee.Exact.{HasValue}
use Rattle.ring.specs.Word.{Q}

-- r is exactly the remainder of d by 1.0: d's fraction, with d's sign. A NaN and the infinities have none.
abbrev pub IsFraction : Float → Float → Type 0
IsFraction nan r = r ≡ nan
IsFraction (inf s) r = r ≡ nan
IsFraction (fin s m e) r = HasValue r s (m * up e % down e) (down e)

-- r is exactly 2^32 times that fraction.
abbrev pub IsScaledFraction : Float → Float → Type 0
IsScaledFraction nan r = r ≡ nan
IsScaledFraction (inf s) r = r ≡ nan
IsScaledFraction (fin s m e) r = HasValue r s (m * up e % down e * Q) (down e)
