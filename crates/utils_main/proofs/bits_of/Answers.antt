-- What has a value is no NaN.
use Rattle.std.proofs.Common.{ℕ, Bool}
use mathlib.Core.Bool.{not}
use lib.Dec.{T}
use lib.Ieee.{Float, nan, inf, fin, is_nan}
use lib.Ieee.Exact.{HasValue}
use Rattle.utils_main.proofs.bits_of.Goals as goal

no_nan : (x : Float) (s : Bool) (a c : ℕ) → HasValue x s a c → T (not (is_nan x))
unfolding is_nan
no_nan nan s a c v = v
no_nan (inf t) s a c v = tt
no_nan (fin t m e) s a c v = tt

pub float_to_bits-result : goal.float_to_bits-result
float_to_bits-result c = no_nan _ _ _ _ c.torus_to_f64-d.ensures
