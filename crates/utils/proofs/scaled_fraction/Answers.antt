-- `utils::scaled_fraction` meets its contract: by `proofs/Exact.antt` the product is exact.
-- Assumes nothing.
use Rattle.std.proofs.Common.{T, sym, subst}
use lib.Ieee.{binary64, fits, of_bits}
use Rattle.utils.proofs.Cut.{is_scaled}
use Rattle.utils.proofs.scaled_fraction.Goals as goal

pub returns : goal.returns
unfolding of_bits
returns c =
    let held : T (fits binary64 c.fraction.result) =
    subst T (sym c.fraction.type_inv) tt
    in
    is_scaled c.args.d c.fraction.result held c.fraction.ensures
