-- `product::check` meets its contract: where it returns `Ok`, the lengths are N, which is at most 1,024.
-- Assumes nothing.
use Rattle.std.proofs.Common.{◌≡◌, arith, rules}
use Rattle.params.specs.Ranges.{InRange}
use Rattle.params.specs.Sizes.{size}
use Rattle.params.proofs.Ranges.{size_to}
use Rattle.product.proofs.check.Goals as goal

pub returns-clause-small : goal.returns-clause-small
returns-clause-small c =
    let e : c.args.lo ≡ size c.args.p = search rules in
    let r : InRange c.args.p = search rules in
    omega (arith, e, size_to c.args.p r)
