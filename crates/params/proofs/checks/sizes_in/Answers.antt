-- `params::checks::sizes_in` meets its contract: no product passes 2^64, by the bounds of `proofs/Ranges.antt`.
-- Assumes nothing.
use mathlib.Core.Path.{◌∙◌}
use native.Mathlib.Omega.{arith}
use Rattle.ring.specs.Word.{Q}
use Rattle.ring.proofs.Words.{power_below}
use Rattle.params.proofs.Ranges.{Small, small, size_to, base_to, base_from, l_to, t_to}
use Rattle.params.proofs.checks.sizes_in.Goals as goal

pub overflow_sub-switching : goal.overflow_sub-switching
unfolding Q
overflow_sub-switching c =
    let p = c.args.p in
    omega (arith, base_from p, base_to p c.requires)

pub overflow_mul-switching : goal.overflow_mul-switching
unfolding Q
overflow_mul-switching c =
    let bounds : let p = c.args.p in Small c.power-size.result c.power-base.result p.t p.l p.n =
    let p = c.args.p in
    let r = c.requires in
    small _ _ _ _ _ (omega (arith, size_to p r)) (omega (arith, base_to p r)) (t_to p r) (l_to p r) r.n_to
    in
    omega (arith, bounds)

pub overflow_mul-result : goal.overflow_mul-result
unfolding Q
overflow_mul-result c =
    let bounds : let p = c.args.p in Small c.power-size.result c.power-base.result p.t p.l p.n =
    let p = c.args.p in
    let r = c.requires in
    small _ _ _ _ _ (omega (arith, size_to p r)) (omega (arith, base_to p r)) (t_to p r) (l_to p r) r.n_to
    in
    omega (arith, bounds)

pub overflow_mul-result-2 : goal.overflow_mul-result-2
unfolding Q
overflow_mul-result-2 c =
    let bounds : let p = c.args.p in Small c.power-size.result c.power-base.result p.t p.l p.n =
    let p = c.args.p in
    let r = c.requires in
    small _ _ _ _ _ (omega (arith, size_to p r)) (omega (arith, base_to p r)) (t_to p r) (l_to p r) r.n_to
    in
    omega (arith, bounds)

pub returns : goal.returns
returns c =
    let p = c.args.p in
    let r = c.requires in
    rw (c.power-size.ensures ∙ power_below p.nbit (omega arith), c.power-base.ensures ∙ power_below p.basebit (omega arith))
