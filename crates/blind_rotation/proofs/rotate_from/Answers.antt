-- `blind_rotation::rotate_from` meets its contract: the start is the vector turned by b's amount, and the steps follow.
-- Assumes nothing.
use Rattle.std.proofs.Common.{◌≡◌, ℕ, ◌+◌, ◌≤◌, ap, ◌∙◌}
use native.Mathlib.Omega.{arith}
use Rattle.ring.specs.Word.{at}
use Rattle.ring.specs.Pair.{Pair}
use Rattle.params.specs.Sizes.{size}
use Rattle.params.specs.Ranges.{InRange}
use Rattle.params.proofs.Ranges.{not_refused}
use Rattle.params.specs.declared.Sizes.{Sizes}
use Rattle.rotation.specs.Amount.{body_amount}
use Rattle.rotation.proofs.Amounts.{body_to, body_value}
use Rattle.rotation.proofs.Rotate.{rotate_written}
use Rattle.blind_rotation.specs.Blind.{steps_to, blind_rotated}
use Rattle.blind_rotation.proofs.Steps.{start_is}
use Rattle.blind_rotation.proofs.rotate_from.Goals as goal

pub returns : goal.returns
unfolding blind_rotated
returns c =
    let g = c.args in
    let r = c.requires in
    let i : InRange g.p = rw (← c.p.view_is) c.p.invariant.0 in
    let z = not_refused g.p i in
    let body : ℕ = at g.src.now g.p.n in
    let k = c.unwrap_or-k.result.0 in
    let n : c.p.inside.sizes.n ≡ g.p.n = rw c.p.view_is at (ap (λ (s : Sizes). s.n) c.p.invariant.1) in
    let ek : k ≡ body_amount g.p body = body_value g.p i (at g.src.now c.p.inside.sizes.n) _ c.p.view_is c.body_amount.ensures c.unwrap_or-k.ensures ∙ ap (λ (m : ℕ). body_amount g.p (at g.src.now m)) n in
    let lk : k ≤ size g.p + size g.p = omega (arith, ek, body_to g.p i body) in
    let ra = rotate_written g.p g.ta.now g.a.now k z r.scratch.first r.accumulator.first lk (rw c.p.view_is at c.poly_mul_with_x_k.ensures.written) in
    let rb = rotate_written g.p g.tb.now g.b.now k z r.scratch.second r.accumulator.second lk (rw c.p.view_is at c.poly_mul_with_x_k-2.ensures.written) in
    let e = start_is g.p g.ta.now g.tb.now body ek ra rb in c.all_steps.ensures ∙ ap (λ (w : Pair). steps_to g.p g.key.now g.src.now w g.p.n) e
