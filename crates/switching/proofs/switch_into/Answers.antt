-- `switching::switch_into` meets its contract: it starts with the trivial sample, and each turn subtracts the rows of one more mask.
-- Assumes nothing.
use Rattle.std.proofs.Common.{◌≡◌, ap, ◌∙◌, ℕ, ◌+◌, ◌-◌, ◌*◌, ◌%◌, length}
use native.Mathlib.Omega.{arith}
use Rattle.params.specs.Ranges.{InRange}
use Rattle.params.specs.Sizes.{size}
use Rattle.ring.specs.Word.{Q, at, field_of}
use Rattle.ring.specs.Poly.{minus, total}
use Rattle.ring.specs.Phase.{trivial}
use Rattle.ring.proofs.Tab.{length-tab}
use Rattle.ring.proofs.Words.{power_below}
use Rattle.ring.proofs.Samples.{less_none, less_more, less_done, trivial_below, trivial-length}
use Rattle.switching.specs.Switched.{rounding, rounded, mask_field, used_row, mask_rows, switched}
use Rattle.switching.proofs.switch_into.Goals as goal

pub loop-i-init : goal.loop-i-init
unfolding Q
loop-i-init c =
    let g = c.args in
    let n = g.p.n in
    let b = at g.src.now (size g.p) in
    let e : length g.src.now - 1 ≡ size g.p = omega arith in
    let s = c.start.ensures ∙ ap (λ (k : ℕ). trivial n (at g.src.now k)) e in
    let w = (c.type_inv.src (size g.p)).fits in
    (ap length s ∙ trivial-length n b, s ∙ less_none (n + 1) (mask_rows g.p g.ksk.now g.src.now) (trivial n b) (trivial-length n b) (trivial_below n b w))

pub loop-i-preserved : goal.loop-i-preserved
unfolding minus rounded rounding mask_field mask_rows
loop-i-preserved c =
    let g = c.args in
    let l = c.loop-i in
    let i : InRange g.p = rw (← c.p.view_is) c.p.invariant.0 in
    let q = (rw c.p.view_is at c.power-rounding.ensures) ∙ power_below (31 - g.p.basebit * g.p.t) (omega (arith, i)) in
    let r : c.add-a.result ≡ rounded g.p (at g.src.now l.i) = c.add-a.ensures ∙ ap (λ (h : ℕ). (at g.src.now l.i + h) % Q) q in
    let e = c.use_mask.ensures ∙ ap (λ (a : ℕ). minus (g.p.n + 1) l.out (total (g.p.n + 1) g.p.t (λ j. used_row g.p g.ksk.now l.i j (field_of a g.p.basebit j)))) r in
    (ap length e ∙ length-tab _ _, less_more (g.p.n + 1) (mask_rows g.p g.ksk.now g.src.now) (trivial g.p.n (at g.src.now (size g.p))) l.i l.invariant.1 e)

pub returns : goal.returns
unfolding switched
returns c =
    let g = c.args in
    let l = c.loop-i in
    less_done (g.p.n + 1) (mask_rows g.p g.ksk.now g.src.now) (trivial g.p.n (at g.src.now (size g.p))) (omega arith) (omega arith) l.invariant.1
