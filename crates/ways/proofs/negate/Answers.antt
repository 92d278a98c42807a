-- `ways::negate` meets its contract: each turn negates one more word.
-- Assumes nothing.
use mathlib.Core.Path.{refl, ap, ◌∙◌}
use Prim.Native.Nat.{ℕ, ◌%◌, ◌<◌}
use native.Mathlib.Omega.{arith}
use lib.ListN.{length, length-set}
use Rattle.ring.specs.Word.{Q, at, neg}
use Rattle.ring.proofs.Tab.{tab_none, tab_read, tab_more, tab_done}
use Rattle.tlwe.specs.Linear.{negative}
use Rattle.ways.proofs.negate.Goals as goal

pub loop-i-init : goal.loop-i-init
loop-i-init c = (refl, tab_none _ _)

pub loop-i-preserved : goal.loop-i-preserved
loop-i-preserved c =
    let g = c.args in
    let l = c.loop-i in
    let h : l.i < length g.out.now = omega arith in
    let r = tab_read (λ j. neg (at g.out.now j) % Q) g.out.now l.i h l.invariant.1 in
    (simp length-set l.invariant.0, tab_more (λ j. neg (at g.out.now j) % Q) g.out.now l.i h l.invariant.1 (c.negated.ensures ∙ ap (λ (y : ℕ). neg y % Q) r))

pub returns : goal.returns
unfolding negative
returns c =
    let l = c.loop-i in
    let g = c.args in
    tab_done (λ j. neg (at g.out.now j) % Q) g.out.now l.i (length g.out.now) (omega arith) (omega arith) refl l.invariant.1
