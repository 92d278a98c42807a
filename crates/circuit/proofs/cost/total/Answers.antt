-- `circuit::cost::total` meets its contract. The loop's invariant: the sum is that over the gates passed, and each adds at most two.
-- Assumes nothing.
use mathlib.Core.Path.{ap, ◌∙◌}
use Prim.Native.Nat.{ℕ}
use native.Mathlib.Omega.{arith}
use Rattle.kinds.specs.Kinds.{kind_of}
use Rattle.circuit.specs.Form.{kind_at}
use Rattle.circuit.proofs.Wires.{total_none, total_more}
use Rattle.circuit.proofs.cost.total.Goals as goal

pub loop-g-init : goal.loop-g-init
loop-g-init c = (omega arith, total_none _)

pub loop-g-preserved : goal.loop-g-preserved
loop-g-preserved c =
    let b = c.args.bytes.now in
    let i = c.loop-g.invariant in
    (omega arith, total_more (λ j. (kind_of (kind_at b j)).work) c.loop-g.g i.1 (c.work_of-sum.ensures.value ∙ ap (λ (n : ℕ). (kind_of n).work) c.byte.ensures.value))
