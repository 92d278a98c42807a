use mathlib.Core.Path.{◌≡◌}
use Prim.Native.Nat.{◌*◌, ◌≤◌}
use Rattle.ring.specs.Sums.{sum_to}
use Rattle.kinds.specs.Kinds.{kind_of}
use Rattle.circuit.specs.Form.{kind_at}
use Rattle.circuit.proofs.cost.total.Given as goal

abbrev pub invariant-loop-g : goal.invariant-loop-g
invariant-loop-g l = (l.sum ≤ 2 * l.g) × (l.sum ≡ sum_to l.g (λ i. (kind_of (kind_at l.bytes i)).work))
