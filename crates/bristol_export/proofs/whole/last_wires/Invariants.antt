use mathlib.Core.Path.{◌≡◌}
use Prim.Native.Nat.{ℕ, ◌<◌}
use Rattle.ring.specs.Word.{at}
use Rattle.bristol_export.specs.Text.{lines_to, last_wire}
use Rattle.bristol_export.proofs.whole.last_wires.Given as goal

abbrev pub invariant-loop-g : goal.invariant-loop-g
invariant-loop-g l = (l.lines ≡ lines_to l.bytes l.g) × ((k : ℕ) → k < l.g → at l.last k ≡ last_wire l.bytes k)
