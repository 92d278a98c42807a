use mathlib.Core.Path.{◌≡◌}
use Rattle.ring.specs.Lists.{joined}
use Rattle.bristol_export.specs.Text.{first_wire, gate_text}
use Rattle.bristol_export.proofs.Laid.{Put}
use Rattle.bristol_export.proofs.whole.put_gates.Given as goal

abbrev pub invariant-loop-g : goal.invariant-loop-g
invariant-loop-g l = (l.n ≡ first_wire l.bytes l.g) × Put l.initial.out l.at (joined l.g (gate_text l.bytes)) l.out l.to
