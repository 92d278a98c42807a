use mathlib.Core.Path.{◌≡◌}
use mathlib.Core.Bool.{false}
use Rattle.bristol_form.specs.Says.{gate_at, is_set}
use Rattle.bristol_form.proofs.wires.set_in_text.Given as goal

abbrev pub invariant-loop : goal.invariant-loop
invariant-loop l = (l.p ≡ gate_at l.text l.counter) × (is_set l.text l.counter l.w ≡ false)
