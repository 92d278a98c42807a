use mathlib.Core.Path.{◌≡◌}
use mathlib.Core.Bool.{false}
use Rattle.tokens.specs.Tokens.{past}
use Rattle.bristol_form.specs.Says.{among}
use Rattle.bristol_form.proofs.wires.is_among.Given as goal

abbrev pub invariant-loop : goal.invariant-loop
invariant-loop l = (l.p ≡ past l.text l.at l.counter) × (among l.text l.at l.counter l.w ≡ false)
