use mathlib.Core.Path.{◌≡◌}
use Rattle.tokens.specs.Tokens.{past}
use Rattle.tokens.proofs.skip.Given as goal

abbrev pub invariant-loop : goal.invariant-loop
invariant-loop l = l.p ≡ past l.text l.at l.counter
