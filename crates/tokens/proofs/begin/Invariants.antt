use mathlib.Core.Path.{◌≡◌}
use Rattle.tokens.specs.Tokens.{start_of}
use Rattle.tokens.proofs.begin.Given as goal

abbrev pub invariant-loop-p : goal.invariant-loop-p
invariant-loop-p l = start_of l.text l.at ≡ start_of l.text l.p
