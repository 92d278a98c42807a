use mathlib.Core.Path.{◌≡◌}
use Rattle.tokens.specs.Back.{back_start}
use Rattle.tokens.proofs.backwards.back_start.Given as goal

abbrev pub invariant-loop-p : goal.invariant-loop-p
invariant-loop-p l = back_start l.text l.e ≡ back_start l.text l.p
