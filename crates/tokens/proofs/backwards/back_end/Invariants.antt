use mathlib.Core.Path.{◌≡◌}
use Rattle.tokens.specs.Back.{back_end}
use Rattle.tokens.proofs.backwards.back_end.Given as goal

abbrev pub invariant-loop-p : goal.invariant-loop-p
invariant-loop-p l = back_end l.text l.s ≡ back_end l.text l.p
