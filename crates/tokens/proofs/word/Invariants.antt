use mathlib.Core.Path.{◌≡◌}
use Prim.Native.Nat.{◌≤◌, max}
use lib.ListN.{length}
use Rattle.tokens.specs.Tokens.{no_number}
use Rattle.tokens.specs.Private.{word_at, left_at}
use Rattle.tokens.proofs.word.Given as goal

abbrev pub invariant-loop-p : goal.invariant-loop-p
invariant-loop-p l = (l.v ≤ no_number) × (l.p ≤ max l.start (length l.text)) × (word_at l.text l.start ≡ left_at l.text l.start l.p l.v)
