use mathlib.Core.Path.{◌≡◌}
use Prim.Native.Nat.{ℕ, ◌<◌}
use lib.ListN.{length}
use Rattle.ring.specs.Word.{at}
use Rattle.tables.specs.Table.{table_word}
use Rattle.tables.proofs.vectors.put_words.Given as goal

abbrev pub invariant-loop-i : goal.invariant-loop-i
invariant-loop-i l = (k : ℕ) → k < l.i → at l.b k ≡ table_word (length l.initial.b) (length l.table) l.table k
