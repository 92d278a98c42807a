-- `tables::vectors::put_words` meets its contract: each turn writes one more word.
-- Assumes nothing.
use native.Mathlib.Omega.{arith}
use Rattle.ring.proofs.Tab.{tab_of}
use Rattle.tables.proofs.vectors.put_words.Goals as goal

pub returns : goal.returns
returns c = tab_of _ _ _ c.loop-i.auto.b (λ k h. c.loop-i.invariant k (omega arith))
