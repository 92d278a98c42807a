-- `drift_run::gates_of::fresh` meets its contract: the phase less the word of the bit.
-- Assumes nothing.
use mathlib.Core.Path.{ap₂, ◌∙◌}
use Prim.Native.Nat.{ℕ, ◌+◌, ◌%◌}
use Rattle.ring.specs.Word.{Q, neg}
use Rattle.drift.specs.PrivateWords.{fresh_word}
use Rattle.drift_run.proofs.gates_of.fresh.Goals as goal

pub returns : goal.returns
unfolding fresh_word
returns c = c.sub.ensures ∙ ap₂ (λ (x y : ℕ). (x + neg y) % Q) c.phase.ensures c.bit_word.ensures
