-- `bristol::ours::start_table` meets its contract: a loop that writes the wires from the front.
-- Assumes nothing.
use native.Mathlib.Omega.{arith}
use mathlib.Core.Path.{◌∙◌}
use Rattle.ring.proofs.Tab.{tab_of}
use Rattle.bristol.proofs.ours.start_table.Goals as goal

pub returns : goal.returns
returns c = tab_of _ _ (λ w. w) (c.loop-w.auto.table ∙ c.requires) (λ k h. c.loop-w.invariant k (omega arith))
