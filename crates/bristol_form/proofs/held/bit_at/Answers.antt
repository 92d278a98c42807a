-- `bristol_form::held::bit_at` meets its contract: it computes the definition.
-- Assumes nothing.
use mathlib.Core.Path.{ap}
use Prim.Native.Nat.{ℕ, ◌/◌, ◌%◌}
use lib.Dec.{eqb}
use Rattle.ring.specs.Word.{at}
use Rattle.bristol_form.specs.Private.{held_bit}
use Rattle.bristol_form.proofs.held.bit_at.Goals as goal

pub returns : goal.returns
unfolding held_bit
returns c = let a = c.args in ap (λ (p : ℕ). eqb (at a.bits.now (a.w / 8) / p % 2) 1) c.power.ensures
