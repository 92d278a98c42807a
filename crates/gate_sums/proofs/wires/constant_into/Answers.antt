-- `gate_sums::wires::constant_into` meets its contract: zeros, and one store.
-- Assumes nothing.
use mathlib.Core.Path.{ap, ◌∙◌}
use mathlib.Core.List.{List}
use Prim.Native.Nat.{ℕ, ◌-◌}
use lib.ListN.{length, set}
use Rattle.ring.specs.Sums.{tab}
use Rattle.ring.proofs.Tab.{length-tab}
use Rattle.gate_sums.proofs.Sums.{trivial_stored}
use Rattle.gate_sums.proofs.wires.constant_into.Goals as goal

pub returns : goal.returns
returns c =
    let s = c.args in
    let m = length s.out.now in
    ap (λ (l : List ℕ). set l (length l - 1) s.c) c.fill.ensures ∙ ap (λ (k : ℕ). set (tab m (λ i. 0)) (k - 1) s.c) (length-tab m _) ∙ trivial_stored m s.c c.requires
