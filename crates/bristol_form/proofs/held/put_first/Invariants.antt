use mathlib.Core.Path.{◌≡◌}
use mathlib.Core.Bool.{◌||◌}
use Prim.Native.Nat.{ℕ}
use lib.Dec.{ltb}
use lib.ListN.{length}
use Rattle.bristol_form.specs.Private.{held_bit}
use Rattle.bristol_form.proofs.held.put_first.Given as goal

abbrev pub invariant-loop-w : goal.invariant-loop-w
invariant-loop-w l = (length l.bits ≡ length l.initial.bits) × ((v : ℕ) → held_bit l.bits v ≡ held_bit l.initial.bits v || ltb v l.w)
