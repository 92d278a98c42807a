use mathlib.Core.Path.{◌≡◌}
use Prim.Native.Nat.{ℕ, ◌-◌, ◌≤◌}
use Rattle.circuit.specs.Form.{first}
use Rattle.tokens.specs.Tokens.{past}
use Rattle.bristol_form.specs.Says.{sizes_to}
use Rattle.bristol_form.specs.Form.{size_answer}
use Rattle.bristol_form.proofs.head.sizes.Given as goal

abbrev pub invariant-loop : goal.invariant-loop
invariant-loop l =
    (l.p ≡ past l.text l.at l.counter) × (l.sum ≡ sizes_to l.text l.at l.counter) × (l.sum ≤ l.bound)
    × ((number : ℕ) → first (size_answer l.text l.at number l.bound) 0 l.count ≡ first (size_answer l.text l.at number l.bound) l.counter (l.count - l.counter))
