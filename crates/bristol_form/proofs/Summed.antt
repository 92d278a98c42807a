-- The sizes of values in a row: their sum, one by one, and the refusal of the one that passes the bound.
-- Assumes nothing.
use mathlib.Core.Path.{◌≡◌, refl, ap, ◌∙◌}
use mathlib.Core.List.{List}
use Prim.Native.Nat.{ℕ, suc, ◌+◌, ◌-◌, ◌≤◌, ◌<◌}
use native.Mathlib.Numerals.{add-one}
use native.Mathlib.Omega.{arith}
use borrow.Author.Tests.{le-leb, lt-leb}
use Rattle.ring.specs.Sums.{sum_to}
use Rattle.params.specs.Refusal.{Answer}
use Rattle.params.specs.Refusal.{answer}
use Rattle.circuit.specs.Form.{first}
use Rattle.circuit.proofs.Steps.{first_stop, first_step}
use Rattle.tokens.specs.Tokens.{number_at, place_at}
use Rattle.bristol_form.specs.Says.{sizes_to}
use Rattle.bristol_form.specs.Form.{size_answer}

pub sizes_none : (text : List ℕ) (at : ℕ) → 0 ≡ sizes_to text at 0
unfolding sizes_to sum_to
sizes_none text at = refl

sizes_next : (text : List ℕ) (at i : ℕ) → sizes_to text at (suc i) ≡ sizes_to text at i + number_at text at i
unfolding sizes_to sum_to
sizes_next text at i = refl

module _ (text : List ℕ) (at number bound i : ℕ) where
  over : bound < sizes_to text at (suc i) → size_answer text at number bound i ≡ record { number = number; place = place_at text at i }
  unfolding size_answer
  over h = rw (lt-leb (sizes_to text at (suc i)) bound h)

  under : sizes_to text at (suc i) ≤ bound → size_answer text at number bound i ≡ answer 0
  unfolding size_answer
  under h = rw (le-leb (sizes_to text at (suc i)) bound h)

-- a loop over the sizes: i of them have the sum s, the next is t, all before are not refused
module _ (text : List ℕ) (at number bound count i s t : ℕ) (summed : s ≡ sizes_to text at i) (read : t ≡ number_at text at i) (before : i < count) where
  pub sizes_sum : s + t ≡ sizes_to text at (i + 1)
  sizes_sum = rw add-one (let e = sizes_next text at i in omega arith)

  pub sizes_stop : 0 < number → bound < s + t → first (size_answer text at number bound) i (count - i) ≡ record { number = number; place = place_at text at i }
  sizes_stop n h =
      let e = over text at number bound i (let w = sizes_next text at i in omega arith) in
      let z : (size_answer text at number bound i).number ≡ number = ap (λ (a : Answer). a.number) e in
      first_stop (size_answer text at number bound) i count before (λ y. let q : ⊥ = omega arith in q) ∙ e

  pub sizes_step : s + t ≤ bound → first (size_answer text at number bound) i (count - i) ≡ first (size_answer text at number bound) (i + 1) (count - (i + 1))
  sizes_step h =
      first_step (size_answer text at number bound) i count before (ap (λ (a : Answer). a.number) (under text at number bound i (let w = sizes_next text at i in omega arith)))

-- the same sizes' answer, told by other variables
pub sizes_as : (text : List ℕ) (number : ℕ) {at at' bound bound' count count' : ℕ} {a : Answer} → at ≡ at' → bound ≡ bound' → count ≡ count'
    → first (size_answer text at number bound) 0 count ≡ a → first (size_answer text at' number bound') 0 count' ≡ a
sizes_as text number a b c t = cc

-- the same sum, told by other variables
pub sum_as : (text : List ℕ) {at at' i i' r : ℕ} → at ≡ at' → i ≡ i' → r ≡ sizes_to text at i → r ≡ sizes_to text at' i'
sum_as text a b e = cc
