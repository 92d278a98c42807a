-- The start of the gates' rotation (01, key; `gen_testvec` of src/key.rs).
use Rattle.std.specs.Prelude.{List, [], ◌∷◌, ℕ}
use Rattle.ring.specs.Word.{eighth}
use Rattle.ring.specs.Sums.{tab}
use Rattle.ring.specs.Pair.{Pair}
use Rattle.params.specs.declared.Params.{Params}
use Rattle.params.specs.Sizes.{size}
use Rattle.refusals.specs.Table.{Check, is, refusal_by}

-- With a of so many words and b of so many.
abbrev pub test_checks : Params → ℕ → ℕ → List Check
test_checks p a b =
    is a (size p) 2
    ∷ is b (size p) 2
    ∷ []

-- Its refusal: 1, 2 or 0.
unfoldable pub test_number : Params → ℕ → ℕ → ℕ
test_number p a b = refusal_by p (test_checks p a b)

-- What the gates rotate: a zero, b an eighth of a turn in every word. A gate works it out and is never lent it.
abbrev pub test_pair : Params → Pair
test_pair p = record { a = tab (size p) (λ i. 0); b = tab (size p) (λ i. eighth) }
