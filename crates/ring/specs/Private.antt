-- What only the contracts of private loops and proofs need: where a loop stands that adds to every word of a slice.
use Rattle.std.specs.Prelude.{ℕ, ◌+◌, ◌%◌, List, length}
use Rattle.ring.specs.Word.{Q, at}
use Rattle.ring.specs.Sums.{sum_to, tab}

-- f x added to each word x of the list, modulo 2^32: what one call does.
unfoldable pub add_by : List ℕ → (ℕ → ℕ) → List ℕ
add_by o f = tab (length o) (λ x. (at o x + f x) % Q)

-- m words, b x at first, after the additions of g x 0 .. g x (j - 1): where a loop of such calls stands.
unfoldable pub acc_to : ℕ → (ℕ → ℕ) → (ℕ → ℕ → ℕ) → ℕ → List ℕ
acc_to m b g j = tab m (λ x. (b x + sum_to j (g x)) % Q)
