-- The refusals of a column of gates (02, 2026-01): 1, 2 for each slice, then 9 for a kind that is not 3 to 12.
use Rattle.std.specs.Prelude.{List, [], ◌∷◌, ℕ, ◌+◌, ◌*◌}
use Rattle.params.specs.declared.Params.{Params}
use Rattle.params.specs.Sizes.{switching_words, bootstrapping_words}
use Rattle.refusals.specs.Table.{Check, is, at_most, refusal_by}

-- The pairs' lp words, two ciphertexts a pair, the switching key's lk and the bootstrapping key's ls, the lo words of the results, and the kind. These are whole
-- numbers: a count whose words pass what a usize holds is the length of no slice, so it gets 2.
abbrev pub column_checks : Params → ℕ → ℕ → ℕ → ℕ → ℕ → ℕ → List Check
column_checks p kind count lp lk ls lo =
    is lp (count * (2 * (p.n + 1))) 2
    ∷ is lk (switching_words p) 2
    ∷ is ls (bootstrapping_words p) 2
    ∷ is lo (count * (p.n + 1)) 2
    ∷ at_most 3 kind 9
    ∷ at_most kind 12 9
    ∷ []

-- Its number; the place is 0 (02: '9, place 0, for another kind').
unfoldable pub column_number : Params → ℕ → ℕ → ℕ → ℕ → ℕ → ℕ → ℕ
column_number p kind count lp lk ls lo = refusal_by p (column_checks p kind count lp lk ls lo)
