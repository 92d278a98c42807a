-- The refusals of the gates: 1 and 2 (01, 'Refusal numbers').
use Rattle.std.specs.Prelude.{List, [], ◌∷◌, ℕ, ◌+◌}
use Rattle.params.specs.declared.Params.{Params}
use Rattle.params.specs.Sizes.{switching_words, bootstrapping_words}
use Rattle.refusals.specs.Table.{Check, is, refusal_by}

-- A two-input gate: both ciphertexts, the switching key of lk and the bootstrapping key of ls words, the result.
abbrev pub gate_checks : Params → ℕ → ℕ → ℕ → ℕ → ℕ → List Check
gate_checks p la lb lk ls lo =
    is la (p.n + 1) 2
    ∷ is lb (p.n + 1) 2
    ∷ is lk (switching_words p) 2
    ∷ is ls (bootstrapping_words p) 2
    ∷ is lo (p.n + 1) 2
    ∷ []

-- Its number.
unfoldable pub gate_number : Params → ℕ → ℕ → ℕ → ℕ → ℕ → ℕ
gate_number p la lb lk ls lo = refusal_by p (gate_checks p la lb lk ls lo)

-- `mux`: the same with three ciphertexts.
unfoldable pub mux_number : Params → ℕ → ℕ → ℕ → ℕ → ℕ → ℕ → ℕ
mux_number p la lb lc lk ls lo = refusal_by p (is la (p.n + 1) 2 ∷ gate_checks p lb lc lk ls lo)
