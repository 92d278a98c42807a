-- The refusals of a way's run, 1 and 2: those of the gate that it runs.
use Rattle.std.specs.Prelude.{ℕ}
use Rattle.params.specs.declared.Params.{Params}
use Rattle.tlwe.specs.declared.Level.TheVariants.{Zero}
use Rattle.tlwe.specs.Linear.{linear_number}
use Rattle.gates.specs.Refusals.{gate_number, mux_number}
use Rattle.gate_sums.specs.Sum.{constant_number}
use Rattle.ways.specs.declared.Way.{Way}
use Rattle.ways.specs.declared.Way.TheVariants.{Known, Negated, Gate, NegatedGate, Choice}

-- On ciphertexts of la, lb and lc words, of which a way looks at those that it needs.
unfoldable pub way_number : Params → Way → ℕ → ℕ → ℕ → ℕ → ℕ → ℕ → ℕ
way_number p (Known bit) la lb lc lk ls lo = constant_number p lo
way_number p Negated la lb lc lk ls lo = linear_number p Zero la la lo
way_number p (Gate kind) la lb lc lk ls lo = gate_number p la lb lk ls lo
way_number p (NegatedGate kind) la lb lc lk ls lo = gate_number p la lb lk ls lo
way_number p Choice la lb lc lk ls lo = mux_number p la lb lc lk ls lo
