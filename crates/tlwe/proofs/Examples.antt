-- What `phase_of` hands back, the phase and each refusal, computed over the definitions: a change of definition and code together would show here.
-- Assumes nothing.
use mathlib.Core.Path.{◌≡◌, refl}
use mathlib.Core.List.{List, [], ◌∷◌}
use Prim.Native.Nat.{ℕ}
use Rattle.std.specs.Prelude.{Result, Ok, Err}
use Rattle.ring.specs.Word.{Q, neg}
use Rattle.ring.specs.Sums.{sum_to}
use Rattle.ring.specs.Phase.{inner, phase_of}
use Rattle.params.specs.Refusal.{answer, given}
use Rattle.params.specs.Ranges.{params_number}
use Rattle.params.specs.Published.{numbers}
use Rattle.params.specs.declared.refusal.Refusal.{Refusal}
use Rattle.params.specs.declared.refusal.Refusal.TheVariants.{Parameters, Length, KeyWord}
use Rattle.tlwe.specs.declared.Level.TheVariants.{Zero}
use Rattle.tlwe.specs.Key.{binary, keyed_number, phase_value}
use lib.ListN.{length}

-- the phase at level 0 of the ciphertext 5, 7, b under a key of two words
abbrev seen : ℕ → List ℕ → List ℕ → Result ℕ Refusal
seen n c key = let p = numbers n 1 6 3 1 1 in given (answer (keyed_number p Zero (length c) key)) (phase_value p Zero c key)

-- b less the first mask; then refusals 4, 2 for the key and for the ciphertext, and 1
pub phases : (seen 2 (5 ∷ 7 ∷ 100 ∷ []) (1 ∷ 0 ∷ []) ≡ Ok 95)
    × (seen 2 (5 ∷ 7 ∷ 3 ∷ []) (1 ∷ 0 ∷ []) ≡ Ok 0xFFFFFFFE)
    × (seen 2 (5 ∷ 7 ∷ 100 ∷ []) (1 ∷ 2 ∷ []) ≡ Err KeyWord)
    × (seen 2 (5 ∷ 7 ∷ 100 ∷ []) (1 ∷ []) ≡ Err Length)
    × (seen 2 (5 ∷ 7 ∷ []) (1 ∷ 0 ∷ []) ≡ Err Length)
    × (seen 0 (5 ∷ 7 ∷ 100 ∷ []) (1 ∷ 0 ∷ []) ≡ Err Parameters)
unfolding Q neg sum_to inner phase_of params_number binary keyed_number
phases = (refl, refl, refl, refl, refl, refl)
