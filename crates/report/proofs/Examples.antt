-- What `describe` answers and leaves for bytes that are no circuit, in a slice that is too short, just long enough and longer, and a refusal's line: computed over the definitions.
-- Assumes nothing.
use mathlib.Core.Path.{◌≡◌, refl}
use mathlib.Core.List.{List, [], ◌∷◌, ◌++◌}
use Prim.Native.Nat.{ℕ}
use Rattle.ring.specs.Sums.{tab}
use Rattle.std.specs.Prelude.{Ok, Err}
use Rattle.params.specs.declared.refusal.Refusal.TheVariants.{Length}
use Rattle.circuit.specs.Form.{answer_of, head_fields}
use Rattle.report.specs.Decimal.{decimal_to, decimal}
use Rattle.report.specs.Text.{named, refused_text, refused_line, text_of, describe_number, describe_out, describe_answer}

-- `refused 8 at 0` and the line's end: the text of no bytes at all
abbrev text : List ℕ
text = 114 ∷ 101 ∷ 102 ∷ 117 ∷ 115 ∷ 101 ∷ 100 ∷ 32 ∷ 56 ∷ 32 ∷ 97 ∷ 116 ∷ 32 ∷ 48 ∷ 10 ∷ []

-- a lent slice of n bytes, each 7
abbrev sevens : ℕ → List ℕ
sevens n = tab n (λ i. 7)

-- what is told: the length, or refusal 2; what is left: the text and the bytes behind it, or the slice as it was
pub told : (describe_answer [] 15 ≡ Ok 15) × (describe_answer [] 17 ≡ Ok 15) × (describe_answer [] 14 ≡ Err Length)
unfolding tab answer_of head_fields decimal_to decimal named refused_text text_of describe_number
told = (refl, refl, refl)

pub left : (describe_out [] (sevens 15) ≡ text) × (describe_out [] (sevens 17) ≡ text ++ sevens 2) × (describe_out [] (sevens 14) ≡ sevens 14)
unfolding tab answer_of head_fields decimal_to decimal named refused_text text_of describe_number describe_out
left = (refl, refl, refl)

-- `refused 11 at 17`
pub line : refused_line 11 17 ≡ 114 ∷ 101 ∷ 102 ∷ 117 ∷ 115 ∷ 101 ∷ 100 ∷ 32 ∷ 49 ∷ 49 ∷ 32 ∷ 97 ∷ 116 ∷ 32 ∷ 49 ∷ 55 ∷ 10 ∷ []
unfolding decimal_to decimal named refused_text
line = refl
