-- What a circuit says of itself, as words: for a caller who sizes slices by it (01, 'Circuits').
use Rattle.std.specs.Prelude.{List, [], ◌∷◌, ℕ, eqb, length}
use Rattle.params.specs.Refusal.{Answer}
use Rattle.params.specs.Refusal.{if_done, check, answer}
use Rattle.circuit.specs.Form.{version, inputs, gates, outputs, answer_of, or_else}
use Rattle.circuit.specs.Plain.{work_of}

-- The numbers of the program's line 1, in its order: version, inputs, gates, outputs, work.
unfoldable pub told_words : List ℕ → List ℕ
told_words bs = version bs ∷ inputs bs ∷ gates bs ∷ outputs bs ∷ work_of bs ∷ []

-- The answer: the circuit's, and then 2 where the slice has not five words.
unfoldable pub told_answer : List ℕ → ℕ → Answer
told_answer bs words = or_else (answer_of bs) (answer (check (eqb words 5) 2 0))

-- What the slice holds afterwards.
unfoldable pub told_out : List ℕ → List ℕ → List ℕ
told_out bs out = if_done (told_answer bs (length out)).number (told_words bs) out
