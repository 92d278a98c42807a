-- What `export` answers and leaves (02, request 2026-02).
use Rattle.std.specs.Prelude.{Result, List, ◌++◌, ℕ, leb, length, drop}
use Rattle.params.specs.Refusal.{Answer}
use Rattle.params.specs.Refusal.{check, answer, if_done, given}
use Rattle.params.specs.declared.refusal.Refusal.{Refusal}
use Rattle.circuit.specs.Form.{answer_of, or_else}
use Rattle.bristol_export.specs.Text.{exported}

-- The circuit's answer, and then 2 where the lent slice is shorter than the text.
unfoldable pub export_answer : List ℕ → ℕ → Answer
export_answer bs room = or_else (answer_of bs) (answer (check (leb (length (exported bs)) room) 2 0))

-- What a call hands back: the text's length, or the refusal.
unfoldable pub export_said : List ℕ → ℕ → Result ℕ Refusal
export_said bs room = given (export_answer bs room) (length (exported bs))

-- The text in front, and what was there behind it; all as it was where refused.
unfoldable pub export_out : List ℕ → List ℕ → List ℕ
export_out bs out = if_done (export_answer bs (length out)).number (exported bs ++ drop (length (exported bs)) out) out
