-- What the program writes for an input (02, request 2026-02).
use Rattle.std.specs.Prelude.{List, [], ℕ}
use Rattle.params.specs.Refusal.{if_done}
use Rattle.circuit.specs.Form.{answer_of}
use Rattle.report.specs.Text.{refused_text}
use Rattle.bristol_export.specs.Text.{exported}

-- To standard output: the text of a circuit, nothing where the bytes are refused.
unfoldable pub text_of : List ℕ → List ℕ
text_of bs = if_done (answer_of bs).number (exported bs) []

-- To standard error: the line of a refusal, nothing where there is none.
unfoldable pub line_of : List ℕ → List ℕ
line_of bs = if_done (answer_of bs).number [] (refused_text (answer_of bs))
