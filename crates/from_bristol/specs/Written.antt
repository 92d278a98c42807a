-- What the program writes for a text (02, request 2026-02).
use Rattle.std.specs.Prelude.{List, [], ℕ, codes}
use Rattle.params.specs.Refusal.{if_done}
use Rattle.report.specs.Text.{refused_text}
use Rattle.bristol_form.specs.Form.{text_answer}
use Rattle.bristol.specs.Import.{imported}

-- To standard output: the circuit, nothing where the text is refused.
unfoldable pub circuit_of : List ℕ → List ℕ
circuit_of text = if_done (text_answer text).number (imported text) []

-- To standard error: the line of a refusal, nothing where there is none.
unfoldable pub line_of : List ℕ → List ℕ
line_of text = if_done (text_answer text).number [] (refused_text (text_answer text))

-- The longest text that is read whole.
abbrev pub longest_read : ℕ
longest_read = 1048576

-- To standard error, of a longer one.
abbrev pub too_long : List ℕ
too_long = codes "refused: more than 1048576 bytes\n"
