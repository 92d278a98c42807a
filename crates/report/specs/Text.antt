-- What the program prints of a circuit's bytes (01, 'Circuits'), in ASCII.
use Rattle.std.specs.Prelude.{Result, List, [], ◌∷◌, ◌++◌, ℕ, zero, suc, ◌/◌, ◌%◌, ◌^◌, leb, length, drop, cond}
use Rattle.ring.specs.Word.{at}
use Rattle.ring.specs.Sums.{tab}
use Rattle.params.specs.Refusal.{Answer}
use Rattle.params.specs.declared.refusal.Refusal.{Refusal}
use Rattle.params.specs.Refusal.{check, answer, if_done, given}
use Rattle.circuit.specs.Form.{version, inputs, gates, outputs, answer_of}
use Rattle.circuit.specs.Plain.{output_bits, work_of}
use Rattle.report.specs.Decimal.{decimal}
use Rattle.ring.specs.Bit.{truth}

-- ---- words and bits

-- `EGL `
abbrev pub egl_word : List ℕ
egl_word = 69 ∷ 71 ∷ 76 ∷ 32 ∷ []

-- ` inputs `
abbrev pub inputs_word : List ℕ
inputs_word = 32 ∷ 105 ∷ 110 ∷ 112 ∷ 117 ∷ 116 ∷ 115 ∷ 32 ∷ []

-- ` gates `
abbrev pub gates_word : List ℕ
gates_word = 32 ∷ 103 ∷ 97 ∷ 116 ∷ 101 ∷ 115 ∷ 32 ∷ []

-- ` outputs `
abbrev pub outputs_word : List ℕ
outputs_word = 32 ∷ 111 ∷ 117 ∷ 116 ∷ 112 ∷ 117 ∷ 116 ∷ 115 ∷ 32 ∷ []

-- ` work `
abbrev pub work_word : List ℕ
work_word = 32 ∷ 119 ∷ 111 ∷ 114 ∷ 107 ∷ 32 ∷ []

-- `refused `
abbrev pub refused_word : List ℕ
refused_word = 114 ∷ 101 ∷ 102 ∷ 117 ∷ 115 ∷ 101 ∷ 100 ∷ 32 ∷ []

-- ` at `
abbrev pub at_word : List ℕ
at_word = 32 ∷ 97 ∷ 116 ∷ 32 ∷ []

-- A word and the number that it names.
unfoldable pub named : List ℕ → ℕ → List ℕ
named word n = word ++ decimal n

-- A bit's character: `1` for true, `0` for false.
abbrev pub bit_char : ℕ → ℕ
bit_char n = cond (truth n) 49 48

-- The characters of a row of bits.
abbrev pub bits_text : List ℕ → List ℕ
bits_text l = tab (length l) (λ i. bit_char (at l i))

-- ---- lines

-- Version, inputs and gates.
unfoldable pub counts_text : List ℕ → List ℕ
counts_text bs = named egl_word (version bs) ++ named inputs_word (inputs bs) ++ named gates_word (gates bs)

-- Line 1: version, counts, work.
unfoldable pub head_text : List ℕ → List ℕ
head_text bs = counts_text bs ++ named outputs_word (outputs bs) ++ named work_word (work_of bs) ++ (10 ∷ [])

-- The input bits of row r of the table: wire 0 changes fastest.
abbrev pub row_inputs : List ℕ → ℕ → List ℕ
row_inputs bs r = tab (inputs bs) (λ i. r / 2 ^ i % 2)

-- A line of the table: input bits with wire 0 leftmost, a space, the outputs.
unfoldable pub line_text : List ℕ → List ℕ → List ℕ
line_text ins outs = bits_text ins ++ (32 ∷ []) ++ bits_text outs ++ (10 ∷ [])

-- Row r of the table.
unfoldable pub row_text : List ℕ → ℕ → List ℕ
row_text bs r = line_text (row_inputs bs r) (output_bits bs (row_inputs bs r))

-- The first rows of the table.
unfoldable pub rows_to : List ℕ → ℕ → List ℕ
rows_to bs zero = []
rows_to bs (suc r) = rows_to bs r ++ row_text bs r

-- The table, left out above 4 inputs.
abbrev pub table_text : List ℕ → List ℕ
table_text bs = cond (leb (inputs bs) 4) (rows_to bs (2 ^ inputs bs)) []

-- A refusal's line.
unfoldable pub refused_text : Answer → List ℕ
refused_text a = named refused_word a.number ++ named at_word a.place ++ (10 ∷ [])

-- The same of a number and a place by themselves.
abbrev pub refused_line : ℕ → ℕ → List ℕ
refused_line number place = refused_text (record { number = number; place = place })

-- How much room is kept for such a line: `refused_line_fits` of proofs/Pieces.antt shows that none is longer.
abbrev pub refused_room : ℕ
refused_room = 64

-- The whole text.
unfoldable pub text_of : List ℕ → List ℕ
text_of bs = if_done (answer_of bs).number (head_text bs ++ table_text bs) (refused_text (answer_of bs))

-- How much room is kept for a text: `text_fits` of proofs/Lengths.antt shows that none is longer.
abbrev pub room : ℕ
room = 1280

-- ---- the routine

-- 2 where the lent slice is shorter than the text.
unfoldable pub describe_number : List ℕ → ℕ → ℕ
describe_number bs most = check (leb (length (text_of bs)) most) 2 0

-- The text in front, and what was there behind it; all as it was where refused.
unfoldable pub describe_out : List ℕ → List ℕ → List ℕ
describe_out bs out = if_done (describe_number bs (length out)) (text_of bs ++ drop (length (text_of bs)) out) out

-- The answer and the text's length.
abbrev pub describe_answer : List ℕ → ℕ → Result ℕ Refusal
describe_answer bs most = given (answer (describe_number bs most)) (length (text_of bs))
