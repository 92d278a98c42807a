-- The texts of two small circuits, and what `export` answers and leaves for one of them in a slice that is too short, just long enough and longer: computed over the definitions.
-- Assumes nothing.
use mathlib.Core.Path.{◌≡◌, refl}
use mathlib.Core.List.{List, [], ◌∷◌, ◌++◌}
use Prim.Native.Nat.{ℕ}
use Rattle.ring.specs.Sums.{sum_to, tab}
use Rattle.ring.specs.Lists.{joined}
use Rattle.kinds.specs.Kinds.{kinds, kind_of}
use Rattle.circuit.specs.Form.{field_at, answer_of, head_fields, gate_fields, operand_good, output_answer, first}
use Rattle.report.specs.Decimal.{decimal_to, decimal}
use Rattle.bristol_export.specs.Steps.{source_of, steps, steps_of, count, step_at}
use Rattle.bristol_export.specs.Text.{ended, name_end, two_text, one_text, line_text, lines_to, last_wire, text_wire, step_text, steps_text, gate_text, output_text, lines, head_text, exported}
use Rattle.bristol_export.specs.Export.{export_answer, export_said, export_out}
use Rattle.std.specs.Prelude.{Ok, Err}
use Rattle.params.specs.declared.refusal.Refusal.TheVariants.{Length, Count}

-- three inputs, a mux of them, and the mux as the only output
abbrev mux : List ℕ
mux = 69 ∷ 71 ∷ 76 ∷ 1 ∷ 0 ∷ 3 ∷ 0 ∷ 1 ∷ 0 ∷ 1 ∷ 0 ∷ 13 ∷ 0 ∷ 0 ∷ 0 ∷ 1 ∷ 0 ∷ 2 ∷ 0 ∷ 3 ∷ 0 ∷ []

-- `4 7`, `1 3`, `1 1`, an empty line, `2 1 1 2 3 XOR`, `2 1 0 3 4 AND`, `2 1 4 2 5 XOR`, `1 1 5 6 EQW`
pub mux_text :
    exported mux ≡
    52 ∷ 32 ∷ 55 ∷ 10 ∷ 49 ∷ 32 ∷ 51 ∷ 10 ∷ 49 ∷ 32 ∷ 49 ∷ 10 ∷ 10
    ∷ 50 ∷ 32 ∷ 49 ∷ 32 ∷ 49 ∷ 32 ∷ 50 ∷ 32 ∷ 51 ∷ 32 ∷ 88 ∷ 79 ∷ 82 ∷ 10
    ∷ 50 ∷ 32 ∷ 49 ∷ 32 ∷ 48 ∷ 32 ∷ 51 ∷ 32 ∷ 52 ∷ 32 ∷ 65 ∷ 78 ∷ 68 ∷ 10
    ∷ 50 ∷ 32 ∷ 49 ∷ 32 ∷ 52 ∷ 32 ∷ 50 ∷ 32 ∷ 53 ∷ 32 ∷ 88 ∷ 79 ∷ 82 ∷ 10
    ∷ 49 ∷ 32 ∷ 49 ∷ 32 ∷ 53 ∷ 32 ∷ 54 ∷ 32 ∷ 69 ∷ 81 ∷ 87 ∷ 10 ∷ []
unfolding sum_to joined field_at decimal_to decimal source_of steps steps_of count step_at ended name_end two_text one_text line_text lines_to last_wire text_wire step_text steps_text gate_text output_text lines head_text exported
mux_text = refl

-- no input, the constant 1, and it as the only output
abbrev constant : List ℕ
constant = 69 ∷ 71 ∷ 76 ∷ 1 ∷ 0 ∷ 0 ∷ 0 ∷ 1 ∷ 0 ∷ 1 ∷ 0 ∷ 1 ∷ 0 ∷ 0 ∷ 0 ∷ 0 ∷ 0 ∷ 0 ∷ 0 ∷ 0 ∷ 0 ∷ []

-- `2 2`, `1 0`, `1 1`, an empty line, `1 1 1 0 EQ`, `1 1 0 1 EQW`
abbrev text : List ℕ
text =
    50 ∷ 32 ∷ 50 ∷ 10 ∷ 49 ∷ 32 ∷ 48 ∷ 10 ∷ 49 ∷ 32 ∷ 49 ∷ 10 ∷ 10
    ∷ 49 ∷ 32 ∷ 49 ∷ 32 ∷ 49 ∷ 32 ∷ 48 ∷ 32 ∷ 69 ∷ 81 ∷ 10
    ∷ 49 ∷ 32 ∷ 49 ∷ 32 ∷ 48 ∷ 32 ∷ 49 ∷ 32 ∷ 69 ∷ 81 ∷ 87 ∷ 10 ∷ []

-- a lent slice of n bytes, each 7
abbrev sevens : ℕ → List ℕ
sevens n = tab n (λ i. 7)

-- what is handed back: the length, or refusal 2; bytes that are no circuit keep their own refusal, however short the slice
pub told : (export_said constant 36 ≡ Ok 36) × (export_said constant 38 ≡ Ok 36) × (export_said constant 35 ≡ Err Length) × (export_said [] 0 ≡ Err (Count 0))
unfolding tab sum_to joined field_at answer_of head_fields gate_fields operand_good output_answer first kinds kind_of decimal_to decimal source_of steps steps_of count step_at ended name_end two_text one_text line_text lines_to last_wire text_wire step_text steps_text gate_text output_text lines head_text exported export_answer export_said
told = (refl, refl, refl, refl)

-- what is left: the text and the bytes behind it, or the slice as it was
pub left : (export_out constant (sevens 36) ≡ text) × (export_out constant (sevens 38) ≡ text ++ sevens 2) × (export_out constant (sevens 35) ≡ sevens 35)
unfolding tab sum_to joined field_at answer_of head_fields gate_fields operand_good output_answer first kinds kind_of decimal_to decimal source_of steps steps_of count step_at ended name_end two_text one_text line_text lines_to last_wire text_wire step_text steps_text gate_text output_text lines head_text exported export_answer export_out
left = (refl, refl, refl)
