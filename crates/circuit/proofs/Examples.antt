-- 01's circuit, one nand of two inputs, worked out: its answer, its work, its table; and each kind of refusal with its place.
-- Assumes nothing.
use mathlib.Core.Path.{◌≡◌, refl}
use mathlib.Core.List.{List, [], ◌∷◌}
use Prim.Native.Nat.{ℕ}
use Rattle.ring.specs.Sums.{sum_to, tab}
use Rattle.params.specs.Refusal.{answer}
use Rattle.kinds.specs.Kinds.{kinds, kind_of, bit_meaning}
use Rattle.circuit.specs.Form.{field_at, first, operand_good, output_answer, answer_of, gate_fields, head_fields}
use Rattle.circuit.specs.Private.{refusal}
use Rattle.circuit.specs.Plain.{wires_to, output_bits, work_of}

-- 01's bytes, with some of them to be chosen: the last byte of the mark, the version, the inputs, the outputs, the gate's kind, its zero byte,
-- its operands, the output's wire
circuit : ℕ → ℕ → ℕ → ℕ → ℕ → ℕ → ℕ → ℕ → ℕ → ℕ → List ℕ
circuit m v i o k z a b c w = 69 ∷ 71 ∷ m ∷ v ∷ 0 ∷ i ∷ 0 ∷ 1 ∷ 0 ∷ o ∷ 0 ∷ k ∷ z ∷ a ∷ 0 ∷ b ∷ 0 ∷ c ∷ 0 ∷ w ∷ 0 ∷ []

accepted : answer_of (circuit 76 1 2 1 5 0 0 1 0 2) ≡ answer 0
unfolding circuit answer_of head_fields field_at first gate_fields operand_good kind_of kinds output_answer
accepted = refl

work_one : work_of (circuit 76 1 2 1 5 0 0 1 0 2) ≡ 1
unfolding circuit work_of field_at sum_to kind_of kinds
work_one = refl

table : (output_bits (circuit 76 1 2 1 5 0 0 1 0 2) (0 ∷ 0 ∷ []) ≡ 1 ∷ []) × (output_bits (circuit 76 1 2 1 5 0 0 1 0 2) (1 ∷ 0 ∷ []) ≡ 1 ∷ []) × (output_bits (circuit 76 1 2 1 5 0 0 1 0 2) (0 ∷ 9 ∷ []) ≡ 1 ∷ []) × (output_bits (circuit 76 1 2 1 5 0 0 1 0 2) (7 ∷ 1 ∷ []) ≡ 0 ∷ [])
unfolding circuit field_at tab wires_to bit_meaning kind_of kinds
table = (refl, refl, refl, refl)

short : answer_of [] ≡ refusal 8 0
unfolding answer_of head_fields
short = refl

mark : answer_of (circuit 77 1 2 1 5 0 0 1 0 2) ≡ refusal 6 0
unfolding circuit answer_of head_fields
mark = refl

version : answer_of (circuit 76 2 2 1 5 0 0 1 0 2) ≡ refusal 7 3
unfolding circuit answer_of head_fields field_at
version = refl

no_output : answer_of (circuit 76 1 2 0 5 0 0 1 0 2) ≡ refusal 8 9
unfolding circuit answer_of head_fields field_at
no_output = refl

too_short : answer_of (circuit 76 1 2 2 5 0 0 1 0 2) ≡ refusal 8 11
unfolding circuit answer_of head_fields field_at
too_short = refl

no_kind : answer_of (circuit 76 1 2 1 14 0 0 1 0 2) ≡ refusal 9 11
unfolding circuit answer_of head_fields field_at first gate_fields
no_kind = refl

not_zero : answer_of (circuit 76 1 2 1 5 1 0 1 0 2) ≡ refusal 9 12
unfolding circuit answer_of head_fields field_at first gate_fields
not_zero = refl

own_wire : answer_of (circuit 76 1 2 1 5 0 2 1 0 2) ≡ refusal 9 13
unfolding circuit answer_of head_fields field_at first gate_fields operand_good kind_of kinds
own_wire = refl

third : answer_of (circuit 76 1 2 1 5 0 0 1 1 2) ≡ refusal 9 17
unfolding circuit answer_of head_fields field_at first gate_fields operand_good kind_of kinds
third = refl

no_wire : answer_of (circuit 76 1 2 1 5 0 0 1 0 3) ≡ refusal 10 19
unfolding circuit answer_of head_fields field_at first gate_fields operand_good kind_of kinds output_answer
no_wire = refl
