-- The text, piece by piece: where it stands after each piece, and how long the pieces can be.
-- Assumes nothing.
use mathlib.Core.Path.{◌≡◌, refl, ap}
use mathlib.Core.List.{List, [], ◌∷◌, ◌++◌}
use Prim.Native.Nat.{ℕ, zero, suc, ◌+◌, ◌*◌, ◌^◌, ◌≤◌, ◌<◌}
use native.Mathlib.Numerals.{add-one}
use native.Mathlib.Omega.{arith}
use lib.Dec.{lit≤}
use lib.ListN.{length, length-append}
use lib.Pow.{pow_mono}
use Rattle.ring.specs.Word.{at}
use Rattle.ring.proofs.Tab.{length-tab}
use Rattle.circuit.specs.declared.Shape.{Shape}
use Rattle.circuit.specs.Form.{version, inputs, gates, outputs, counts_of}
use Rattle.circuit.specs.Valid.{Head, Valid}
use Rattle.circuit.specs.Plain.{output_bits, work_of}
use Rattle.circuit.proofs.Laws.{work_to}
use Rattle.report.specs.Decimal.{decimal}
use Rattle.report.specs.Private.{splice}
use Rattle.report.specs.Text.{egl_word, inputs_word, gates_word, refused_word, at_word, named, refused_text, refused_line, refused_room, bit_char, bits_text, counts_text, line_text, row_inputs, row_text, rows_to}
use Rattle.report.proofs.Digits.{length_ten, length_twenty}
use Rattle.report.proofs.Spliced.{splice_none, splice_next}

-- the text p stands in o from place i on, and the next place is j
pub record Written (o : List ℕ) (i : ℕ) (p out : List ℕ) (j : ℕ) : Type 0 where
  pub text : out ≡ splice o i p
  pub place : j ≡ i + length p

pub written_next : (o : List ℕ) (i : ℕ) (p q : List ℕ) {out out' : List ℕ} {j r : ℕ} → Written o i p out j → j ≤ length o → r ≡ j + length q → out' ≡ splice out j q → Written o i (p ++ q) out' r
written_next o i p q w h e d =
    let l = length-append p q in
    let z = w.place in
    record { text = splice_next o i p q (omega arith) w.text w.place d; place = omega arith }

-- ---- lengths

pub length-named : (word : List ℕ) (n : ℕ) → n < 10000000000 → length (named word n) ≤ length word + 10
unfolding named
length-named word n h = let e = length-append word (decimal n) in let l = length_ten n h in omega arith

pub length-named_count : (word : List ℕ) (n : ℕ) → n < 18446744073709551616 → length (named word n) ≤ length word + 20
unfolding named
length-named_count word n h = let e = length-append word (decimal n) in let l = length_twenty n h in omega arith

-- a refusal's line, its place being any count
pub refused_line_fits : (number place : ℕ) → number < 10000000000 → place < 18446744073709551616 → length (refused_line number place) ≤ refused_room
unfolding refused_text
refused_line_fits number place h k =
    let n = length-named refused_word number h in
    let p = length-named_count at_word place k in
    let e = length-append (named refused_word number) (named at_word place) in
    let f = length-append (named refused_word number ++ named at_word place) (10 ∷ []) in
    omega arith

pub length_line : (ins outs : List ℕ) → length (line_text ins outs) ≡ length ins + length outs + 2
unfolding line_text
length_line ins outs =
    let a = length-tab (length ins) (λ i. bit_char (at ins i)) in
    let b = length-tab (length outs) (λ i. bit_char (at outs i)) in
    let e = length-append (bits_text ins) (32 ∷ []) in
    let f = length-append (bits_text ins ++ (32 ∷ [])) (bits_text outs) in
    let g = length-append (bits_text ins ++ (32 ∷ []) ++ bits_text outs) (10 ∷ []) in
    omega arith

-- a row has its inputs, its outputs, a space and a line end
pub length_row : (bs : List ℕ) (r : ℕ) → length (row_text bs r) ≡ inputs bs + outputs bs + 2
unfolding row_text
length_row bs r =
    let e = length_line (row_inputs bs r) (output_bits bs (row_inputs bs r)) in
    let a : length (row_inputs bs r) ≡ inputs bs = length-tab (inputs bs) _ in
    let b : length (output_bits bs (row_inputs bs r)) ≡ outputs bs = length-tab (outputs bs) _ in
    omega arith

pub rows_more : (bs : List ℕ) (r : ℕ) → rows_to bs (r + 1) ≡ rows_to bs r ++ row_text bs r
unfolding rows_to
rows_more bs r = rw (add-one r)

pub rows_none : (bs : List ℕ) → rows_to bs 0 ≡ []
unfolding rows_to
rows_none bs = refl

-- r rows are at most 70 bytes each
pub length_rows : (bs : List ℕ) (r : ℕ) → inputs bs ≤ 4 → outputs bs ≤ 64 → length (rows_to bs r) ≤ 70 * r
unfolding rows_to
length_rows bs zero a b = lit≤ tt
length_rows bs (suc r) a b =
    let e = length-append (rows_to bs r) (row_text bs r) in
    let l = length_row bs r in
    let i = length_rows bs r a b in
    omega arith

pub rows_to_lem : (n : ℕ) → n ≤ 4 → 2 ^ n ≤ 16
rows_to_lem n h = pow_mono {i = n} {j = 4} h

pub written_none : (o : List ℕ) (i : ℕ) → Written o i [] o i
written_none o i = record { text = splice_none o i; place = omega arith }

pub rows_start : (bs o : List ℕ) (i : ℕ) → Written o i (rows_to bs 0) o i
unfolding rows_to
rows_start bs o i = written_none o i

-- ---- the counts

pub counts_version : (bs : List ℕ) {s : Shape} → s ≡ counts_of bs → s.version ≡ version bs
unfolding counts_of
counts_version bs e = ap (λ (s : Shape). s.version) e

pub counts_inputs : (bs : List ℕ) {s : Shape} → s ≡ counts_of bs → s.inputs ≡ inputs bs
unfolding counts_of
counts_inputs bs e = ap (λ (s : Shape). s.inputs) e

pub counts_gates : (bs : List ℕ) {s : Shape} → s ≡ counts_of bs → s.gates ≡ gates bs
unfolding counts_of
counts_gates bs e = ap (λ (s : Shape). s.gates) e

pub counts_outputs : (bs : List ℕ) {s : Shape} → s ≡ counts_of bs → s.outputs ≡ outputs bs
unfolding counts_of
counts_outputs bs e = ap (λ (s : Shape). s.outputs) e

-- line 1 is short, and the work of a valid circuit is a small number
pub length_counts : (bs : List ℕ) → Head bs → length (counts_text bs) ≤ 49
unfolding counts_text
length_counts bs h =
    let a = length-named egl_word (version bs) (let v = h.version_one in omega arith) in
    let b = length-named inputs_word (inputs bs) (let v = h.inputs_to in omega arith) in
    let c = length-named gates_word (gates bs) (let v = h.gates_to in omega arith) in
    let e = length-append (named egl_word (version bs)) (named inputs_word (inputs bs)) in
    let f = length-append (named egl_word (version bs) ++ named inputs_word (inputs bs)) (named gates_word (gates bs)) in
    omega arith

pub work_small : (bs : List ℕ) → Valid bs → work_of bs ≤ 2048
work_small bs v = let w = work_to bs v in let g = v.head.gates_to in omega arith
