-- How long a circuit and its text can be, so that the program's buffers are held to these lengths: a text has one line with numbers of at most ten digits and
-- sixteen lines of at most 70 bytes, and the numbers of a refusal are small because its place stands in a head that was accepted or is one of the head's own.
-- Assumes nothing.
use mathlib.Core.Path.{◌≡◌, refl, sym, ap, ◌∙◌}
use mathlib.Core.Logic.{⊎_elim}
use mathlib.Core.Bool.{Bool, true, false}
use mathlib.Core.List.{List, [], ◌∷◌}
use Prim.Native.Nat.{ℕ, zero, suc, ◌+◌, ◌^◌, ◌≤◌, ◌<◌}
use native.Mathlib.Decide.{ℕ_discrete}
use native.Mathlib.Omega.{arith}
use borrow.Author.Tests.{eq-eqb, ne_eqb}
use lib.Dec.{T, lit<, ltb, ltb→lt}
use lib.ListN.{length, take, drop, length-append}
use lib.Seq.{take_at}
use Rattle.std.specs.Prelude.{Ok}
use Rattle.params.specs.Refusal.{Answer}
use Rattle.params.specs.Refusal.{answer}
use Rattle.circuit.specs.Form.{inputs, gates, outputs, wires, gate_place, output_place, output_at, longest, or_else, first, output_answer, answer_of, gate_fields, head_fields, FieldCheck, asks, first_at}
use Rattle.circuit.specs.Private.{gate_answer, head_answer, refusal}
use Rattle.kinds.proofs.Table.{both, both_left, both_right}
use Rattle.circuit.proofs.Accept.{lt_or_ge, head_good, accepted}
use Rattle.circuit.proofs.Longest.{answer_cut, accepted_whole}
use Rattle.report.specs.Text.{head_text, rows_to, refused_text, room, text_of, describe_out, describe_answer}
use Rattle.report.proofs.Pieces.{refused_line_fits, length_rows, rows_to_lem}
use Rattle.report.proofs.Texts.{text_refused, text_long, text_table, length_head, answer_fits, out_fits}

-- ---- a refusal's numbers are small

-- number and place have at most ten digits
record Small (a : Answer) : Type 0 where
  number_to : a.number < 10000000000
  place_to : a.place < 10000000000

done_small : Small (answer 0)
done_small = record { number_to = lit< tt; place_to = lit< tt }

-- the second answer counts only where the first does not refuse
else_small : (a b : Answer) → Small a → (a.number ≡ 0 → Small b) → Small (or_else a b)
else_small a b s h = go (ℕ_discrete a.number 0)
  where
    go : Dec (a.number ≡ 0) → Small (or_else a b)
    go (yes e) = rw (eq-eqb a.number 0 e) (h e)
    go (no d) = rw (ne_eqb a.number 0 d) s

first_small : (f : ℕ → Answer) (i n : ℕ) → ((k : ℕ) → k < i + n → Small (f k)) → Small (first f i n)
unfolding first
first_small f i zero h = done_small
first_small f i (suc n) h = else_small (f i) (first f (suc i) n) (h i (omega arith)) (λ e. first_small f (suc i) n (λ k l. h k (omega arith)))

little : (n p : ℕ) → n < 10000000000 → p < 10000000000 → Small (refusal n p)
little n p a b = record { number_to = a; place_to = b }

-- the numbers and places of checks are small
abbrev Littles : List FieldCheck → Type 0
Littles [] = Unit {0}
Littles (asks test n p ∷ checks) = ((n < 10000000000) × (p < 10000000000)) × Littles checks

-- and so is what they answer, whatever their tests give
checks_small : (checks : List FieldCheck) → Littles checks → Small (first_at checks)
checks_small [] l = done_small
checks_small (asks true n p ∷ checks) l = checks_small checks l.1
checks_small (asks false n p ∷ checks) l = little n p l.0.0 l.0.1

-- where they are numerals, it computes that they are
abbrev little_ones : List FieldCheck → Bool
little_ones [] = true
little_ones (asks test n p ∷ checks) = both (both (ltb n 10000000000) (ltb p 10000000000)) (little_ones checks)

computed : (checks : List FieldCheck) → T (little_ones checks) → Littles checks
computed [] t = tt
computed (asks test n p ∷ checks) t =
    let a = ltb n 10000000000 in
    let b = ltb p 10000000000 in
    let h = both_left (both a b) (little_ones checks) t in
    ((ltb→lt n 10000000000 (both_left a b h), ltb→lt p 10000000000 (both_right a b h)), computed checks (both_right (both a b) (little_ones checks) t))

module _ (bs : List ℕ) where
  head_small : Small (head_answer bs)
  unfolding head_fields
  head_small = checks_small (head_fields bs) (computed (head_fields bs) tt)

  gate_small : (g : ℕ) → g < 1024 → Small (gate_answer bs g)
  unfolding gate_fields
  gate_small g h =
      let at : (d : ℕ) → d < 8 → (9 < 10000000000) × (gate_place g + d < 10000000000) = λ d l. (lit< tt, omega arith) in
      checks_small (gate_fields bs g) ((lit< tt, omega arith), (at 1 (lit< tt), (at 2 (lit< tt), (at 4 (lit< tt), (at 6 (lit< tt), tt)))))

  output_small : (o : ℕ) → gates bs ≤ 1024 → o < 64 → Small (output_answer bs o)
  unfolding output_answer
  output_small o g h = checks_small (asks (ltb (output_at bs o) (wires bs)) 10 (output_place bs o) ∷ []) ((lit< tt, omega arith), tt)

  answer_small : Small (answer_of bs)
  unfolding answer_of
  answer_small =
      else_small (head_answer bs) _ head_small (λ e.
      let h = head_good bs e in
      let g = h.gates_to in
      let o = h.outputs_to in
      else_small (first (gate_answer bs) 0 (gates bs)) _ (first_small (gate_answer bs) 0 (gates bs) (λ k l. gate_small k (omega arith))) (λ z.
      first_small (output_answer bs) 0 (outputs bs) (λ k l. output_small k g (omega arith))))

  -- ---- the text fits

  refused_fits : length (refused_text (answer_of bs)) ≤ room
  refused_fits =
      let s = answer_small in
      let p = s.place_to in
      let l = refused_line_fits (answer_of bs).number (answer_of bs).place s.number_to (omega arith) in
      omega arith

  accepted_fits : (answer_of bs).number ≡ 0 → length (text_of bs) ≤ room
  accepted_fits z =
      let v = accepted bs z in
      let l = length_head bs v in
      ⊎_elim
      (λ (h : 4 < inputs bs). let e = ap length (text_long bs z h) in omega arith)
      (λ (h : inputs bs ≤ 4).
      let r = length_rows bs (2 ^ inputs bs) h v.head.outputs_to in
      let k = rows_to_lem (inputs bs) h in
      let a = length-append (head_text bs) (rows_to bs (2 ^ inputs bs)) in
      let e = ap length (text_table bs z h) in
      omega arith)
      (lt_or_ge 4 (inputs bs))

  -- no text is longer than the room that is kept for one
  pub text_fits : length (text_of bs) ≤ room
  text_fits = go (ℕ_discrete (answer_of bs).number 0)
    where
      go : Dec ((answer_of bs).number ≡ 0) → length (text_of bs) ≤ room
      go (yes z) = accepted_fits z
      go (no d) = let e = ap length (text_refused bs d) in let l = refused_fits in omega arith

  -- ---- the first bytes are enough

  -- of an input longer than any circuit, one byte more than the longest has the text of all of it
  pub text_cut : (n : ℕ) → longest < n → text_of (take n bs) ≡ text_of bs
  text_cut n h = go (ℕ_discrete (answer_of bs).number 0)
    where
      go : Dec ((answer_of bs).number ≡ 0) → text_of (take n bs) ≡ text_of bs
      go (yes z) = ap text_of (accepted_whole bs n h z)
      go (no d) =
          let e = answer_cut bs n h in
          sym (text_refused (take n bs) (λ z. d (ap (λ (a : Answer). a.number) (sym e) ∙ z))) ∙ ap refused_text e ∙ text_refused bs d

-- ---- what a program prints

-- what was read is as much of the input as the slice lent for it takes
pub read_told : (input bs : List ℕ) (n : ℕ) → longest < length input → take (length input) bs ≡ take n input → text_of (take n input) ≡ text_of bs
read_told input bs n h e = ap text_of (sym e) ∙ text_cut bs (length input) h

module _ (rs out : List ℕ) (h : room ≤ length out) where
  -- a slice with room for any text is not refused
  pub never_short : describe_answer rs (length out) ≡ Ok (length (text_of rs))
  never_short = let l = text_fits rs in answer_fits rs (length out) (omega arith)

  -- and gets the text
  pub told_whole : {last : List ℕ} → last ≡ describe_out rs out → take (length (text_of rs)) last ≡ text_of rs
  told_whole f =
      let l = text_fits rs in
      ap (take (length (text_of rs))) (f ∙ sym (out_fits rs out (omega arith))) ∙ take_at (text_of rs) (drop (length (text_of rs)) out) (length (text_of rs)) refl
