-- The place that a circuit's answer tells lies within the longest circuit, whatever the bytes are: it is that of a field of the head, of one of at most 1,024 gates, or of one of at most 64 outputs,
-- since the head's counts are looked at first; or 0 where nothing is refused. So it fits in 32 bits.
-- Assumes nothing.
use mathlib.Core.Path.{◌≡◌, refl}
use mathlib.Core.Bool.{Bool, true, false}
use mathlib.Core.List.{List, [], ◌∷◌}
use Prim.Native.Nat.{ℕ, zero, suc, ◌+◌, ◌≤◌, ◌<◌}
use native.Mathlib.Omega.{arith}
use borrow.Author.Tests.{eqb-true}
use lib.Dec.{eqb, ltb}
use Rattle.params.specs.Refusal.{Answer, answer}
use Rattle.circuit.specs.Form.{gates, outputs, wires, output_at, output_place, longest, FieldCheck, asks, first_at, or_else, first, head_fields, gate_fields, output_answer, answer_of}
use Rattle.circuit.proofs.Accept.{head_good}

abbrev pub Within : Answer → Type 0
Within a = a.place < longest

pub within_none : (n : ℕ) → Within (answer n)
within_none n = omega arith

-- one answer after another, of which the second counts where the first does not refuse
pub within_or : (a b : Answer) → Within a → (a.number ≡ 0 → Within b) → Within (or_else a b)
within_or a b s t = go (eqb a.number 0) refl
  where
    go : (x : Bool) → eqb a.number 0 ≡ x → Within (or_else a b)
    go true h = rw h (t (eqb-true a.number 0 h))
    go false h = rw h s

-- a row of checks, each by itself
abbrev EachWithin : List FieldCheck → Type 0
EachWithin [] = Unit {0}
EachWithin (asks test n p ∷ checks) = (p < longest) × EachWithin checks

within_checks : (checks : List FieldCheck) → EachWithin checks → Within (first_at checks)
within_checks [] t = within_none 0
within_checks (asks true n p ∷ checks) t = within_checks checks t.1
within_checks (asks false n p ∷ checks) t = t.0

within_first : (f : ℕ → Answer) (i n : ℕ) → ((k : ℕ) → k < i + n → Within (f k)) → Within (first f i n)
unfolding first
within_first f i zero h = within_none 0
within_first f i (suc n) h = within_or (f i) (first f (suc i) n) (h i (omega arith)) (λ e. within_first f (suc i) n (λ k l. h k (omega arith)))

pub place_within : (bs : List ℕ) → Within (answer_of bs)
unfolding answer_of head_fields gate_fields output_answer
place_within bs =
    within_or (first_at (head_fields bs)) _
    (within_checks (head_fields bs) (omega arith, (omega arith, (omega arith, (omega arith, (omega arith, (omega arith, (omega arith, (omega arith, (omega arith, (omega arith, tt)))))))))))
    (λ e.
    let gates_to : gates bs ≤ 1024 = (head_good bs e).gates_to in
    let outputs_to : outputs bs ≤ 64 = (head_good bs e).outputs_to in
    within_or (first (λ g. first_at (gate_fields bs g)) 0 (gates bs)) (first (output_answer bs) 0 (outputs bs))
    (within_first (λ g. first_at (gate_fields bs g)) 0 (gates bs)
    (λ g l. within_checks (gate_fields bs g) (omega arith, (omega arith, (omega arith, (omega arith, (omega arith, tt)))))))
    (λ u. within_first (output_answer bs) 0 (outputs bs) (λ o l. within_checks (asks (ltb (output_at bs o) (wires bs)) 10 (output_place bs o) ∷ []) (omega arith, tt))))
