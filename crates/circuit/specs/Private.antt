-- What only routines and proofs need, here and in the crates above: answers to parts of what is read.
use Rattle.std.specs.Prelude.{Bool, cond, List, ℕ, drop}
use Rattle.params.specs.Refusal.{Answer}
use Rattle.circuit.specs.Form.{first_at, head_fields, gate_fields}

-- A refusal, and the place of the field at fault.
abbrev pub refusal : ℕ → ℕ → Answer
refusal n p = record { number = n; place = p }

-- One check and what those after it give.
abbrev pub check_at : Bool → ℕ → ℕ → Answer → Answer
check_at test n p rest = cond test rest (refusal n p)

-- The answer to what comes before the gates.
abbrev pub head_answer : List ℕ → Answer
head_answer bs = first_at (head_fields bs)

-- The counts and the length alone: the head's checks from the sixth on.
unfoldable pub counts_answer : List ℕ → Answer
counts_answer bs = first_at (drop 5 (head_fields bs))

-- The answer to gate g.
abbrev pub gate_answer : List ℕ → ℕ → Answer
gate_answer bs g = first_at (gate_fields bs g)
