-- The refusal table of document 01 ('Refusal numbers'): how a routine's answer is put together, and what a lent slice holds after it.
use Rattle.std.specs.Prelude.{Bool, true, false, cond, ℕ, eqb, Result, Ok, Err}
use Rattle.params.specs.declared.refusal.Refusal.{Refusal}
use Rattle.params.specs.declared.refusal.Refusal.TheVariants.{Parameters, Length, Index, KeyWord, Modulus, Mark, Version, Count, Gate, Output, Text, Limit, Wires}

-- One check of the table: its number where the test fails, else what the checks after it give. 0 at the end means done.
abbrev pub check : Bool → ℕ → ℕ → ℕ
check true number rest = rest
check false number rest = number

-- An answer by document 01: the refusal's number, 0 where the call did its work, and the place in a circuit or a text that it speaks of, else 0.
pub record Answer : Type 0 where
  pub number : ℕ
  pub place : ℕ

-- The answer of a call whose refusals have no place in a circuit: its place is 0 (01: 'for 6 to 10 the first byte of the field at fault, else 0').
abbrev pub answer : ℕ → Answer
answer n = record { number = n; place = 0 }

-- One of two values, by a refusal's number: the new one where the call did its work, else the old one. So a refused call writes nothing.
abbrev pub if_done : {A : Type 0} → ℕ → A → A → A
if_done number new old = cond (eqb number 0) new old

-- ---- the answer of a call: `Ok`, or a refusal

-- The table's number of a refusal.
abbrev pub number : Refusal → ℕ
number Parameters = 1
number Length = 2
number Index = 3
number KeyWord = 4
number Modulus = 5
number Mark = 6
number Version = 7
number (Count at) = 8
number (Gate at) = 9
number (Output at) = 10
number (Text at) = 11
number (Limit at) = 12
number Wires = 13

-- Its place: for 6 to 12 the first byte of the field at fault, else 0. The mark is at 0 and the version at 3.
abbrev pub place : Refusal → ℕ
place Parameters = 0
place Length = 0
place Index = 0
place KeyWord = 0
place Modulus = 0
place Mark = 0
place Version = 3
place (Count at) = at
place (Gate at) = at
place (Output at) = at
place (Text at) = at
place (Limit at) = at
place Wires = 0

-- The outcome of a routine that hands back nothing but its answer.
abbrev pub Outcome : Type 0
Outcome = Result (Unit {0}) Refusal

abbrev pub done : Outcome
done = Ok tt

-- The number and the place of an outcome: 0 and 0 where the call did its work.
abbrev pub number_of : {A : Type 0} → Result A Refusal → ℕ
number_of (Ok v) = 0
number_of (Err r) = number r

abbrev pub place_of : {A : Type 0} → Result A Refusal → ℕ
place_of (Ok v) = 0
place_of (Err r) = place r

-- One check of the table: its refusal where the test fails, else what the checks after it give.
abbrev pub unless : {A : Type 0} → Bool → Refusal → Result A Refusal → Result A Refusal
unless true r rest = rest
unless false r rest = Err r

-- The refusal of a number of the table, which is not 0, with the place where it carries one.
abbrev pub refusal_at : ℕ → ℕ → Refusal
refusal_at n at =
    cond (eqb n 1) Parameters
    (cond (eqb n 2) Length
    (cond (eqb n 3) Index
    (cond (eqb n 4) KeyWord
    (cond (eqb n 5) Modulus
    (cond (eqb n 6) Mark
    (cond (eqb n 7) Version
    (cond (eqb n 8) (Count at)
    (cond (eqb n 9) (Gate at)
    (cond (eqb n 10) (Output at)
    (cond (eqb n 11) (Text at)
    (cond (eqb n 12) (Limit at)
    Wires)))))))))))

-- What a routine hands back by its answer, the number and the place: the value where the number is 0, else the refusal.
abbrev pub given : {A : Type 0} → Answer → A → Result A Refusal
given a v = cond (eqb a.number 0) (Ok v) (Err (refusal_at a.number a.place))

-- The same of a routine that hands back nothing but its answer.
abbrev pub outcome : Answer → Outcome
outcome a = given a tt
