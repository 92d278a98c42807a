-- What only routines and proofs need: bits held in bytes, what the parts of a text say.
use Rattle.std.specs.Prelude.{◌≡◌, Result, Ok, Err, Bool, ◌&&◌, ◌||◌, List, [], ◌∷◌, ℕ, suc, ◌+◌, ◌*◌, ◌-◌, ◌/◌, ◌%◌, ◌^◌, ◌<◌, ◌≤◌, leb, ltb, eqb, length}
use Rattle.ring.specs.Word.{at}
use Rattle.params.specs.Refusal.{Answer}
use Rattle.params.specs.Refusal.{answer, outcome}
use Rattle.tokens.specs.Tokens.{past, place_at, name_at, no_number}
use Rattle.circuit.specs.Form.{asks, first_at, first}
use Rattle.bristol_form.specs.declared.Counts.{Counts}
use Rattle.bristol_form.specs.declared.GateRead.{GateRead}
use Rattle.bristol_form.specs.declared.GatesRead.{GatesRead}
use Rattle.bristol_form.specs.declared.HeadRead.{HeadRead}
use Rattle.bristol_form.specs.Says.{gates, wires, inputs, outputs, body, gate_at, operand_count, result_count, operands_place, name_place, is_set, set_by, made}
use Rattle.bristol_form.specs.Form.{results_for, count_good, name_good, head_limit, gate_limit}

-- The wires below this number have a bit of their own in the call's memory; others are looked up in the text.
abbrev pub held : ℕ
held = 393216

-- Wire w's bit in bytes of eight each.
unfoldable pub held_bit : List ℕ → ℕ → Bool
held_bit bits w = eqb (at bits (w / 8) / 2 ^ (w % 8) % 2) 1

-- The bytes have, for each wire that they hold, whether it is set before gate j or among that gate's first y results.
pub record Holds (text bits : List ℕ) (j y : ℕ) : Type 0 where
  pub long : 8 * length bits ≡ held
  pub each : (w : ℕ) → w < held → held_bit bits w ≡ is_set text j w || set_by text (gate_at text j) y w

-- The answer to so many sizes, of which one passes the bound at a place, or none does.
abbrev pub sizes_answer : {A : Type 0} → ℕ → Result A ℕ → Answer
sizes_answer number (Ok s) = answer 0
sizes_answer number (Err place) = record { number = number; place = place }

-- What a head says, and the first limit that it passes.
unfoldable pub head_of : List ℕ → HeadRead
head_of text =
    record { gates = gates text; wires = wires text; inputs = inputs text; outputs = outputs text; body = body text; limit = outcome (head_limit text) }

-- That a head says so, and is not refused.
pub record Says (text : List ℕ) (h : HeadRead) : Type 0 where
  pub gates_are : h.gates ≡ gates text
  pub wires_are : h.wires ≡ wires text
  pub inputs_are : h.inputs ≡ inputs text
  pub body_is : h.body ≡ body text
  pub wires_small : h.wires < no_number
  pub wire_each : h.inputs + h.gates ≤ h.wires

-- Whether a gate can have k operands, so many wires being set before it.
unfoldable pub operands_fit : ℕ → ℕ → Bool
operands_fit k set = eqb k 1 || ltb 0 k && eqb (k % 2) 0 && ltb 0 set

-- `count_good` of the numbers that it asks for.
unfoldable pub count_fits : ℕ → ℕ → ℕ → ℕ → ℕ → Bool
count_fits k set total most j =
    ltb k no_number
    && operands_fit k set
    && leb (set + results_for k + (total - suc j)) most
    && (ltb (suc j) total || eqb (set + results_for k) most)

-- The first part of a gate's answer, the numbers of its operands and results.
unfoldable pub counts_answer : List ℕ → ℕ → Answer
counts_answer text j =
    first_at
    (asks (count_good text j (operand_count text (gate_at text j))) 11 (place_at text (gate_at text j) 0)
    ∷ asks (eqb (result_count text (gate_at text j)) (results_for (operand_count text (gate_at text j)))) 11 (place_at text (gate_at text j) 1)
    ∷ [])

-- What these two numbers are, and where the operands begin.
unfoldable pub counts_of : List ℕ → ℕ → Counts
counts_of text j =
    record { operands = operand_count text (gate_at text j); results = result_count text (gate_at text j); at = operands_place text (gate_at text j) }

-- The last part of a gate's answer, its name.
unfoldable pub name_answer : List ℕ → ℕ → ℕ → Bool → ℕ → Answer
name_answer text k constant set p = first_at (asks (name_good k constant set (name_at text p 0)) 11 (place_at text p 0) ∷ [])

-- What a gate of so many results says whose name is next from place p on.
unfoldable pub named_of : List ℕ → ℕ → ℕ → GateRead
named_of text results p = record { results = results; name = name_at text p 0; named = place_at text p 0; at = past text p 1 }

-- What gate j says to those after it.
unfoldable pub gate_of : List ℕ → ℕ → GateRead
gate_of text j = named_of text (result_count text (gate_at text j)) (name_place text (gate_at text j))

-- What the gates say.
unfoldable pub gates_of : List ℕ → GatesRead
gates_of text = record { made = made text (gates text); limit = outcome (first (gate_limit text) 0 (gates text)); at = gate_at text (gates text) }
