-- Texts worked out by computing: one for each refusal of docs/DECISIONS.md's form, with its place; texts that are taken.
-- Assumes nothing.
use mathlib.Core.Path.{◌≡◌, refl}
use mathlib.Core.List.{List}
use Prim.Native.Nat.{ℕ}
use Prim.Native.Char.{code}
use Prim.Native.String.{String, len, char_at}
use Rattle.params.specs.Refusal.{answer}
use Rattle.ring.specs.Sums.{sum_to, tab}
use Rattle.circuit.specs.Form.{first}
use Rattle.circuit.specs.Private.{refusal}
use Rattle.tokens.specs.Tokens.{blank, blanks, front, start_of, word_of, end_of, past, with_digit, value_from, number_of, number_at, place_at, alike, name_of, name_at}
use Rattle.bristol_form.specs.Says.{sizes_to, input_sizes, inputs, output_values, output_sizes, outputs, body, operands_place, results_place, name_place, gate_at, among, is_set, set_count, made}
use Rattle.bristol_form.specs.Form.{size_answer, count_fields, value_fields, head_answer, results_for, count_good, operand_answer, result_answer, name_good, gate_answer, end_answer, form_answer, gate_limit, head_limit, limit_answer, text_answer}

-- a text's bytes
unfoldable pub bytes : String → List ℕ
bytes text = tab (len text) (λ i. code (char_at text i))

-- the text is taken; it is refused with 11 at a place
abbrev Takes : String → Type 0
Takes text = text_answer (bytes text) ≡ answer 0

abbrev pub Bad : String → ℕ → Type 0
Bad text place = text_answer (bytes text) ≡ refusal 11 place

-- in the form, with each kind of blank
abbrev TakenTexts : Type 0
TakenTexts =
    -- lines as usual
    (Takes "1 3\n1 2\n1 1\n\n2 1 0 1 2 AND\n")
    -- on one line
    × (Takes "1 3 1 2 1 1 2 1 0 1 2 AND")
    -- carriage returns
    × (Takes "1 3\r\n1 2\r\n1 1\r\n\r\n2 1 0 1 2 AND\r\n")
    -- tabs, blanks at both ends
    × (Takes "\t 1\t3 1\r2 1\n1\n\n2 1 0 1 2\tXOR \t\r\n ")
    -- leading zeros
    × (Takes "01 0003 1 02 1 1 2 1 00 1 2 XOR")
    -- several values; an empty one
    × (Takes "1 3 3 1 0 1 2 1 2 2 1 0 1 2 XOR")
    -- no gates
    × (Takes "0 2 1 2 1 2")
    -- as many inputs as there may be
    × (Takes "0 256 2 255 1 1 1")
    -- as many outputs
    × (Takes "0 64 1 64 2 60 4")
    -- the constants of EQ, where no wire is set
    × (Takes "2 2 0 1 2 1 1 0 0 EQ 1 1 1 1 EQ")
    -- wires set in another order
    × (Takes "2 4 1 2 1 2 2 1 0 1 3 AND 2 1 0 1 2 XOR")
    -- a constant that is a set wire too
    × (Takes "2 4 1 2 1 2 1 1 1 3 EQ 1 1 1 2 INV")
    -- an operand twice
    × (Takes "1 2 1 1 1 1 2 1 0 0 1 XOR")

-- a text that ends where a token is due: 11 at its length. Due is
abbrev ShortTexts : Type 0
ShortTexts =
    -- the number of gates
    (Bad "" 0)
    × (Bad " \n" 2)
    -- the wires
    × (Bad "1" 1)
    -- the wires, behind a blank
    × (Bad "1 " 2)
    -- the number of input values
    × (Bad "1 3" 3)
    -- their size
    × (Bad "1 3 1" 5)
    -- the second size
    × (Bad "1 3 2 1" 7)
    -- the number of output values
    × (Bad "1 3 1 2" 7)
    -- their size
    × (Bad "1 3 1 2 1\n" 10)
    -- the gate
    × (Bad "1 3 1 2 1 1\n\n" 13)
    -- its number of results
    × (Bad "1 3 1 2 1 1 2" 13)
    -- its operands
    × (Bad "1 3 1 2 1 1 2 1" 15)
    × (Bad "1 3 1 2 1 1 2 1 0" 17)
    -- its result
    × (Bad "1 3 1 2 1 1 2 1 0 1" 19)
    -- its name
    × (Bad "1 3 1 2 1 1 2 1 0 1 2" 21)
    -- the second of two results
    × (Bad "1 6 1 4 1 1 4 2 0 1 2 3 4" 25)

-- what is no number
abbrev BadNumbers : Type 0
BadNumbers =
    -- a letter
    (Bad "x" 0)
    -- a sign
    × (Bad "+1 3" 0)
    -- a letter behind digits
    × (Bad "1a 3" 0)
    -- 2^32
    × (Bad "4294967296 4294967296" 0)
    -- 2^32 - 1 is one: the wires are due
    × (Bad "4294967295" 10)
    -- more digits
    × (Bad "00000000004294967296 1" 0)
    -- a form feed is no blank
    × (Bad "1\u{c}3 1 2" 0)
    -- wires
    × (Bad "1 -3 1 2" 2)
    -- values
    × (Bad "1 3 one 2" 4)
    -- a size
    × (Bad "1 3 2 1 x" 8)
    -- output values
    × (Bad "1 3 1 2 1.0" 8)
    -- an output size
    × (Bad "1 3 1 2 1 ?" 10)
    -- the number of operands
    × (Bad "1 3 1 2 1 1 two 1 0 1 2 AND" 12)
    -- of results
    × (Bad "1 3 1 2 1 1 2 I 0 1 2 AND" 14)
    -- an operand
    × (Bad "1 3 1 2 1 1 2 1 0 l 2 AND" 18)
    -- a result
    × (Bad "1 3 1 2 1 1 2 1 0 1 w2 AND" 20)

-- a head that no gates can go with
abbrev BadHeads : Type 0
BadHeads =
    -- fewer wires than gates
    (Bad "4 3 1 2 1 1" 2)
    -- inputs that leave no wire for a gate, at the size that shows it
    × (Bad "1 3 3 2 1 0" 8)
    -- the same at once
    × (Bad "1 3 1 4294967295 1 1" 6)
    -- without gates, a wire that is no input: at the last size
    × (Bad "0 3 2 1 1 1 1" 8)
    -- at the number of values where there is none
    × (Bad "0 3 0 1 1" 4)
    -- more outputs than wires
    × (Bad "1 3 1 2 2 2 2 2 1 0 1 2 AND" 12)

-- the numbers of operands and results
abbrev BadCounts : Type 0
BadCounts =
    -- none
    (Bad "1 3 1 2 1 1 0 0 AND" 12)
    -- odd
    × (Bad "1 3 1 2 1 1 3 1 0 1 0 2 AND" 12)
    -- a result too many for the wires
    × (Bad "1 3 1 2 1 1 4 2 0 1 0 1 2 3 MAND" 12)
    -- no wire left for the later gate
    × (Bad "2 4 1 2 1 1 4 2 0 1 0 1 2 3 MAND 1 1 0 4 INV" 12)
    -- the last gate leaves a wire
    × (Bad "1 4 1 2 1 1 2 1 0 1 2 AND" 12)
    -- two operands and no wire set
    × (Bad "1 1 0 1 1 2 1 0 0 0 AND" 10)
    -- a last gate that no number fits, shown by that number alone
    × (Bad "1 2 0 1 1 1 1 0 0 EQ" 10)
    × (Bad "1 4294967295 1 1 1 1 4294967294 2147483647" 21)
    -- results: not half of the operands
    × (Bad "1 3 1 2 1 1 2 2 0 1 2 AND" 14)
    -- not one for one
    × (Bad "1 3 1 2 1 1 1 0 0 INV" 14)

-- operands and results
abbrev BadWires : Type 0
BadWires =
    -- the gate's own result
    (Bad "1 3 1 2 1 1 2 1 0 2 2 AND" 18)
    -- no wire at all
    × (Bad "1 3 1 2 1 1 2 1 7 1 2 AND" 16)
    -- set by a later gate
    × (Bad "2 4 1 2 1 1 2 1 0 3 2 AND 2 1 0 1 3 XOR" 18)
    -- one operand: no wire, and too large for a constant
    × (Bad "1 2 1 1 1 1 1 1 2 1 EQ" 16)
    -- two operands: no constant
    × (Bad "1 2 1 1 1 1 2 1 0 1 1 AND" 18)
    -- a result past the wires
    × (Bad "1 3 1 2 1 1 2 1 0 1 3 AND" 20)
    -- an input
    × (Bad "1 3 1 2 1 1 2 1 0 1 1 AND" 20)
    -- set before
    × (Bad "2 4 1 2 1 1 2 1 0 1 2 AND 2 1 0 1 2 XOR" 34)
    -- twice in one gate
    × (Bad "1 6 1 4 1 1 4 2 0 1 2 3 5 5 MAND" 26)

-- names
abbrev BadNames : Type 0
BadNames =
    -- unknown
    (Bad "1 3 1 2 1 1 2 1 0 1 2 NAND" 22)
    -- in small letters
    × (Bad "1 3 1 2 1 1 2 1 0 1 2 and" 22)
    -- with something behind it
    × (Bad "1 3 1 2 1 1 2 1 0 1 2 AND;" 22)
    -- cut short
    × (Bad "1 3 1 2 1 1 2 1 0 1 2 AN" 22)
    -- INV has one operand
    × (Bad "1 3 1 2 1 1 2 1 0 1 2 INV" 22)
    -- so has EQ
    × (Bad "1 3 1 2 1 1 2 1 0 1 2 EQ" 22)
    -- XOR has two
    × (Bad "1 2 1 1 1 1 1 1 0 1 XOR" 20)
    -- MAND has not one
    × (Bad "1 2 1 1 1 1 1 1 0 1 MAND" 20)
    -- AND has two
    × (Bad "1 6 1 4 1 1 4 2 0 1 2 3 4 5 AND" 28)
    -- INV of what is no wire but may be a constant
    × (Bad "1 1 0 1 1 1 1 0 0 INV" 18)
    -- EQW too
    × (Bad "1 2 1 1 1 1 1 1 1 1 EQW" 20)
    -- EQ of a wire that is no constant
    × (Bad "1 4 1 3 1 1 1 1 2 3 EQ" 20)

-- something after the gates
abbrev MoreFollows : Type 0
MoreFollows =
    (Bad "1 3 1 2 1 1 2 1 0 1 2 AND 2" 26)
    × (Bad "0 1 1 1 1 1\n\n;" 13)

-- two tokens at fault: the first of them in the text counts
abbrev TwoFaults : Type 0
TwoFaults =
    -- the number of operands before that of results
    (Bad "1 3 1 2 1 1 3 7 0 1 2 AND" 12)
    -- the number of results before the operands
    × (Bad "1 3 1 2 1 1 2 2 7 1 2 AND" 14)
    -- an operand before the result
    × (Bad "1 3 1 2 1 1 2 1 7 1 7 AND" 16)
    -- the result before the name
    × (Bad "1 3 1 2 1 1 2 1 0 1 7 NAND" 20)
    -- inputs that leave a wire for one of the two gates only, and a text that ends after the head
    × (Bad "2 3 1 2 1 1" 6)

-- all of them, each by computing
worked : TakenTexts × ShortTexts × BadNumbers × BadHeads × BadCounts × BadWires × BadNames × MoreFollows × TwoFaults
unfolding bytes blank blanks front start_of word_of end_of past with_digit value_from number_of number_at place_at alike name_of name_at sizes_to input_sizes inputs output_values output_sizes outputs body operands_place results_place name_place gate_at among is_set set_count made size_answer count_fields value_fields head_answer results_for count_good operand_answer result_answer name_good gate_answer end_answer form_answer gate_limit head_limit limit_answer text_answer sum_to tab first
worked = (
  (refl, refl, refl, refl, refl, refl, refl, refl, refl, refl, refl, refl, refl),
  (refl, refl, refl, refl, refl, refl, refl, refl, refl, refl, refl, refl, refl, refl, refl, refl),
  (refl, refl, refl, refl, refl, refl, refl, refl, refl, refl, refl, refl, refl, refl, refl, refl),
  (refl, refl, refl, refl, refl, refl),
  (refl, refl, refl, refl, refl, refl, refl, refl, refl, refl),
  (refl, refl, refl, refl, refl, refl, refl, refl, refl),
  (refl, refl, refl, refl, refl, refl, refl, refl, refl, refl, refl, refl),
  (refl, refl),
  (refl, refl, refl, refl, refl),
)
