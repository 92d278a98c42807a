-- How each kind of gate is said by XOR, AND, INV and EQ alone (02, request 2026-02): one table of the lines of each kind.
use Rattle.std.specs.Prelude.{List, [], ◌∷◌, ℕ, ◌+◌, length, get_or}
use Rattle.tokens.specs.Tokens.{xor_name, and_name, inv_name, eq_name}

-- ---- what a line reads

-- The gate's first operand.
abbrev pub wire_a : ℕ
wire_a = 0

-- Its second operand.
abbrev pub wire_b : ℕ
wire_b = 1

-- Its third operand.
abbrev pub wire_c : ℕ
wire_c = 2

-- The wire that the gate's first line sets.
abbrev pub new_first : ℕ
new_first = 3

-- That of its second line.
abbrev pub new_second : ℕ
new_second = 4

-- EQ's constant 0.
abbrev pub bit_zero : ℕ
bit_zero = 5

-- EQ's constant 1.
abbrev pub bit_one : ℕ
bit_one = 6

-- The number that a line writes for what it reads: a, b and c are the operands' wires, n is the first line's.
unfoldable pub source_of : ℕ → ℕ → ℕ → ℕ → ℕ → ℕ
source_of source a b c n = get_or (a ∷ b ∷ c ∷ n ∷ (n + 1) ∷ 0 ∷ 1 ∷ []) source 0

-- ---- the table

-- One line of a gate: its name and what it reads. INV and EQ read one thing, and take no notice of the second.
pub record Step : Type 0 where
  pub name : ℕ
  pub first : ℕ
  pub second : ℕ

-- XOR of two.
abbrev pub xor : ℕ → ℕ → Step
xor x y = record { name = xor_name; first = x; second = y }

-- AND of two.
abbrev pub and : ℕ → ℕ → Step
and x y = record { name = and_name; first = x; second = y }

-- INV of one.
abbrev pub inv : ℕ → Step
inv x = record { name = inv_name; first = x; second = x }

-- EQ of a constant.
abbrev pub eq : ℕ → Step
eq x = record { name = eq_name; first = x; second = x }

-- The lines of each kind, from kind 0 on. The last line sets the gate's own bit.
unfoldable pub steps : List (List Step)
steps =
    (eq bit_zero ∷ [])
    ∷ (eq bit_one ∷ [])
    ∷ (inv wire_a ∷ [])
    ∷ (and wire_a wire_b ∷ [])
    ∷ (xor wire_a wire_b ∷ and wire_a wire_b ∷ xor new_first new_second ∷ [])
    ∷ (and wire_a wire_b ∷ inv new_first ∷ [])
    ∷ (inv wire_a ∷ inv wire_b ∷ and new_first new_second ∷ [])
    ∷ (xor wire_a wire_b ∷ [])
    ∷ (xor wire_a wire_b ∷ inv new_first ∷ [])
    ∷ (inv wire_a ∷ and new_first wire_b ∷ [])
    ∷ (inv wire_b ∷ and wire_a new_first ∷ [])
    ∷ (inv wire_b ∷ and wire_a new_first ∷ inv new_second ∷ [])
    ∷ (inv wire_a ∷ and new_first wire_b ∷ inv new_second ∷ [])
    ∷ (xor wire_b wire_c ∷ and wire_a new_first ∷ xor new_second wire_c ∷ [])
    ∷ []

-- The lines of a kind; of a number that the table lacks, none.
unfoldable pub steps_of : ℕ → List Step
steps_of k = get_or steps k []

-- How many lines a kind has: 1 for 0 to 3 and 7; 2 for 5 and 8 to 10; 3 for 4, 6 and 11 to 13.
unfoldable pub count : ℕ → ℕ
count k = length (steps_of k)

-- Line s of a kind.
unfoldable pub step_at : ℕ → ℕ → Step
step_at k s = get_or (steps_of k) s (eq bit_zero)
