-- The kinds of gates (01, 'Circuits'; 02, 2026-03): one table gives for each its operands, its Boolean meaning and its work.
use Rattle.std.specs.Prelude.{Bool, true, false, not, ◌&&◌, ◌||◌, cond, List, [], ◌∷◌, ℕ, get_or}
use Rattle.std.specs.Bool.{xor}
use Rattle.ring.specs.Bit.{bit_number, truth}

-- What a kind is: how many operands it needs, its meaning on their bits (of those that it does not need it takes no notice), and its work, the number of
-- blind rotations that a gate of it costs.
pub record Entry : Type 0 where
  pub operands : ℕ
  pub meaning : Bool → Bool → Bool → Bool
  pub work : ℕ

-- A row of the table.
abbrev pub kind_entry : ℕ → (Bool → Bool → Bool → Bool) → ℕ → Entry
kind_entry operands meaning work = record { operands = operands; meaning = meaning; work = work }

-- The table, by kind from 0 on: operands, meaning, work. Kind 8 has its Boolean meaning, and not that of the sum which the Rust's `xnor` takes. A mux, kind
-- 13, rotates twice and counts two (02, 2026-03; 01 counted one). That these are the rotations of the encrypted run is `ways_rotate` of crates/ways/proofs/Work.antt.
unfoldable pub kinds : List Entry
kinds =
    kind_entry 0 (λ a b c. false) 0
    ∷ kind_entry 0 (λ a b c. true) 0
    ∷ kind_entry 1 (λ a b c. not a) 0
    ∷ kind_entry 2 (λ a b c. a && b) 1
    ∷ kind_entry 2 (λ a b c. a || b) 1
    ∷ kind_entry 2 (λ a b c. not (a && b)) 1
    ∷ kind_entry 2 (λ a b c. not (a || b)) 1
    ∷ kind_entry 2 (λ a b c. xor a b) 1
    ∷ kind_entry 2 (λ a b c. not (xor a b)) 1
    ∷ kind_entry 2 (λ a b c. not a && b) 1
    ∷ kind_entry 2 (λ a b c. a && not b) 1
    ∷ kind_entry 2 (λ a b c. not a || b) 1
    ∷ kind_entry 2 (λ a b c. a || not b) 1
    ∷ kind_entry 3 (λ a b c. cond a b c) 2
    ∷ []

-- The kind of a number; of a number that the table lacks, the first.
unfoldable pub kind_of : ℕ → Entry
kind_of k = get_or kinds k (kind_entry 0 (λ a b c. false) 0)

-- The largest number of a kind.
abbrev pub last_kind : ℕ
last_kind = 13

-- A kind's meaning on bits in bytes.
unfoldable pub bit_meaning : ℕ → ℕ → ℕ → ℕ → ℕ
bit_meaning k a b c = bit_number ((kind_of k).meaning (truth a) (truth b) (truth c))
