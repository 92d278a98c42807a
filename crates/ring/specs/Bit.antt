-- Plain bits as numbers: how a caller lends one, and how one is handed back (01, Circuits; docs/DECISIONS.md, Readings).
use Rattle.std.specs.Prelude.{ℕ, Bool, cond, not, ◌==◌}

-- A lent bit, a byte or a word: 0 is false, any other number true.
abbrev pub truth : ℕ → Bool
truth n = not (n == 0)

-- A bit that is handed back: 1 for true, 0 for false.
abbrev pub bit_number : Bool → ℕ
bit_number b = cond b 1 0
