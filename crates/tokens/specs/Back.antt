-- Tokens read backwards: for a reader that stands behind one.
use Rattle.std.specs.Prelude.{cond, List, ℕ, zero, suc}
use Rattle.ring.specs.Word.{at}
use Rattle.tokens.specs.declared.Behind.{Behind}
use Rattle.tokens.specs.Tokens.{blank}

-- Where the run of bytes that are no blanks begins that ends before place e.
unfoldable pub back_start : List ℕ → ℕ → ℕ
back_start text zero = 0
back_start text (suc e) = cond (blank (at text e)) (suc e) (back_start text e)

-- Where the last byte before place s ends that is no blank.
unfoldable pub back_end : List ℕ → ℕ → ℕ
back_end text zero = 0
back_end text (suc s) = cond (blank (at text s)) (back_end text s) (suc s)

-- The start of the token that ends at e, and the end of the token before it.
unfoldable pub back_of : List ℕ → ℕ → Behind
back_of text e = record { start = back_start text e; before = back_end text (back_start text e) }
