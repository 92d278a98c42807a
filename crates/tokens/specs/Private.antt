-- What only this crate's routines need.
use Rattle.std.specs.Prelude.{List, ℕ, ◌+◌, cond, eqb, length, drop}
use Rattle.tokens.specs.declared.Token.{Token}
use Rattle.tokens.specs.Tokens.{front, no_number, value_from, number_of}

-- The token that begins at the very place s.
unfoldable pub word_at : List ℕ → ℕ → Token
word_at text s = record { start = s; end = s + length (front (drop s text)); number = number_of (front (drop s text)) }

-- The token of the bytes from s up to e, whose value as digits is v.
unfoldable pub ended_at : ℕ → ℕ → ℕ → Token
ended_at s e v = record { start = s; end = e; number = cond (eqb e s) no_number v }

-- The token that begins at s, of whose bytes those before p are read and have the value v: what is left of it stands from p on.
unfoldable pub left_at : List ℕ → ℕ → ℕ → ℕ → Token
left_at text s p v = ended_at s (p + length (front (drop p text))) (value_from v (front (drop p text)))
