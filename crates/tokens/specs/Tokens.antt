-- The tokens of a text (02, request 2026-02; docs/DECISIONS.md, 'Circuits as text'): runs of bytes that are no blanks. Line ends are blanks like others.
use Rattle.std.specs.Prelude.{Bool, true, false, cond, ◌&&◌, ◌||◌, List, [], ◌∷◌, ℕ, zero, suc, ◌+◌, ◌*◌, ◌-◌, leb, ltb, eqb, length, drop}
use Rattle.tokens.specs.declared.Token.{Token}

-- A space, a tab, a line feed or a carriage return.
unfoldable pub blank : ℕ → Bool
blank b = eqb b 32 || eqb b 9 || eqb b 10 || eqb b 13

-- How many blanks stand at the front.
unfoldable pub blanks : List ℕ → ℕ
blanks [] = 0
blanks (b ∷ bs) = cond (blank b) (suc (blanks bs)) 0

-- The bytes before the first blank.
unfoldable pub front : List ℕ → List ℕ
front [] = []
front (b ∷ bs) = cond (blank b) [] (b ∷ front bs)

-- ---- the token that comes next from place p on

-- Its first byte's place; the text's length where there is none.
unfoldable pub start_of : List ℕ → ℕ → ℕ
start_of text p = p + blanks (drop p text)

-- Its bytes; none where there is no token.
unfoldable pub word_of : List ℕ → ℕ → List ℕ
word_of text p = front (drop (start_of text p) text)

-- The place after its last byte.
unfoldable pub end_of : List ℕ → ℕ → ℕ
end_of text p = start_of text p + length (word_of text p)

-- The place after so many tokens from p on.
unfoldable pub past : List ℕ → ℕ → ℕ → ℕ
past text p zero = p
past text p (suc i) = end_of text (past text p i)

-- ---- numbers

-- What a token that is no number counts as: 2^32, above every number.
abbrev pub no_number : ℕ
no_number = 4294967296

-- The digits before it having the value v, the value with the byte b; no_number where b is no digit or the value is no longer below 2^32.
unfoldable pub with_digit : ℕ → ℕ → ℕ
with_digit v b = cond (leb 48 b && leb b 57 && ltb (10 * v + (b - 48)) no_number) (10 * v + (b - 48)) no_number

-- The value of further digits behind those of value v.
unfoldable pub value_from : ℕ → List ℕ → ℕ
value_from v [] = v
value_from v (b ∷ bs) = value_from (with_digit v b) bs

-- A token's number: decimal digits, leading zeros allowed, below 2^32.
unfoldable pub number_of : List ℕ → ℕ
number_of [] = no_number
number_of (b ∷ bs) = value_from 0 (b ∷ bs)

-- The number of token i from place p on.
unfoldable pub number_at : List ℕ → ℕ → ℕ → ℕ
number_at text p i = number_of (word_of text (past text p i))

-- The place of token i from place p on.
unfoldable pub place_at : List ℕ → ℕ → ℕ → ℕ
place_at text p i = start_of text (past text p i)

-- ---- names

-- Whether two lists of bytes are alike.
unfoldable pub alike : List ℕ → List ℕ → Bool
alike [] [] = true
alike [] (y ∷ ys) = false
alike (x ∷ xs) [] = false
alike (x ∷ xs) (y ∷ ys) = eqb x y && alike xs ys

-- The names, as numbers. None of the six:
abbrev pub no_name : ℕ
no_name = 0

-- XOR, of two operands.
abbrev pub xor_name : ℕ
xor_name = 1

-- AND, of two operands.
abbrev pub and_name : ℕ
and_name = 2

-- INV, of one.
abbrev pub inv_name : ℕ
inv_name = 3

-- EQ, whose operand is a constant.
abbrev pub eq_name : ℕ
eq_name = 4

-- EQW, whose result is its operand.
abbrev pub eqw_name : ℕ
eqw_name = 5

-- MAND, several ANDs in one gate.
abbrev pub mand_name : ℕ
mand_name = 6

-- The name that a token's bytes spell: XOR, AND, INV, EQ, EQW, MAND, in capitals; or none.
unfoldable pub name_of : List ℕ → ℕ
name_of w =
    cond (alike w (88 ∷ 79 ∷ 82 ∷ [])) xor_name
    (cond (alike w (65 ∷ 78 ∷ 68 ∷ [])) and_name
    (cond (alike w (73 ∷ 78 ∷ 86 ∷ [])) inv_name
    (cond (alike w (69 ∷ 81 ∷ [])) eq_name
    (cond (alike w (69 ∷ 81 ∷ 87 ∷ [])) eqw_name
    (cond (alike w (77 ∷ 65 ∷ 78 ∷ 68 ∷ [])) mand_name no_name)))))

-- The name of token i from place p on.
unfoldable pub name_at : List ℕ → ℕ → ℕ → ℕ
name_at text p i = name_of (word_of text (past text p i))

-- ---- the next token in one

-- Its place, its end and its number.
unfoldable pub token_at : List ℕ → ℕ → Token
token_at text p = record { start = start_of text p; end = end_of text p; number = number_of (word_of text p) }

-- Its place, its end and its name.
unfoldable pub name_token_at : List ℕ → ℕ → Token
name_token_at text p = record { start = start_of text p; end = end_of text p; number = name_of (word_of text p) }
