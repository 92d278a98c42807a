-- Tokens of small texts, computed over the definitions: the four blanks, numbers and what is none, names and what is none, places.
-- Assumes nothing.
use mathlib.Core.Path.{◌≡◌, refl}
use mathlib.Core.List.{List, [], ◌∷◌, map}
use Prim.Native.Nat.{ℕ}
use Rattle.tokens.specs.declared.Token.{Token}
use Rattle.tokens.specs.Tokens.{blank, blanks, front, start_of, word_of, end_of, past, no_number, with_digit, value_from, number_of, number_at, place_at, alike, no_name, xor_name, and_name, inv_name, eq_name, eqw_name, mand_name, name_of, name_at, token_at, name_token_at}

abbrev token : ℕ → ℕ → ℕ → Token
token s e n = record { start = s; end = e; number = n }

-- ---- blanks

-- a space, a tab, a carriage return and a line feed before `7`, a line feed behind it
pub blanks_passed : token_at (32 ∷ 9 ∷ 13 ∷ 10 ∷ 55 ∷ 10 ∷ []) 0 ≡ token 4 5 7
unfolding blank blanks front start_of word_of end_of with_digit value_from number_of token_at
blanks_passed = refl

-- each of the four ends a token: `1` before a tab, `2` before a carriage return, `3` before a line feed, `4` before a space, then `5`
pub each_ends : map (place_at (49 ∷ 9 ∷ 50 ∷ 13 ∷ 51 ∷ 10 ∷ 52 ∷ 32 ∷ 53 ∷ []) 0) (0 ∷ 1 ∷ 2 ∷ 3 ∷ 4 ∷ 5 ∷ []) ≡ 0 ∷ 2 ∷ 4 ∷ 6 ∷ 8 ∷ 9 ∷ []
unfolding blank blanks front start_of word_of end_of past place_at
each_ends = refl

-- a vertical tab, a form feed and a zero are no blanks: one token, and no number
pub others_stay : token_at (49 ∷ 11 ∷ 50 ∷ 12 ∷ 51 ∷ 0 ∷ 52 ∷ []) 0 ≡ token 0 7 no_number
unfolding blank blanks front start_of word_of end_of with_digit value_from number_of token_at
others_stay = refl

-- no byte at all: the place is the length
pub of_nothing : token_at ([]) 0 ≡ token 0 0 no_number
unfolding blank blanks front start_of word_of end_of with_digit value_from number_of token_at
of_nothing = refl

-- blanks alone: the place is the length
pub of_blanks : token_at (32 ∷ 9 ∷ 13 ∷ 10 ∷ []) 0 ≡ token 4 4 no_number
unfolding blank blanks front start_of word_of end_of with_digit value_from number_of token_at
of_blanks = refl

-- a place past the text stays
pub beyond : token_at (55 ∷ []) 3 ≡ token 3 3 no_number
unfolding blank blanks front start_of word_of end_of with_digit value_from number_of token_at
beyond = refl

-- from within a token its rest is the next one
pub within : token_at (49 ∷ 50 ∷ 51 ∷ 32 ∷ []) 1 ≡ token 1 3 23
unfolding blank blanks front start_of word_of end_of with_digit value_from number_of token_at
within = refl

-- ---- numbers

-- `0`, `007` and `00000000004294967295`: leading zeros are digits like others
pub zeros : (number_of (48 ∷ []) ≡ 0) × (number_of (48 ∷ 48 ∷ 55 ∷ []) ≡ 7) × (number_of (48 ∷ 48 ∷ 48 ∷ 48 ∷ 48 ∷ 48 ∷ 48 ∷ 48 ∷ 48 ∷ 48 ∷ 52 ∷ 50 ∷ 57 ∷ 52 ∷ 57 ∷ 54 ∷ 55 ∷ 50 ∷ 57 ∷ 53 ∷ []) ≡ 4294967295)
unfolding with_digit value_from number_of
zeros = (refl, refl, refl)

-- 4294967295 is a number, 4294967296 and 42949672950 are none
pub most : (number_of (52 ∷ 50 ∷ 57 ∷ 52 ∷ 57 ∷ 54 ∷ 55 ∷ 50 ∷ 57 ∷ 53 ∷ []) ≡ 4294967295) × (number_of (52 ∷ 50 ∷ 57 ∷ 52 ∷ 57 ∷ 54 ∷ 55 ∷ 50 ∷ 57 ∷ 54 ∷ []) ≡ no_number) × (number_of (52 ∷ 50 ∷ 57 ∷ 52 ∷ 57 ∷ 54 ∷ 55 ∷ 50 ∷ 57 ∷ 53 ∷ 48 ∷ []) ≡ no_number)
unfolding with_digit value_from number_of
most = (refl, refl, refl)

-- `12a`, `a12`, `1/2`, `:`, `-1`, `+1`, `1.0` and 18446744073709551617, which is 1 modulo 2^64, are none
pub no_digits : (number_of (49 ∷ 50 ∷ 97 ∷ []) ≡ no_number) × (number_of (97 ∷ 49 ∷ 50 ∷ []) ≡ no_number) × (number_of (49 ∷ 47 ∷ 50 ∷ []) ≡ no_number) × (number_of (58 ∷ []) ≡ no_number) × (number_of (45 ∷ 49 ∷ []) ≡ no_number) × (number_of (43 ∷ 49 ∷ []) ≡ no_number) × (number_of (49 ∷ 46 ∷ 48 ∷ []) ≡ no_number) × (number_of (49 ∷ 56 ∷ 52 ∷ 52 ∷ 54 ∷ 55 ∷ 52 ∷ 52 ∷ 48 ∷ 55 ∷ 51 ∷ 55 ∷ 48 ∷ 57 ∷ 53 ∷ 53 ∷ 49 ∷ 54 ∷ 49 ∷ 55 ∷ []) ≡ no_number)
unfolding with_digit value_from number_of
no_digits = (refl, refl, refl, refl, refl, refl, refl, refl)

-- ---- names

-- the six names
pub names : (name_of (88 ∷ 79 ∷ 82 ∷ []) ≡ xor_name) × (name_of (65 ∷ 78 ∷ 68 ∷ []) ≡ and_name) × (name_of (73 ∷ 78 ∷ 86 ∷ []) ≡ inv_name) × (name_of (69 ∷ 81 ∷ []) ≡ eq_name) × (name_of (69 ∷ 81 ∷ 87 ∷ []) ≡ eqw_name) × (name_of (77 ∷ 65 ∷ 78 ∷ 68 ∷ []) ≡ mand_name)
unfolding alike name_of
names = (refl, refl, refl, refl, refl, refl)

-- `Xor`, `xor`, `XO`, `XORX`, `E`, `EQWE`, `EQ1`, `MAN`, `NOT`, `OR` and no byte at all are none
pub no_names : (name_of (88 ∷ 111 ∷ 114 ∷ []) ≡ no_name) × (name_of (120 ∷ 111 ∷ 114 ∷ []) ≡ no_name) × (name_of (88 ∷ 79 ∷ []) ≡ no_name) × (name_of (88 ∷ 79 ∷ 82 ∷ 88 ∷ []) ≡ no_name) × (name_of (69 ∷ []) ≡ no_name) × (name_of (69 ∷ 81 ∷ 87 ∷ 69 ∷ []) ≡ no_name) × (name_of (69 ∷ 81 ∷ 49 ∷ []) ≡ no_name) × (name_of (77 ∷ 65 ∷ 78 ∷ []) ≡ no_name) × (name_of (78 ∷ 79 ∷ 84 ∷ []) ≡ no_name) × (name_of (79 ∷ 82 ∷ []) ≡ no_name) × (name_of ([]) ≡ no_name)
unfolding alike name_of
no_names = (refl, refl, refl, refl, refl, refl, refl, refl, refl, refl, refl)

-- ---- the lines of two gates

-- `2 1 0 13 4 XOR`, a line feed, `1 1 4 5 EQW`, a carriage return and a line feed
abbrev lines : List ℕ
lines = 50 ∷ 32 ∷ 49 ∷ 32 ∷ 48 ∷ 32 ∷ 49 ∷ 51 ∷ 32 ∷ 52 ∷ 32 ∷ 88 ∷ 79 ∷ 82 ∷ 10 ∷ 49 ∷ 32 ∷ 49 ∷ 32 ∷ 52 ∷ 32 ∷ 53 ∷ 32 ∷ 69 ∷ 81 ∷ 87 ∷ 13 ∷ 10 ∷ []

pub places : map (place_at lines 0) (0 ∷ 1 ∷ 2 ∷ 3 ∷ 4 ∷ 5 ∷ 6 ∷ 7 ∷ 8 ∷ 9 ∷ 10 ∷ 11 ∷ []) ≡ 0 ∷ 2 ∷ 4 ∷ 6 ∷ 9 ∷ 11 ∷ 15 ∷ 17 ∷ 19 ∷ 21 ∷ 23 ∷ 28 ∷ []
unfolding blank blanks front start_of word_of end_of past place_at
places = refl

pub ends : map (past lines 0) (0 ∷ 1 ∷ 2 ∷ 3 ∷ 4 ∷ 5 ∷ 6 ∷ 7 ∷ 8 ∷ 9 ∷ 10 ∷ 11 ∷ []) ≡ 0 ∷ 1 ∷ 3 ∷ 5 ∷ 8 ∷ 10 ∷ 14 ∷ 16 ∷ 18 ∷ 20 ∷ 22 ∷ 26 ∷ []
unfolding blank blanks front start_of word_of end_of past
ends = refl

pub numbers : map (number_at lines 0) (0 ∷ 1 ∷ 2 ∷ 3 ∷ 4 ∷ 5 ∷ 6 ∷ 7 ∷ 8 ∷ 9 ∷ 10 ∷ 11 ∷ []) ≡ 2 ∷ 1 ∷ 0 ∷ 13 ∷ 4 ∷ no_number ∷ 1 ∷ 1 ∷ 4 ∷ 5 ∷ no_number ∷ no_number ∷ []
unfolding blank blanks front start_of word_of end_of past with_digit value_from number_of number_at
numbers = refl

pub names_there : map (name_at lines 0) (0 ∷ 1 ∷ 2 ∷ 3 ∷ 4 ∷ 5 ∷ 6 ∷ 7 ∷ 8 ∷ 9 ∷ 10 ∷ 11 ∷ []) ≡ 0 ∷ 0 ∷ 0 ∷ 0 ∷ 0 ∷ 1 ∷ 0 ∷ 0 ∷ 0 ∷ 0 ∷ 5 ∷ 0 ∷ []
unfolding blank blanks front start_of word_of end_of past alike name_of name_at
names_there = refl

-- the last name as `name` gives it, with its place and its end
pub named : name_token_at lines 22 ≡ token 23 26 eqw_name
unfolding blank blanks front start_of word_of end_of alike name_of name_token_at
named = refl
