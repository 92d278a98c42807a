-- What `next` says of token i from a place on, the reader standing there: its number, its place, and where token i + 1 is next.
-- Assumes nothing.
use mathlib.Core.Path.{◌≡◌, sym, ap, ◌∙◌}
use mathlib.Core.List.{List}
use Prim.Native.Nat.{ℕ, ◌+◌}
use native.Mathlib.Numerals.{add-one}
use Rattle.tokens.specs.declared.Token.{Token}
use Rattle.tokens.specs.Tokens.{start_of, past, number_at, place_at, token_at}
use Rattle.tokens.proofs.Laws.{token_number, token_start, token_end}

pub record Reading (text : List ℕ) (at i : ℕ) (t : Token) : Type 0 where
  pub number_is : t.number ≡ number_at text at i
  pub start_is : t.start ≡ place_at text at i
  pub end_is : t.end ≡ past text at (i + 1)

pub reading : (text : List ℕ) (at i : ℕ) {p : ℕ} {t : Token} → p ≡ past text at i → t ≡ token_at text p → Reading text at i t
reading text at i {p} {t} here e =
    let itself : t ≡ token_at text (past text at i) = e ∙ ap (token_at text) here in
    record {
      number_is = ap (λ (u : Token). u.number) itself ∙ token_number text at i;
      start_is = ap (λ (u : Token). u.start) itself ∙ token_start text at i;
      end_is = ap (λ (u : Token). u.end) itself ∙ token_end text at i ∙ ap (past text at) (sym (add-one i));
    }

-- the same place, told by other variables
pub past_as : (text : List ℕ) {at at' i i' r : ℕ} → at ≡ at' → i ≡ i' → r ≡ past text at i → r ≡ past text at' i'
past_as text a b e = cc

-- where the token after a place begins
pub start_as : (text : List ℕ) {p q : ℕ} {t : Token} → t ≡ token_at text p → p ≡ q → t.start ≡ start_of text q
unfolding token_at
start_as text e d = ap (λ (u : Token). u.start) e ∙ ap (start_of text) d

-- the place after one token more
pub read_on : (text : List ℕ) (at i p : ℕ) (t : Token) → p ≡ past text at i → t ≡ token_at text p → t.end ≡ past text at (i + 1)
read_on text at i p t here e = (reading text at i here e).end_is
