-- How the bytes are read one by one: a token is passed over from its front on, and a number is what is left of its digits.
-- Assumes nothing.
use mathlib.Core.Path.{◌≡◌, ap, ◌∙◌}
use mathlib.Core.Bool.{true, false}
use mathlib.Core.List.{List, [], ◌∷◌}
use Prim.Native.Nat.{ℕ, suc, ◌+◌, ◌*◌, ◌-◌, ◌≤◌, ◌<◌}
use native.Mathlib.Numerals.{add-one}
use native.Mathlib.Omega.{arith}
use borrow.Author.Tests.{lt-ltb, le-leb, eq-eqb, ne_eqb}
use lib.ListN.{length, get_or, drop, drop_of_length-le}
use lib.Seq.{drop-cons}
use Rattle.tokens.specs.declared.Token.{Token}
use Rattle.tokens.specs.Tokens.{blank, blanks, front, start_of, with_digit, no_number, value_from, number_of}
use Rattle.tokens.specs.Private.{ended_at, left_at, word_at}

-- ---- the front of what is left

drop-one : (text : List ℕ) (p : ℕ) → p < length text → drop p text ≡ get_or text p 0 ∷ drop (p + 1) text
drop-one text p h = rw (add-one p) (drop-cons text p 0 h)

pub front-cons : (b : ℕ) (bs : List ℕ) → blank b ≡ false → front (b ∷ bs) ≡ b ∷ front bs
unfolding front
front-cons b bs e = rw e

pub front-blank : (b : ℕ) (bs : List ℕ) → blank b ≡ true → front (b ∷ bs) ≡ []
unfolding front
front-blank b bs e = rw e

pub front_step : (text : List ℕ) (p : ℕ) → p < length text → blank (get_or text p 0) ≡ false → front (drop p text) ≡ get_or text p 0 ∷ front (drop (p + 1) text)
front_step text p h e = ap front (drop-one text p h) ∙ front-cons (get_or text p 0) (drop (p + 1) text) e

pub front_stop : (text : List ℕ) (p : ℕ) → p < length text → blank (get_or text p 0) ≡ true → front (drop p text) ≡ []
front_stop text p h e = ap front (drop-one text p h) ∙ front-blank (get_or text p 0) (drop (p + 1) text) e

pub front_over : (text : List ℕ) (p : ℕ) → length text ≤ p → front (drop p text) ≡ []
unfolding front
front_over text p h = rw (drop_of_length-le text h)

-- ---- where the next token begins

pub blanks-cons : (b : ℕ) (bs : List ℕ) → blank b ≡ true → blanks (b ∷ bs) ≡ suc (blanks bs)
unfolding blanks
blanks-cons b bs e = rw e

pub blanks_none : (b : ℕ) (bs : List ℕ) → blank b ≡ false → blanks (b ∷ bs) ≡ 0
unfolding blanks
blanks_none b bs e = rw e

pub start_step : (text : List ℕ) (p : ℕ) → p < length text → blank (get_or text p 0) ≡ true → start_of text p ≡ start_of text (p + 1)
unfolding start_of
start_step text p h e =
    let z = ap blanks (drop-one text p h) ∙ blanks-cons (get_or text p 0) (drop (p + 1) text) e in
    omega arith

pub start_stop : (text : List ℕ) (p : ℕ) → p < length text → blank (get_or text p 0) ≡ false → start_of text p ≡ p
unfolding start_of
start_stop text p h e =
    let z = ap blanks (drop-one text p h) ∙ blanks_none (get_or text p 0) (drop (p + 1) text) e in
    omega arith

pub start_over : (text : List ℕ) (p : ℕ) → length text ≤ p → start_of text p ≡ p
unfolding start_of blanks
start_over text p h = let z = ap blanks (drop_of_length-le text h) in omega arith

-- ---- a digit more

pub digit_in : (v b : ℕ) → 48 ≤ b → b ≤ 57 → 10 * v + (b - 48) < no_number → with_digit v b ≡ 10 * v + (b - 48)
unfolding with_digit
digit_in v b l m h = rw (le-leb 48 b l, le-leb b 57 m, lt-ltb (10 * v + (b - 48)) no_number h)

-- ---- the token that begins at s, read from p on

whole : (s : ℕ) (w : List ℕ) → ◌≡◌ {A = Token} (record { start = s; end = s + length w; number = number_of w }) (ended_at s (s + length w) (value_from 0 w))
unfolding ended_at number_of
whole s [] = rw (eq-eqb (s + 0) s (omega arith))
whole s (b ∷ bs) = rw (ne_eqb (s + length (b ∷ bs)) s (λ e. omega (arith, e)))

pub left_start : (text : List ℕ) (s : ℕ) → word_at text s ≡ left_at text s s 0
unfolding word_at left_at
left_start text s = whole s (front (drop s text))

pub left_step : (text : List ℕ) (s p v : ℕ) → p < length text → blank (get_or text p 0) ≡ false → left_at text s p v ≡ left_at text s (p + 1) (with_digit v (get_or text p 0))
unfolding left_at value_from
left_step text s p v h e =
    rw (front_step text p h e)
    (ap (λ (n : ℕ). ended_at s n (value_from (with_digit v (get_or text p 0)) (front (drop (p + 1) text))))
    (let n = length (front (drop (p + 1) text)) in let z : p + suc n ≡ p + 1 + n = omega arith in z))

left_none : (text : List ℕ) (s p v : ℕ) → front (drop p text) ≡ [] → left_at text s p v ≡ ended_at s p v
unfolding left_at value_from
left_none text s p v e = rw e (ap (λ (n : ℕ). ended_at s n v) (let z : p + 0 ≡ p = omega arith in z))

pub left_stop : (text : List ℕ) (s p v : ℕ) → p < length text → blank (get_or text p 0) ≡ true → left_at text s p v ≡ ended_at s p v
left_stop text s p v h e = left_none text s p v (front_stop text p h e)

pub left_over : (text : List ℕ) (s p v : ℕ) → length text ≤ p → left_at text s p v ≡ ended_at s p v
left_over text s p v h = left_none text s p v (front_over text p h)
