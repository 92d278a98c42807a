-- What callers use of tokens: where they lie, how places follow one another, and that a token with a number or a name has a byte.
-- Inductions on the list for a token, on the number of tokens for places.
-- Assumes nothing.
use mathlib.Core.Path.{◌≡◌, refl, ap, ◌∙◌}
use mathlib.Core.Bool.{Bool, true, false, cond, ◌&&◌, false≢true}
use mathlib.Core.List.{List, [], ◌∷◌}
use Prim.Native.Nat.{ℕ, zero, suc, ◌+◌, ◌*◌, ◌-◌, ◌≤◌, ◌<◌}
use native.Mathlib.Omega.{arith}
use borrow.Author.Tests.{ltb-true}
use lib.Dec.{leb, ltb}
use lib.ListN.{length, drop, length-drop}
use lib.Seq.{drop-drop}
use Rattle.tokens.specs.Tokens.{blank, blanks, front, start_of, word_of, end_of, past, no_number, with_digit, value_from, number_of, number_at, place_at, name_of, name_at, token_at, name_token_at, alike}
use Rattle.tokens.proofs.Names.{front_length, word_within}

-- ---- the next token

blanks_within_by : (t : Bool) (n k : ℕ) → n ≤ k → cond t (suc n) 0 ≤ suc k
blanks_within_by true n k h = omega arith
blanks_within_by false n k h = omega arith

blanks_within : (l : List ℕ) → blanks l ≤ length l
unfolding blanks
blanks_within [] = omega arith
blanks_within (b ∷ bs) = blanks_within_by (blank b) (blanks bs) (length bs) (blanks_within bs)

pub start_within : (text : List ℕ) (p : ℕ) → p ≤ length text → start_of text p ≤ length text
unfolding start_of
start_within text p h = let b = blanks_within (drop p text) in let d = length-drop p text in omega arith

pub start_after : (text : List ℕ) (p : ℕ) → p ≤ start_of text p
unfolding start_of
start_after text p = omega arith

pub start_end : (text : List ℕ) (p : ℕ) → start_of text p ≤ end_of text p
unfolding end_of
start_end text p = omega arith

pub end_after : (text : List ℕ) (p : ℕ) → p ≤ end_of text p
end_after text p = let a = start_after text p in let e = start_end text p in omega arith

pub end_within : (text : List ℕ) (p : ℕ) → p ≤ length text → end_of text p ≤ length text
unfolding end_of word_of
end_within text p h =
    let s = start_within text p h in
    let f = front_length (drop (start_of text p) text) in
    let d = length-drop (start_of text p) text in
    omega arith

-- a token that ends behind its first byte's place lies in the text
pub end_in : (text : List ℕ) (p : ℕ) → start_of text p < end_of text p → end_of text p ≤ length text
unfolding end_of word_of
end_in text p h = word_within text (start_of text p) (omega arith)

-- what stands before the text's end once blanks are passed has a byte: without a token the place is the text's length
there_by : (t : Bool) (b : ℕ) (bs : List ℕ) → blank b ≡ t → (blanks bs < length bs → 0 < length (front (drop (blanks bs) bs))) → cond t (suc (blanks bs)) 0 < suc (length bs) → 0 < length (front (drop (cond t (suc (blanks bs)) 0) (b ∷ bs)))
unfolding front
there_by true b bs e h l = h (omega arith)
there_by false b bs e h l = rw e (omega arith)

there_list : (l : List ℕ) → blanks l < length l → 0 < length (front (drop (blanks l) l))
unfolding blanks
there_list [] h = absurd (let q : ⊥ = omega arith in q)
there_list (b ∷ bs) h = there_by (blank b) b bs refl (there_list bs) h

pub there : (text : List ℕ) (p : ℕ) → start_of text p < length text → start_of text p < end_of text p
unfolding start_of end_of word_of
there text p h =
    let d = length-drop p text in
    let t = there_list (drop p text) (omega arith) in
    let e = ap (λ (l : List ℕ). length (front l)) (drop-drop (blanks (drop p text)) p text) in
    omega arith

-- ---- places

pub past_none : (text : List ℕ) (p : ℕ) → past text p 0 ≡ p
unfolding past
past_none text p = refl

pub past-suc : (text : List ℕ) (p i : ℕ) → past text p (suc i) ≡ end_of text (past text p i)
unfolding past
past-suc text p i = refl

pub past_within : (text : List ℕ) (p i : ℕ) → p ≤ length text → past text p i ≤ length text
unfolding past
past_within text p zero h = h
past_within text p (suc i) h = end_within text (past text p i) (past_within text p i h)

pub past_after : (text : List ℕ) (p i : ℕ) → p ≤ past text p i
unfolding past
past_after text p zero = omega arith
past_after text p (suc i) = let h = past_after text p i in let e = end_after text (past text p i) in omega arith

past_more_by : (text : List ℕ) (p i j n : ℕ) → n ≡ i + j → past text p n ≡ past text (past text p i) j
unfolding past
past_more_by text p i zero n h = ap (past text p) (let z : n ≡ i = omega arith in z)
past_more_by text p i (suc j) n h =
    ap (past text p) (let z : n ≡ suc (i + j) = omega arith in z) ∙ ap (end_of text) (past_more_by text p i j (i + j) refl)

pub past_more : (text : List ℕ) (p i j : ℕ) → past text p (i + j) ≡ past text (past text p i) j
past_more text p i j = past_more_by text p i j (i + j) refl

-- tokens from the place behind i tokens on
pub number_more : (text : List ℕ) (p i j : ℕ) → number_at text p (i + j) ≡ number_at text (past text p i) j
unfolding number_at
number_more text p i j = ap (λ (q : ℕ). number_of (word_of text q)) (past_more text p i j)

pub place_more : (text : List ℕ) (p i j : ℕ) → place_at text p (i + j) ≡ place_at text (past text p i) j
unfolding place_at
place_more text p i j = ap (start_of text) (past_more text p i j)

pub name_more : (text : List ℕ) (p i j : ℕ) → name_at text p (i + j) ≡ name_at text (past text p i) j
unfolding name_at
name_more text p i j = ap (λ (q : ℕ). name_of (word_of text q)) (past_more text p i j)

pub place_within : (text : List ℕ) (p i : ℕ) → p ≤ length text → place_at text p i ≤ length text
unfolding place_at
place_within text p i h = start_within text (past text p i) (past_within text p i h)

-- ---- numbers

digit_most_by : (t : Bool) (n : ℕ) → (t ≡ true → n < no_number) → cond t n no_number ≤ no_number
digit_most_by true n h = let l = h refl in omega arith
digit_most_by false n h = omega arith

last_holds : (a b : Bool) → (a && b) ≡ true → b ≡ true
last_holds true b h = h
last_holds false b h = absurd (false≢true h)

pub digit_most : (v b : ℕ) → with_digit v b ≤ no_number
unfolding with_digit
digit_most v b = let n = 10 * v + (b - 48) in digit_most_by (leb 48 b && leb b 57 && ltb n no_number) n (λ e. ltb-true n no_number (last_holds (leb 48 b && leb b 57) (ltb n no_number) e))

pub value_most : (v : ℕ) (l : List ℕ) → v ≤ no_number → value_from v l ≤ no_number
unfolding value_from
value_most v [] h = h
value_most v (b ∷ bs) h = value_most (with_digit v b) bs (digit_most v b)

pub number_most : (w : List ℕ) → number_of w ≤ no_number
unfolding number_of
number_most [] = omega arith
number_most (b ∷ bs) = value_most 0 (b ∷ bs) (omega arith)

pub number_at_most : (text : List ℕ) (p i : ℕ) → number_at text p i ≤ no_number
unfolding number_at
number_at_most text p i = number_most (word_of text (past text p i))

-- ---- a token with a number or a name is there

number_byte : (w : List ℕ) → number_of w < no_number → 0 < length w
unfolding number_of
number_byte [] h = absurd (let q : ⊥ = omega arith in q)
number_byte (b ∷ bs) h = omega arith

name_byte : (w : List ℕ) → (name_of w ≡ 0 → ⊥) → 0 < length w
unfolding name_of alike
name_byte [] h = absurd (h refl)
name_byte (b ∷ bs) h = omega arith

pub number_there : (text : List ℕ) (p : ℕ) → number_of (word_of text p) < no_number → start_of text p < end_of text p
unfolding end_of
number_there text p h = let b = number_byte (word_of text p) h in omega arith

pub name_there : (text : List ℕ) (p : ℕ) → (name_of (word_of text p) ≡ 0 → ⊥) → start_of text p < end_of text p
unfolding end_of
name_there text p h = let b = name_byte (word_of text p) h in omega arith

pub number_start : (text : List ℕ) (p : ℕ) → number_of (word_of text p) < no_number → start_of text p < length text
number_start text p h = let t = number_there text p h in let e = end_in text p t in omega arith

pub name_start : (text : List ℕ) (p : ℕ) → (name_of (word_of text p) ≡ 0 → ⊥) → start_of text p < length text
name_start text p h = let t = name_there text p h in let e = end_in text p t in omega arith

-- ---- token i from p on, as `next` and `name` give it

pub token_number : (text : List ℕ) (p i : ℕ) → (token_at text (past text p i)).number ≡ number_at text p i
unfolding token_at number_at
token_number text p i = refl

pub token_start : (text : List ℕ) (p i : ℕ) → (token_at text (past text p i)).start ≡ place_at text p i
unfolding token_at place_at
token_start text p i = refl

pub token_end : (text : List ℕ) (p i : ℕ) → (token_at text (past text p i)).end ≡ past text p (suc i)
unfolding token_at past
token_end text p i = refl

pub name_token_number : (text : List ℕ) (p i : ℕ) → (name_token_at text (past text p i)).number ≡ name_at text p i
unfolding name_token_at name_at
name_token_number text p i = refl

pub name_token_start : (text : List ℕ) (p i : ℕ) → (name_token_at text (past text p i)).start ≡ place_at text p i
unfolding name_token_at place_at
name_token_start text p i = refl

pub name_token_end : (text : List ℕ) (p i : ℕ) → (name_token_at text (past text p i)).end ≡ past text p (suc i)
unfolding name_token_at past
name_token_end text p i = refl
