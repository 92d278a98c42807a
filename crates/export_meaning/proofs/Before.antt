-- Reading a printed text token by token: what is still to be read from a place on, blanks before it passed over. One step reads a token and the blank behind it.
-- Assumes nothing.
use mathlib.Core.Path.{◌≡◌, refl, ap, ◌∙◌}
use mathlib.Core.Bool.{true}
use mathlib.Core.List.{List, [], ◌∷◌, ◌++◌}
use Prim.Native.Nat.{ℕ, ◌+◌, ◌<◌}
use native.Mathlib.Omega.{arith}
use lib.ListN.{length, drop, length-append}
use Rattle.tokens.specs.Tokens.{blank, blanks, front, start_of, word_of, end_of, no_number, number_of}
use Rattle.tokens.proofs.Printed.{Inked, Reads, stop_blank, read, skip, number_printed, number_inked}
use Rattle.report.specs.Decimal.{decimal}
use Rattle.report.proofs.Digits.{decimal_one, decimal_more}

-- from place p on the rest is to be read, its first token being the next
pub record Before (text : List ℕ) (p : ℕ) (rest : List ℕ) : Type 0 where
  pub place : ℕ
  pub same : start_of text p ≡ start_of text place
  pub left : drop place text ≡ rest
  pub inside : place + length rest ≡ length text

pub at_front : (text : List ℕ) → Before text 0 text
at_front text = record { place = 0; same = refl; left = refl; inside = omega arith }

-- a further blank is passed over
pub pass : (text : List ℕ) (p b : ℕ) (rest : List ℕ) → Before text p (b ∷ rest) → blank b ≡ true → Before text p rest
pass text p b rest h e =
    let s = skip text h.place b rest h.left e in
    let i = h.inside in
    record { place = h.place + 1; same = h.same ∙ s.0; left = s.1; inside = omega arith }

-- the next token, and what is left behind it and a blank
pub record Took (text : List ℕ) (p : ℕ) (w rest : List ℕ) : Type 0 where
  pub word : word_of text p ≡ w
  pub next : Before text (end_of text p) rest

pub take_word : (text : List ℕ) (p : ℕ) (w : List ℕ) (b : ℕ) (rest : List ℕ) → Inked w → blank b ≡ true → Before text p (w ++ (b ∷ rest)) → Took text p w rest
unfolding word_of end_of
take_word text p w b rest ink e h = record { word = word; next = next }
  where
    q : ℕ
    q = h.place

    r : Reads text q q w (b ∷ rest)
    r = read text q w (b ∷ rest) h.left ink (stop_blank b rest e)

    word : front (drop (start_of text p) text) ≡ w
    word = ap (λ (n : ℕ). front (drop n text)) h.same ∙ r.word

    end : start_of text p + length (front (drop (start_of text p) text)) ≡ q + length w
    end = ap (λ (n : ℕ). n + length (front (drop n text))) h.same ∙ r.end

    next : Before text (start_of text p + length (front (drop (start_of text p) text))) rest
    next =
        let s = skip text (q + length w) b rest r.left e in
        let l = length-append w (b ∷ rest) in
        let i = h.inside in
        record { place = q + length w + 1; same = ap (start_of text) end ∙ s.0; left = s.1; inside = omega arith }

pub record TookNumber (text : List ℕ) (p n : ℕ) (rest : List ℕ) : Type 0 where
  pub number : number_of (word_of text p) ≡ n
  pub next : Before text (end_of text p) rest

pub take_number : (text : List ℕ) (p n b : ℕ) (rest : List ℕ) → n < no_number → blank b ≡ true → Before text p (decimal n ++ (b ∷ rest)) → TookNumber text p n rest
take_number text p n b rest l e h =
    let t = take_word text p (decimal n) b rest (number_inked decimal decimal_one decimal_more n) e h in
    record { number = ap number_of t.word ∙ number_printed decimal decimal_one decimal_more n l; next = t.next }

-- nothing is left
pub at_end : (text : List ℕ) (p : ℕ) → Before text p [] → start_of text p ≡ length text
unfolding start_of blanks
at_end text p h = let i = h.inside in let z = ap blanks h.left in h.same ∙ (let q : h.place + blanks (drop h.place text) ≡ length text = omega arith in q)
