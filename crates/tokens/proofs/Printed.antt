-- Reading back what was printed: bytes without a blank that stand before a blank or the end are one token, blanks before it are passed over, and decimal digits
-- have the number that they were printed for. Inductions on the bytes and on the number of digits.
-- Assumes nothing.
use mathlib.Core.Path.{◌≡◌, refl, sym, ap, ◌∙◌}
use mathlib.Core.Bool.{Bool, true, false, cond}
use mathlib.Core.List.{List, [], ◌∷◌, ◌++◌, append-nil}
use mathlib.Core.Logic.{◌⊎◌, inl, inr, ⊎_elim}
use Prim.Native.Nat.{ℕ, zero, suc, ◌+◌, ◌*◌, ◌-◌, ◌/◌, ◌%◌, ◌≤◌, ◌<◌}
use native.Mathlib.Omega.{arith}
use borrow.Author.Tests.{ltb-true, ltb-false, ne_eqb}
use lib.Dec.{ltb, lit<}
use lib.ListN.{length, drop, length-append}
use lib.Seq.{drop-append_seam, drop-drop}
use Rattle.tokens.specs.Tokens.{blank, blanks, front, start_of, word_of, end_of, no_number, with_digit, value_from, number_of}
use Rattle.tokens.proofs.Steps.{digit_in, front-cons, front-blank, blanks-cons, blanks_none}

-- ---- bytes that can stand as a token

-- At least one byte, and no blank among them: the bytes before the first blank are all.
pub record Inked (w : List ℕ) : Type 0 where
  pub some : 0 < length w
  pub all : front w ≡ w

pub inked_one : (b : ℕ) → blank b ≡ false → Inked (b ∷ [])
unfolding front
inked_one b e = record { some = lit< tt; all = front-cons b [] e }

-- the first of bytes that are all before a blank is none, and so are the others
first_ink : (b : ℕ) (bs : List ℕ) → front (b ∷ bs) ≡ b ∷ bs → blank b ≡ false
unfolding front
first_ink b bs h = go (blank b) h
  where
    go : (t : Bool) → cond t [] (b ∷ front bs) ≡ b ∷ bs → t ≡ false
    go true e = absurd (let z : 0 ≡ suc (length bs) = ap length e in let q : ⊥ = omega arith in q)
    go false e = refl

others_ink : (b : ℕ) (bs : List ℕ) → front (b ∷ bs) ≡ b ∷ bs → front bs ≡ bs
others_ink b bs h = let e = sym (front-cons b bs (first_ink b bs h)) ∙ h in ap (drop 1) e

front-append : (w rest : List ℕ) → front w ≡ w → front (w ++ rest) ≡ w ++ front rest
front-append [] rest h = refl
front-append (b ∷ bs) rest h = front-cons b (bs ++ rest) (first_ink b bs h) ∙ ap (λ (l : List ℕ). b ∷ l) (front-append bs rest (others_ink b bs h))

pub inked_append : (w x : List ℕ) → Inked w → Inked x → Inked (w ++ x)
inked_append w x h k =
    record {
      some = let l = length-append w x in let s = h.some in omega arith;
      all = front-append w x h.all ∙ ap (λ (l : List ℕ). w ++ l) k.all;
    }

-- what a token ends at: a blank, or the end of the text
pub stop_blank : (b : ℕ) (rest : List ℕ) → blank b ≡ true → front (b ∷ rest) ≡ []
stop_blank b rest e = front-blank b rest e

pub stop_none : front [] ≡ []
unfolding front
stop_none = refl

-- ---- the next token from place p on, by what is left of the text there

-- It begins at s and has the bytes w, and behind it the rest is left.
pub record Reads (text : List ℕ) (p s : ℕ) (w rest : List ℕ) : Type 0 where
  pub start : start_of text p ≡ s
  pub word : word_of text p ≡ w
  pub end : end_of text p ≡ s + length w
  pub left : drop (s + length w) text ≡ rest

no_blanks : (w rest : List ℕ) → Inked w → blanks (w ++ rest) ≡ 0
no_blanks [] rest h = absurd (let s = h.some in let q : ⊥ = omega arith in q)
no_blanks (b ∷ bs) rest h = blanks_none b (bs ++ rest) (first_ink b bs h.all)

-- from its place on, whatever blanks were passed before
from_place : (text : List ℕ) (p s : ℕ) (w rest : List ℕ) → start_of text p ≡ s → drop s text ≡ w ++ rest → Inked w → front rest ≡ [] → Reads text p s w rest
unfolding word_of end_of
from_place text p s w rest hs d h e = record { start = hs; word = bytes; end = ends; left = behind }
  where
    bytes : front (drop (start_of text p) text) ≡ w
    bytes = ap (λ (n : ℕ). front (drop n text)) hs ∙ ap front d ∙ front-append w rest h.all ∙ ap (λ (l : List ℕ). w ++ l) e ∙ append-nil w

    ends : start_of text p + length (front (drop (start_of text p) text)) ≡ s + length w
    ends = let l = ap length bytes in omega arith

    behind : drop (s + length w) text ≡ rest
    behind = sym (drop-drop (length w) s text) ∙ ap (drop (length w)) d ∙ drop-append_seam w rest

pub read : (text : List ℕ) (p : ℕ) (w rest : List ℕ) → drop p text ≡ w ++ rest → Inked w → front rest ≡ [] → Reads text p p w rest
unfolding start_of
read text p w rest d h e = from_place text p p w rest (let z = ap blanks d ∙ no_blanks w rest h in omega arith) d h e

-- a blank is passed over
pub skip : (text : List ℕ) (p b : ℕ) (rest : List ℕ) → drop p text ≡ b ∷ rest → blank b ≡ true → (start_of text p ≡ start_of text (p + 1)) × (drop (p + 1) text ≡ rest)
unfolding start_of
skip text p b rest d e =
    let f : drop (p + 1) text ≡ rest = sym (drop-drop 1 p text) ∙ ap (drop 1) d in
    let z = ap blanks d ∙ blanks-cons b rest e in
    let y = ap blanks f in
    (omega arith, f)

-- and what follows it is read as from the next place on
pub read_behind : (text : List ℕ) (p b s : ℕ) (w rest more : List ℕ) → drop p text ≡ b ∷ more → blank b ≡ true → Reads text (p + 1) s w rest → Reads text p s w rest
unfolding word_of end_of
read_behind text p b s w rest more d e r =
    let z = (skip text p b more d e).0 in
    record {
      start = z ∙ r.start;
      word = ap (λ (n : ℕ). front (drop n text)) z ∙ r.word;
      end = ap (λ (n : ℕ). n + length (front (drop n text))) z ∙ r.end;
      left = r.left;
    }

pub read_after : (text : List ℕ) (p b : ℕ) (w rest : List ℕ) → drop p text ≡ b ∷ (w ++ rest) → blank b ≡ true → Inked w → front rest ≡ [] → Reads text p (p + 1) w rest
read_after text p b w rest d e h n = read_behind text p b (p + 1) w rest (w ++ rest) d e (read text (p + 1) w rest (skip text p b (w ++ rest) d e).1 h n)

-- ---- the same in a text whose bytes before the place are known

module _ (pre w rest : List ℕ) (h : Inked w) (e : front rest ≡ []) where
  pub printed : Reads (pre ++ (w ++ rest)) (length pre) (length pre) w rest
  printed = read (pre ++ (w ++ rest)) (length pre) w rest (drop-append_seam pre (w ++ rest)) h e

  pub printed_start : start_of (pre ++ (w ++ rest)) (length pre) ≡ length pre
  printed_start = printed.start

  pub printed_word : word_of (pre ++ (w ++ rest)) (length pre) ≡ w
  printed_word = printed.word

  pub printed_end : end_of (pre ++ (w ++ rest)) (length pre) ≡ length pre + length w
  printed_end = printed.end

pub printed_skip : (pre : List ℕ) (b : ℕ) (more : List ℕ) → blank b ≡ true → start_of (pre ++ (b ∷ more)) (length pre) ≡ start_of (pre ++ (b ∷ more)) (length pre + 1)
printed_skip pre b more e = (skip (pre ++ (b ∷ more)) (length pre) b more (drop-append_seam pre (b ∷ more)) e).0

-- ---- numbers

value_append : (v : ℕ) (a b : List ℕ) → value_from v (a ++ b) ≡ value_from (value_from v a) b
unfolding value_from
value_append v [] b = refl
value_append v (x ∷ a) b = value_append (with_digit v x) a b

-- one digit, and one digit more
pub number_digit : (d : ℕ) → d < 10 → number_of ((48 + d) ∷ []) ≡ d
unfolding number_of value_from
number_digit d h = digit_in 0 (48 + d) (omega arith) (omega arith) (omega arith) ∙ (let z : 10 * 0 + (48 + d - 48) ≡ d = omega arith in z)

pub number_snoc : (ds : List ℕ) (d : ℕ) → d < 10 → number_of ds < no_number → 10 * number_of ds + d < no_number → number_of (ds ++ ((48 + d) ∷ [])) ≡ 10 * number_of ds + d
unfolding number_of value_from
number_snoc [] d h n m = absurd (let q : ⊥ = omega arith in q)
number_snoc (x ∷ ds) d h n m =
    let v = value_from 0 (x ∷ ds) in
    value_append 0 (x ∷ ds) ((48 + d) ∷ []) ∙ digit_in v (48 + d) (omega arith) (omega arith) (omega arith) ∙ (let z : 10 * v + (48 + d - 48) ≡ 10 * v + d = omega arith in z)

-- a digit is no blank
digit_ink : (d : ℕ) → blank (48 + d) ≡ false
unfolding blank
digit_ink d = rw (ne_eqb (48 + d) 32 (λ e. omega (arith, e)), ne_eqb (48 + d) 9 (λ e. omega (arith, e)), ne_eqb (48 + d) 10 (λ e. omega (arith, e)), ne_eqb (48 + d) 13 (λ e. omega (arith, e)))

-- Any way of printing numbers that prints a digit as itself, and behind the digits of the quotient by ten that of the remainder: it is read back.
module _ (f : ℕ → List ℕ) (one : (n : ℕ) → n < 10 → f n ≡ (48 + n) ∷ []) (more : (n : ℕ) → 10 ≤ n → f n ≡ f (n / 10) ++ ((48 + n % 10) ∷ [])) where
  lt_or_ge : (n : ℕ) → (n < 10) ⊎ (10 ≤ n)
  lt_or_ge n = go (ltb n 10) refl
    where
      go : (t : Bool) → ltb n 10 ≡ t → (n < 10) ⊎ (10 ≤ n)
      go true e = inl (ltb-true n 10 e)
      go false e = inr (ltb-false n 10 e)

  number_by : (k n : ℕ) → n ≤ k → n < no_number → number_of (f n) ≡ n
  number_by zero n h l = ap number_of (one n (omega arith)) ∙ number_digit n (omega arith)
  number_by (suc k) n h l =
      ⊎_elim
      (λ (s : n < 10). ap number_of (one n s) ∙ number_digit n s)
      (λ (s : 10 ≤ n).
      let e = number_by k (n / 10) (omega arith) (omega arith) in
      ap number_of (more n s) ∙ number_snoc (f (n / 10)) (n % 10) (omega arith) (omega arith) (omega arith) ∙ (let z : 10 * number_of (f (n / 10)) + n % 10 ≡ n = omega arith in z))
      (lt_or_ge n)

  pub number_printed : (n : ℕ) → n < no_number → number_of (f n) ≡ n
  number_printed n l = number_by n n (omega arith) l

  inked_by : (k n : ℕ) → n ≤ k → Inked (f n)
  inked_by zero n h = rw (one n (omega arith)) (inked_one (48 + n) (digit_ink n))
  inked_by (suc k) n h =
      ⊎_elim
      (λ (s : n < 10). rw (one n s) (inked_one (48 + n) (digit_ink n)))
      (λ (s : 10 ≤ n). rw (more n s) (inked_append (f (n / 10)) ((48 + n % 10) ∷ []) (inked_by k (n / 10) (omega arith)) (inked_one (48 + n % 10) (digit_ink (n % 10)))))
      (lt_or_ge n)

  pub number_inked : (n : ℕ) → Inked (f n)
  number_inked n = inked_by n n (omega arith)

-- ---- names

pub xor_inked : Inked (88 ∷ 79 ∷ 82 ∷ [])
unfolding front blank
xor_inked = record { some = lit< tt; all = refl }

pub and_inked : Inked (65 ∷ 78 ∷ 68 ∷ [])
unfolding front blank
and_inked = record { some = lit< tt; all = refl }

pub inv_inked : Inked (73 ∷ 78 ∷ 86 ∷ [])
unfolding front blank
inv_inked = record { some = lit< tt; all = refl }

pub eq_inked : Inked (69 ∷ 81 ∷ [])
unfolding front blank
eq_inked = record { some = lit< tt; all = refl }

pub eqw_inked : Inked (69 ∷ 81 ∷ 87 ∷ [])
unfolding front blank
eqw_inked = record { some = lit< tt; all = refl }
