-- Tokens read backwards are those that were read: behind a token that is there, the run of bytes that are no blanks is that token, and before its place stand only blanks
-- down to the end of the one before. Inductions on the bytes of the text's front.
-- Assumes nothing.
use mathlib.Core.Path.{◌≡◌, refl, sym, ap, ◌∙◌}
use mathlib.Core.Bool.{Bool, true, false, cond}
use mathlib.Core.List.{List, [], ◌∷◌}
use Prim.Native.Nat.{ℕ, zero, suc, ◌+◌, ◌-◌, ◌≤◌, ◌<◌}
use native.Mathlib.Omega.{arith}
use lib.ListN.{length, drop, get_or-eq_default}
use lib.Seq.{drop-drop, get_or-drop}
use Rattle.ring.specs.Word.{at}
use Rattle.tokens.specs.declared.Behind.{Behind}
use Rattle.tokens.specs.Tokens.{blank, blanks, front, start_of, word_of, end_of}
use Rattle.tokens.specs.Back.{back_start, back_end, back_of}

-- ---- a byte further back

-- past the text's end stands no blank
pub no_blank_over : (text : List ℕ) (i : ℕ) → length text ≤ i → blank (at text i) ≡ false
unfolding blank
no_blank_over text i h = rw (get_or-eq_default text 0 h)

byte_before : (text : List ℕ) (q : ℕ) → blank (at text q) ≡ blank (at text (suc q - 1))
byte_before text q = ap (λ (i : ℕ). blank (at text i)) (let z : q ≡ suc q - 1 = omega arith in z)

less_one : (f : ℕ → ℕ) (q : ℕ) → f q ≡ f (suc q - 1)
less_one f q = ap f (let z : q ≡ suc q - 1 = omega arith in z)

pub start_back_stop : (text : List ℕ) (p : ℕ) → 0 < p → blank (at text (p - 1)) ≡ true → back_start text p ≡ p
unfolding back_start
start_back_stop text zero l h = absurd (let q : ⊥ = omega arith in q)
start_back_stop text (suc q) l h = rw (byte_before text q ∙ h)

pub start_back_step : (text : List ℕ) (p : ℕ) → 0 < p → blank (at text (p - 1)) ≡ false → back_start text p ≡ back_start text (p - 1)
unfolding back_start
start_back_step text zero l h = absurd (let q : ⊥ = omega arith in q)
start_back_step text (suc q) l h = rw (byte_before text q ∙ h) (less_one (back_start text) q)

pub end_back_stop : (text : List ℕ) (p : ℕ) → 0 < p → blank (at text (p - 1)) ≡ false → back_end text p ≡ p
unfolding back_end
end_back_stop text zero l h = absurd (let q : ⊥ = omega arith in q)
end_back_stop text (suc q) l h = rw (byte_before text q ∙ h)

pub end_back_step : (text : List ℕ) (p : ℕ) → 0 < p → blank (at text (p - 1)) ≡ true → back_end text p ≡ back_end text (p - 1)
unfolding back_end
end_back_step text zero l h = absurd (let q : ⊥ = omega arith in q)
end_back_step text (suc q) l h = rw (byte_before text q ∙ h) (less_one (back_end text) q)

pub start_back_none : (text : List ℕ) (p : ℕ) → p ≤ 0 → back_start text p ≡ 0
unfolding back_start
start_back_none text zero h = refl
start_back_none text (suc q) h = absurd (let z : ⊥ = omega arith in z)

pub end_back_none : (text : List ℕ) (p : ℕ) → p ≤ 0 → back_end text p ≡ 0
unfolding back_end
end_back_none text zero h = refl
end_back_none text (suc q) h = absurd (let z : ⊥ = omega arith in z)

pub behind_made : (text : List ℕ) (e s b : ℕ) → s ≡ back_start text e → b ≡ back_end text s → ◌≡◌ {A = Behind} (record { start = s; before = b }) (back_of text e)
unfolding back_of
behind_made text e s b h k = λ i. record { start = h i; before = (k ∙ ap (back_end text) h) i }

-- ---- the end of a token

-- Before place q stands a byte that is no blank, and there no token goes on.
pub record Ended (text : List ℕ) (q : ℕ) : Type 0 where
  pub some : 0 < q
  pub ink : blank (at text (q - 1)) ≡ false
  pub stop : front (drop q text) ≡ []

-- What is passed over before a token are blanks; the first byte behind them is none.
passed_blanks : (l : List ℕ) (i : ℕ) → i < blanks l → blank (at l i) ≡ true
unfolding blanks
passed_blanks [] i h = absurd (let q : ⊥ = omega arith in q)
passed_blanks (b ∷ bs) i h = go (blank b) refl i h (passed_blanks bs)
  where
    go : (t : Bool) → blank b ≡ t → (i : ℕ) → i < cond t (suc (blanks bs)) 0 → ((n : ℕ) → n < blanks bs → blank (at bs n) ≡ true) → blank (at (b ∷ bs) i) ≡ true
    go true e zero h ih = e
    go true e (suc n) h ih = ih n (omega arith)
    go false e n h ih = absurd (let q : ⊥ = omega arith in q)

-- The bytes of a token are no blanks.
inked_bytes : (l : List ℕ) (i : ℕ) → i < length (front l) → blank (at l i) ≡ false
unfolding front
inked_bytes [] i h = absurd (let q : ⊥ = omega arith in q)
inked_bytes (b ∷ bs) i h = go (blank b) refl i h (inked_bytes bs)
  where
    go : (t : Bool) → blank b ≡ t → (i : ℕ) → i < length (cond t [] (b ∷ front bs)) → ((n : ℕ) → n < length (front bs) → blank (at bs n) ≡ false) → blank (at (b ∷ bs) i) ≡ false
    go true e n h ih = absurd (let q : ⊥ = omega arith in q)
    go false e zero h ih = e
    go false e (suc n) h ih = ih n (omega arith)

-- Behind them no token goes on.
front_ends : (l : List ℕ) → front (drop (length (front l)) l) ≡ []
unfolding front
front_ends [] = refl
front_ends (b ∷ bs) = go (blank b) refl (front_ends bs)
  where
    go : (t : Bool) → blank b ≡ t → front (drop (length (front bs)) bs) ≡ [] → front (drop (length (cond t [] (b ∷ front bs))) (b ∷ bs)) ≡ []
    go true e h = rw e
    go false e h = h

-- Behind the blanks stands none.
blanks_end : (l : List ℕ) → blanks (drop (blanks l) l) ≡ 0
unfolding blanks
blanks_end [] = refl
blanks_end (b ∷ bs) = go (blank b) refl (blanks_end bs)
  where
    go : (t : Bool) → blank b ≡ t → blanks (drop (blanks bs) bs) ≡ 0 → blanks (drop (cond t (suc (blanks bs)) 0) (b ∷ bs)) ≡ 0
    go true e h = h
    go false e h = rw e

module _ (text : List ℕ) (q : ℕ) where
  blanks_before : (i : ℕ) → q ≤ i → i < start_of text q → blank (at text i) ≡ true
  unfolding start_of
  blanks_before i l h = ap blank (sym (get_or-drop q text (i - q) 0 ∙ ap (at text) (let z : q + (i - q) ≡ i = omega arith in z))) ∙ passed_blanks (drop q text) (i - q) (omega arith)

  ink_within : (i : ℕ) → start_of text q ≤ i → i < end_of text q → blank (at text i) ≡ false
  unfolding end_of word_of
  ink_within i l h =
      let s = start_of text q in
      ap blank (sym (get_or-drop s text (i - s) 0 ∙ ap (at text) (let z : s + (i - s) ≡ i = omega arith in z))) ∙ inked_bytes (drop s text) (i - s) (omega arith)

  -- A token that is there ends.
  pub token_ends : start_of text q < end_of text q → Ended text (end_of text q)
  unfolding end_of word_of
  token_ends h =
      record {
        some = omega arith;
        ink = ink_within (end_of text q - 1) (omega arith) (omega arith);
        stop = ap front (sym (drop-drop (length (front (drop (start_of text q) text))) (start_of text q) text)) ∙ front_ends (drop (start_of text q) text);
      }

  -- Reading again from its first byte on.
  pub start_again : start_of text (start_of text q) ≡ start_of text q
  unfolding start_of
  start_again = let z = ap blanks (sym (drop-drop (blanks (drop q text)) q text)) ∙ blanks_end (drop q text) in omega arith

  pub word_again : word_of text (start_of text q) ≡ word_of text q
  unfolding word_of
  word_again = ap (λ (s : ℕ). front (drop s text)) start_again

  module _ (here : Ended text q) (there : start_of text q < end_of text q) where
    -- A blank at least stands between an end and the next token.
    gap : q < start_of text q
    unfolding start_of end_of word_of
    gap = go (blanks (drop q text)) refl
      where
        go : (n : ℕ) → blanks (drop q text) ≡ n → q < q + blanks (drop q text)
        go zero e = absurd (let z = ap length (ap (λ (s : ℕ). front (drop s text)) (let y : start_of text q ≡ q = omega arith in y) ∙ here.stop) in let y : ⊥ = omega arith in y)
        go (suc n) e = omega arith

    start_from : (n : ℕ) → start_of text q + n ≤ end_of text q → back_start text (start_of text q + n) ≡ start_of text q
    start_from zero h = ap (back_start text) (let z : start_of text q + 0 ≡ start_of text q = omega arith in z) ∙ start_back_stop text (start_of text q) (let g = gap in omega arith) (let g = gap in blanks_before (start_of text q - 1) (omega arith) (omega arith))
    start_from (suc n) h =
        start_back_step text (start_of text q + suc n) (omega arith) (ink_within (start_of text q + suc n - 1) (omega arith) (omega arith))
        ∙ ap (back_start text) (let z : start_of text q + suc n - 1 ≡ start_of text q + n = omega arith in z)
        ∙ start_from n (omega arith)

    pub start_back : back_start text (end_of text q) ≡ start_of text q
    start_back = ap (back_start text) (let z : end_of text q ≡ start_of text q + (end_of text q - start_of text q) = omega arith in z) ∙ start_from (end_of text q - start_of text q) (omega arith)

    end_from : (n : ℕ) → q + n ≤ start_of text q → back_end text (q + n) ≡ q
    end_from zero h = ap (back_end text) (let z : q + 0 ≡ q = omega arith in z) ∙ end_back_stop text q here.some here.ink
    end_from (suc n) h =
        end_back_step text (q + suc n) (omega arith) (blanks_before (q + suc n - 1) (omega arith) (omega arith))
        ∙ ap (back_end text) (let z : q + suc n - 1 ≡ q + n = omega arith in z)
        ∙ end_from n (omega arith)

    pub end_back : back_end text (start_of text q) ≡ q
    end_back = let g = gap in ap (back_end text) (let z : start_of text q ≡ q + (start_of text q - q) = omega arith in z) ∙ end_from (start_of text q - q) (omega arith)

    -- From its end back: its first byte's place, and the end before it.
    pub read_back : back_of text (end_of text q) ≡ record { start = start_of text q; before = q }
    read_back = sym (behind_made text (end_of text q) (start_of text q) q (sym start_back) (sym end_back))
