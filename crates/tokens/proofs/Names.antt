-- That no bytes of another length than 2, 3 or 4 spell a name, and which bytes of the text a token is. Lists of unequal lengths are never alike.
-- Assumes nothing.
use mathlib.Core.Path.{◌≡◌, refl, sym, ap, ◌∙◌}
use mathlib.Core.Bool.{Bool, true, false, cond, ◌&&◌, and-false}
use mathlib.Core.List.{List, [], ◌∷◌}
use Prim.Native.Nat.{ℕ, suc, ◌+◌, ◌-◌, ◌≤◌, ◌<◌}
use native.Mathlib.Omega.{arith}
use lib.Dec.{eqb}
use Rattle.std.specs.Cmp.Lexicographic.{pointwise}
use lib.ListN.{length, take, drop, length-drop}
use Rattle.tokens.specs.declared.Token.{Token}
use Rattle.tokens.specs.Tokens.{blank, front, start_of, word_of, end_of, alike, name_of, token_at, name_token_at}

-- ---- names by length

-- two lists are alike where `==` on slices says so
pub alike_is : (xs ys : List ℕ) → alike xs ys ≡ pointwise eqb xs ys
unfolding alike
alike_is [] [] = refl
alike_is [] (y ∷ ys) = refl
alike_is (x ∷ xs) [] = refl
alike_is (x ∷ xs) (y ∷ ys) = ap (λ (t : Bool). eqb x y && t) (alike_is xs ys)

unlike : (xs ys : List ℕ) → (length xs ≡ length ys → ⊥) → alike xs ys ≡ false
unfolding alike
unlike [] [] h = absurd (h refl)
unlike [] (y ∷ ys) h = refl
unlike (x ∷ xs) [] h = refl
unlike (x ∷ xs) (y ∷ ys) h = rw (unlike xs ys (λ e. h (ap suc e))) (and-false (eqb x y))

pub of_others : (w : List ℕ) → (length w ≡ 2 → ⊥) → (length w ≡ 3 → ⊥) → (length w ≡ 4 → ⊥) → name_of w ≡ 0
unfolding name_of
of_others w two three four =
    rw (
      unlike w (88 ∷ 79 ∷ 82 ∷ []) three,
      unlike w (65 ∷ 78 ∷ 68 ∷ []) three,
      unlike w (73 ∷ 78 ∷ 86 ∷ []) three,
      unlike w (69 ∷ 81 ∷ []) two,
      unlike w (69 ∷ 81 ∷ 87 ∷ []) three,
      unlike w (77 ∷ 65 ∷ 78 ∷ 68 ∷ []) four,
    )

-- ---- the bytes of a token

-- The front is no longer than the list, and has its bytes.
front-length_by : (t : Bool) (b : ℕ) (bs : List ℕ) → length (front bs) ≤ length bs → length (cond t [] (b ∷ front bs)) ≤ suc (length bs)
front-length_by true b bs h = omega arith
front-length_by false b bs h = omega arith

pub front_length : (l : List ℕ) → length (front l) ≤ length l
unfolding front
front_length [] = omega arith
front_length (b ∷ bs) = front-length_by (blank b) b bs (front_length bs)

front-take_by : (t : Bool) (b : ℕ) (bs : List ℕ) → front bs ≡ take (length (front bs)) bs → cond t [] (b ∷ front bs) ≡ take (length (cond t [] (b ∷ front bs))) (b ∷ bs)
front-take_by true b bs h = refl
front-take_by false b bs h = ap (λ (l : List ℕ). b ∷ l) h

front-take : (l : List ℕ) → front l ≡ take (length (front l)) l
unfolding front
front-take [] = refl
front-take (b ∷ bs) = front-take_by (blank b) b bs (front-take bs)

pub word_within : (text : List ℕ) (s : ℕ) → 0 < length (front (drop s text)) → s + length (front (drop s text)) ≤ length text
word_within text s h = let f = front_length (drop s text) in let d = length-drop s text in omega arith

pub word_part : (text : List ℕ) (s e : ℕ) → e ≡ s + length (front (drop s text)) → front (drop s text) ≡ take (e - s) (drop s text)
word_part text s e h = front-take (drop s text) ∙ ap (λ (n : ℕ). take n (drop s text)) (let z : length (front (drop s text)) ≡ e - s = omega arith in z)

-- ---- the name of a token that is found

module _ (text : List ℕ) (p : ℕ) (t : Token) (e : t ≡ token_at text p) where
  start_is : t.start ≡ start_of text p
  unfolding token_at
  start_is = ap (λ (u : Token). u.start) e

  end_is : t.end ≡ end_of text p
  unfolding token_at
  end_is = ap (λ (u : Token). u.end) e

  -- its bytes are those from its own place on
  from_start : word_of text p ≡ front (drop t.start text)
  unfolding word_of
  from_start = ap (λ (s : ℕ). front (drop s text)) (sym start_is)

  end_at : t.end ≡ t.start + length (front (drop t.start text))
  unfolding end_of
  end_at = end_is ∙ ap (λ (s : ℕ). s + length (word_of text p)) (sym start_is) ∙ ap (λ (w : List ℕ). t.start + length w) from_start

  pub ends_later : t.start ≤ t.end
  ends_later = let h = end_at in omega arith

  pub ends_within : (t.end ≡ t.start → ⊥) → t.end ≤ length text
  ends_within n =
      let h = end_at in
      let l = word_within text t.start (let z : 0 < length (front (drop t.start text)) = omega arith in z) in
      omega arith

  named : (n : ℕ) → n ≡ name_of (front (drop t.start text)) → ◌≡◌ {A = Token} (record { start = t.start; end = t.end; number = n }) (name_token_at text p)
  unfolding name_token_at
  named n h = let m = h ∙ ap name_of (sym from_start) in λ i. record { start = start_is i; end = end_is i; number = m i }

  pub named_none : t.end ≡ t.start → ◌≡◌ {A = Token} (record { start = t.start; end = t.end; number = 0 }) (name_token_at text p)
  named_none n =
      let h = end_at in
      named 0
      (sym (of_others (front (drop t.start text)) (λ z. omega (arith, z)) (λ z. omega (arith, z)) (λ z. omega (arith, z))))

  pub named_some : (n : ℕ) → n ≡ name_of (take (t.end - t.start) (drop t.start text)) → ◌≡◌ {A = Token} (record { start = t.start; end = t.end; number = n }) (name_token_at text p)
  named_some n h = named n (h ∙ ap name_of (sym (word_part text t.start t.end end_at)))
