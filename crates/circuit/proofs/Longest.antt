-- No circuit is longer than `longest`, so the bytes past one more change no answer: the head is read from the first 11 bytes, and where its counts are in
-- range the length that they ask for is none that a longer input has, cut or not.
-- Assumes nothing.
use mathlib.Core.Path.{◌≡◌, refl, sym, ap, ◌∙◌}
use mathlib.Core.Logic.{⊎_elim}
use mathlib.Core.Bool.{Bool, true, false}
use mathlib.Core.List.{List}
use Prim.Native.Nat.{ℕ, ◌+◌, ◌*◌, ◌≤◌, ◌<◌}
use native.Mathlib.Omega.{arith}
use borrow.Author.Tests.{leb-true, le-leb, ne_eqb}
use lib.Dec.{leb, eqb}
use lib.ListN.{length, take}
use lib.Seq.{length-take-le, take_all, get_or-take}
use Rattle.ring.specs.Word.{at}
use Rattle.params.specs.Refusal.{Answer}
use Rattle.params.specs.Refusal.{answer}
use Rattle.circuit.specs.Form.{field_at, version, inputs, gates, outputs, output_place, longest, answer_of, head_fields}
use Rattle.circuit.specs.Private.{check_at, head_answer}
use Rattle.circuit.specs.Valid.{Head}
use Rattle.circuit.proofs.Accept.{lt_or_ge, head_good, accepted}

pub not_longer : (bs : List ℕ) → Head bs → length bs ≤ longest
not_longer bs h = let g = h.gates_to in let o = h.outputs_to in let w = h.whole in omega arith

-- ---- an input that is longer is refused by its head

module _ (bs : List ℕ) (h : longest < length bs) where
  head_refused : (head_answer bs).number ≡ 0 → ⊥
  head_refused e = let l = not_longer bs (head_good bs e) in omega arith

  by_head : answer_of bs ≡ head_answer bs
  unfolding answer_of
  by_head = rw (ne_eqb (head_answer bs).number 0 head_refused)

-- the checks of the counts, the test of the length being given
abbrev counts : ℕ → ℕ → ℕ → Bool → Answer
counts i g o t = check_at (leb i 256) 8 5 (check_at (leb g 1024) 8 7 (check_at (leb 1 o) 8 9 (check_at (leb o 64) 8 9 (check_at t 8 11 (answer 0)))))

-- the test of the length matters only where gates and outputs are in range
counts_alike : (i g o : ℕ) (t u : Bool) → (g ≤ 1024 → o ≤ 64 → t ≡ u) → counts i g o t ≡ counts i g o u
counts_alike i g o t u h = go (leb g 1024) refl (leb o 64) refl
  where
    go : (x : Bool) → leb g 1024 ≡ x → (y : Bool) → leb o 64 ≡ y → counts i g o t ≡ counts i g o u
    go true e true f = ap (counts i g o) (h (leb-true g 1024 e) (leb-true o 64 f))
    go true e false f = rw (f)
    go false e y f = rw (e)

-- the head, its fields and the test of the length being given
abbrev fields : ℕ → ℕ → ℕ → ℕ → Answer → Answer
fields e g l v rest = check_at (eqb e 69) 6 0 (check_at (eqb g 71) 6 0 (check_at (eqb l 76) 6 0 (check_at (eqb v 1) 7 3 rest)))

-- past the longest length the test fails
not_whole : (n g o : ℕ) → longest < n → g ≤ 1024 → o ≤ 64 → eqb n (11 + 8 * g + 2 * o) ≡ false
not_whole n g o h a b = ne_eqb n _ (λ e. let q : ⊥ = omega arith in q)

-- the head of an input that has one
abbrev headed : List ℕ → Bool → Answer
headed bs t = fields (at bs 0) (at bs 1) (at bs 2) (version bs) (counts (inputs bs) (gates bs) (outputs bs) t)

has_head : (bs : List ℕ) → 11 ≤ length bs → head_answer bs ≡ headed bs (eqb (length bs) (output_place bs (outputs bs)))
unfolding head_fields
has_head bs h = rw (le-leb 11 (length bs) h)

long_head : (bs : List ℕ) → longest < length bs → head_answer bs ≡ headed bs false
long_head bs h =
    has_head bs (omega arith)
    ∙ ap (fields (at bs 0) (at bs 1) (at bs 2) (version bs)) (counts_alike (inputs bs) (gates bs) (outputs bs) (eqb (length bs) (output_place bs (outputs bs))) false (not_whole (length bs) (gates bs) (outputs bs) h))

-- ---- what is past the longest length is not needed

module _ (bs : List ℕ) (n : ℕ) (h : longest < n) where
  at_front : (i : ℕ) → i < n → at (take n bs) i ≡ at bs i
  at_front i l = get_or-take n bs i 0 l

  field_front : (i : ℕ) → i + 1 < n → field_at (take n bs) i ≡ field_at bs i
  unfolding field_at
  field_front i l = rw (at_front i (omega arith), at_front (i + 1) l)

  headed_front : headed (take n bs) false ≡ headed bs false
  headed_front =
      rw (at_front 0 (omega arith), at_front 1 (omega arith), at_front 2 (omega arith), field_front 3 (omega arith), field_front 5 (omega arith), field_front 7 (omega arith), field_front 9 (omega arith))

  long_cut : n ≤ length bs → answer_of (take n bs) ≡ answer_of bs
  long_cut l =
      let k = length-take-le n bs l in
      let a : longest < length (take n bs) = omega arith in
      let b : longest < length bs = omega arith in
      by_head (take n bs) a
      ∙ long_head (take n bs) a
      ∙ headed_front
      ∙ sym (by_head bs b ∙ long_head bs b)

  -- the first n bytes are answered as all of them
  pub answer_cut : answer_of (take n bs) ≡ answer_of bs
  answer_cut = ⊎_elim (λ (l : length bs < n). ap answer_of (take_all n bs (omega arith))) long_cut (lt_or_ge (length bs) n)

  -- and what is accepted is all of them
  pub accepted_whole : (answer_of bs).number ≡ 0 → take n bs ≡ bs
  accepted_whole e = let l = not_longer bs (accepted bs e).head in take_all n bs (omega arith)
