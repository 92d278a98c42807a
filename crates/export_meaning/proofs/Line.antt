-- A printed line is read as the gate that it was printed for: six tokens or five, one after the other.
-- Assumes nothing.
use mathlib.Core.Path.{◌≡◌, refl, sym, ap, subst, ◌∙◌}
use mathlib.Core.Bool.{Bool, true, false, cond}
use mathlib.Core.List.{List, [], ◌∷◌, ◌++◌, append_assoc}
use Prim.Native.Nat.{ℕ, zero, suc, ◌≤◌, ◌<◌}
use native.Mathlib.Omega.{arith}
use lib.Dec.{ltb, lit<}
use Rattle.tokens.specs.Tokens.{blank, word_of, end_of, past, number_at, name_at, no_number, number_of, alike, name_of}
use Rattle.tokens.proofs.Printed.{Inked, xor_inked, and_inked, inv_inked, eq_inked, eqw_inked}
use Rattle.bristol_form.specs.Says.{operand_count, result_count, operands_place, results_place, name_place, operand, result, gate_name}
use Rattle.report.specs.Decimal.{decimal, decimal_to}
use Rattle.bristol_export.specs.Text.{ended, name_end, two_text, one_text, line_text}
use Rattle.export_meaning.proofs.Before.{Before, take_word, take_number}

pub space_blank : blank 32 ≡ true
unfolding blank
space_blank = refl

pub line_blank : blank 10 ≡ true
unfolding blank
line_blank = refl

-- how many operands a name has
abbrev pub operands_of : ℕ → ℕ
operands_of name = cond (ltb name 3) 2 1

-- ---- a name's end: a space, the name, LF

-- what the bytes of a name's end are
record Spells (name : ℕ) (end w : List ℕ) : Type 0 where
  pub bytes : end ≡ 32 ∷ (w ++ (10 ∷ []))
  pub inked : Inked w
  pub named : name_of w ≡ name

spelled : (name : ℕ) → 1 ≤ name → name ≤ 5 → (w : List ℕ) × Spells name (name_end name) w
unfolding name_end name_of alike
spelled zero a b = absurd (let q : ⊥ = omega arith in q)
spelled (suc zero) a b = (88 ∷ 79 ∷ 82 ∷ [], record { bytes = refl; inked = xor_inked; named = refl })
spelled (suc (suc zero)) a b = (65 ∷ 78 ∷ 68 ∷ [], record { bytes = refl; inked = and_inked; named = refl })
spelled (suc (suc (suc zero))) a b = (73 ∷ 78 ∷ 86 ∷ [], record { bytes = refl; inked = inv_inked; named = refl })
spelled (suc (suc (suc (suc zero)))) a b = (69 ∷ 81 ∷ [], record { bytes = refl; inked = eq_inked; named = refl })
spelled (suc (suc (suc (suc (suc zero))))) a b = (69 ∷ 81 ∷ 87 ∷ [], record { bytes = refl; inked = eqw_inked; named = refl })
spelled (suc (suc (suc (suc (suc (suc name)))))) a b = absurd (let q : ⊥ = omega arith in q)

-- ---- the texts, token by token

split_two : (x y n : ℕ) (w rest : List ℕ)
    → two_text x y n (32 ∷ (w ++ (10 ∷ []))) ++ rest ≡ decimal 2 ++ (32 ∷ (decimal 1 ++ (32 ∷ (decimal x ++ (32 ∷ (decimal y ++ (32 ∷ (decimal n ++ (32 ∷ (w ++ (10 ∷ rest)))))))))))
unfolding two_text ended decimal decimal_to
split_two x y n w rest = simp append_assoc

split_one : (x n : ℕ) (w rest : List ℕ) → one_text x n (32 ∷ (w ++ (10 ∷ []))) ++ rest ≡ decimal 1 ++ (32 ∷ (decimal 1 ++ (32 ∷ (decimal x ++ (32 ∷ (decimal n ++ (32 ∷ (w ++ (10 ∷ rest)))))))))
unfolding one_text ended decimal decimal_to
split_one x n w rest = simp append_assoc

-- ---- what is read of a line

pub record Said (text : List ℕ) (p k name x y n : ℕ) (rest : List ℕ) : Type 0 where
  pub counted : operand_count text p ≡ k
  pub one_result : result_count text p ≡ 1
  pub reads : operand text p 0 ≡ x
  pub reads_too : k ≡ 2 → operand text p 1 ≡ y
  pub sets : result text p 0 ≡ n
  pub named : gate_name text p ≡ name
  pub next : Before text (past text (name_place text p) 1) rest

module _ (text : List ℕ) (p name x y n : ℕ) (rest : List ℕ) (hx : x < no_number) (hy : y < no_number) (hn : n < no_number) where
  -- from the name on
  module _ (w : List ℕ) (s : Spells name (name_end name) w) where
    said_two : Before text p (decimal 2 ++ (32 ∷ (decimal 1 ++ (32 ∷ (decimal x ++ (32 ∷ (decimal y ++ (32 ∷ (decimal n ++ (32 ∷ (w ++ (10 ∷ rest)))))))))))) → Said text p 2 name x y n rest
    unfolding number_at name_at past operands_place results_place name_place
    said_two h =
        let t1 = take_number text p 2 32 _ (lit< tt) space_blank h in
        let p1 = end_of text p in
        let t2 = take_number text p1 1 32 _ (lit< tt) space_blank t1.next in
        let p2 = end_of text p1 in
        let t3 = take_number text p2 x 32 _ hx space_blank t2.next in
        let p3 = end_of text p2 in
        let t4 = take_number text p3 y 32 _ hy space_blank t3.next in
        let p4 = end_of text p3 in
        let t5 = take_number text p4 n 32 _ hn space_blank t4.next in
        let p5 = end_of text p4 in
        let t6 = take_word text p5 w 10 rest s.inked line_blank t5.next in
        let e : past text p2 (number_of (word_of text p)) ≡ p4 = ap (past text p2) t1.number in
        let f : past text (past text p2 (number_of (word_of text p))) (number_of (word_of text p1)) ≡ p5 = ap (λ (q : ℕ). past text q (number_of (word_of text p1))) e ∙ ap (past text p4) t2.number in
        record {
          counted = t1.number;
          one_result = t2.number;
          reads = t3.number;
          reads_too = λ z. t4.number;
          sets = ap (λ (q : ℕ). number_of (word_of text q)) e ∙ t5.number;
          named = ap (λ (q : ℕ). name_of (word_of text q)) f ∙ ap name_of t6.word ∙ s.named;
          next = subst (λ (q : ℕ). Before text (end_of text q) rest) (sym f) t6.next;
        }

    said_one : Before text p (decimal 1 ++ (32 ∷ (decimal 1 ++ (32 ∷ (decimal x ++ (32 ∷ (decimal n ++ (32 ∷ (w ++ (10 ∷ rest)))))))))) → Said text p 1 name x y n rest
    unfolding number_at name_at past operands_place results_place name_place
    said_one h =
        let t1 = take_number text p 1 32 _ (lit< tt) space_blank h in
        let p1 = end_of text p in
        let t2 = take_number text p1 1 32 _ (lit< tt) space_blank t1.next in
        let p2 = end_of text p1 in
        let t3 = take_number text p2 x 32 _ hx space_blank t2.next in
        let p3 = end_of text p2 in
        let t5 = take_number text p3 n 32 _ hn space_blank t3.next in
        let p4 = end_of text p3 in
        let t6 = take_word text p4 w 10 rest s.inked line_blank t5.next in
        let e : past text p2 (number_of (word_of text p)) ≡ p3 = ap (past text p2) t1.number in
        let f : past text (past text p2 (number_of (word_of text p))) (number_of (word_of text p1)) ≡ p4 = ap (λ (q : ℕ). past text q (number_of (word_of text p1))) e ∙ ap (past text p3) t2.number in
        record {
          counted = t1.number;
          one_result = t2.number;
          reads = t3.number;
          reads_too = λ z. absurd (let q : ⊥ = omega arith in q);
          sets = ap (λ (q : ℕ). number_of (word_of text q)) e ∙ t5.number;
          named = ap (λ (q : ℕ). name_of (word_of text q)) f ∙ ap name_of t6.word ∙ s.named;
          next = subst (λ (q : ℕ). Before text (end_of text q) rest) (sym f) t6.next;
        }

  pub said_line : 1 ≤ name → name ≤ 5 → Before text p (line_text name x y n ++ rest) → Said text p (operands_of name) name x y n rest
  unfolding line_text
  said_line a b h =
      let t = spelled name a b in
      let w = t.0 in
      let s = t.1 in
      go w s (ltb name 3) h
    where
      go : (w : List ℕ) → Spells name (name_end name) w → (two : Bool) → Before text p (cond two (two_text x y n (name_end name)) (one_text x n (name_end name)) ++ rest) → Said text p (cond two 2 1) name x y n rest
      go w s true h = said_two w s (subst (λ (l : List ℕ). Before text p l) (ap (λ (e : List ℕ). two_text x y n e ++ rest) s.bytes ∙ split_two x y n w rest) h)
      go w s false h = said_one w s (subst (λ (l : List ℕ). Before text p l) (ap (λ (e : List ℕ). one_text x n e ++ rest) s.bytes ∙ split_one x n w rest) h)
