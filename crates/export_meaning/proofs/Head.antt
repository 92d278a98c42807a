-- The head of a printed text is read as it was printed: six numbers, one after the other.
-- Assumes nothing.
use mathlib.Core.Path.{◌≡◌, sym, ap, subst, ◌∙◌}
use mathlib.Core.List.{List, ◌∷◌, ◌++◌}
use Prim.Native.Nat.{ℕ, ◌+◌, ◌<◌}
use native.Mathlib.Omega.{arith}
use lib.Dec.{lit<}
use Rattle.ring.specs.Sums.{sum_to}
use Rattle.tokens.specs.Tokens.{word_of, end_of, past, number_at, no_number, number_of}
use Rattle.bristol_form.specs.Says.{gates, wires, input_values, sizes_to, input_sizes, inputs, output_values, output_sizes, outputs, body}
use Rattle.report.specs.Decimal.{decimal}
use Rattle.export_meaning.proofs.Before.{Before, pass, take_number}
use Rattle.export_meaning.proofs.Line.{space_blank, line_blank}

pub record HeadSaid (text : List ℕ) (g w i o : ℕ) (rest : List ℕ) : Type 0 where
  pub gates_are : gates text ≡ g
  pub wires_are : wires text ≡ w
  pub one_input : input_values text ≡ 1
  pub inputs_are : inputs text ≡ i
  pub one_output : output_values text ≡ 1
  pub outputs_are : outputs text ≡ o
  pub printed : Before text (body text) rest

pub head_said : (text : List ℕ) (g w i o : ℕ) (rest : List ℕ) → g < no_number → w < no_number → i < no_number → o < no_number
    → Before text 0 (decimal g ++ (32 ∷ (decimal w ++ (10 ∷ (decimal 1 ++ (32 ∷ (decimal i ++ (10 ∷ (decimal 1 ++ (32 ∷ (decimal o ++ (10 ∷ (10 ∷ rest)))))))))))))
    → HeadSaid text g w i o rest
unfolding number_at past sizes_to sum_to input_sizes inputs output_values output_sizes outputs body
head_said text g w i o rest hg hw hi ho h =
    let t1 = take_number text 0 g 32 _ hg space_blank h in
    let p1 = end_of text 0 in
    let t2 = take_number text p1 w 10 _ hw line_blank t1.next in
    let p2 = end_of text p1 in
    let t3 = take_number text p2 1 32 _ (lit< tt) space_blank t2.next in
    let p3 = end_of text p2 in
    let t4 = take_number text p3 i 10 _ hi line_blank t3.next in
    let p4 = end_of text p3 in
    let t5 = take_number text p4 1 32 _ (lit< tt) space_blank t4.next in
    let p5 = end_of text p4 in
    let t6 = take_number text p5 o 10 _ ho line_blank t5.next in
    let n = number_of (word_of text p2) in
    let e : n ≡ 1 = t3.number in
    let f : number_of (word_of text (past text p3 n)) ≡ 1 = ap (λ (k : ℕ). number_of (word_of text (past text p3 k))) e ∙ t5.number in
    let q : end_of text (past text p3 n) ≡ p5 = ap (λ (k : ℕ). end_of text (past text p3 k)) e in
    record {
      gates_are = t1.number;
      wires_are = t2.number;
      one_input = e;
      inputs_are = ap (λ (k : ℕ). sum_to k (λ x. number_of (word_of text (past text p3 x)))) e ∙ (let z = t4.number in let y : 0 + number_of (word_of text p3) ≡ i = omega arith in y);
      one_output = f;
      outputs_are =
          ap (λ (k : ℕ). sum_to k (λ x. number_of (word_of text (past text (end_of text (past text p3 n)) x)))) f
          ∙ ap (λ (r : ℕ). 0 + number_of (word_of text r)) q
          ∙ (let z = t6.number in let y : 0 + number_of (word_of text p5) ≡ o = omega arith in y);
      printed =
          pass text _ 10 rest
          (subst (λ (r : ℕ). Before text r (10 ∷ rest)) (sym (ap (past text (end_of text (past text p3 n))) f ∙ ap (λ (r : ℕ). end_of text r) q)) t6.next) line_blank;
    }
