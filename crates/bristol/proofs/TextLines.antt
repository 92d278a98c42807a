-- A gate of a text, token by token: each token is where the one before it ends.
-- Assumes nothing.
use mathlib.Core.Path.{◌≡◌, refl, ap, ap₂, ◌∙◌}
use mathlib.Core.List.{List}
use Prim.Native.Nat.{ℕ, suc}
use Rattle.tokens.specs.declared.Token.{Token}
use Rattle.tokens.specs.Tokens.{word_of, end_of, past, number_of, name_of, token_at, name_token_at, number_at, name_at}
use Rattle.bristol_form.specs.Says.{gate_at, operands_place, results_place, name_place, operand, result, gate_name}
use Rattle.bristol.specs.declared.Line.{Line}
use Rattle.bristol.specs.Private.{line_at}
use Rattle.bristol.proofs.TextGates.{named, reads, sets}

module _ (text : List ℕ) where
  -- after one token, and after two
  pub past_one : (p : ℕ) (t : Token) → t ≡ token_at text p → t.end ≡ past text p 1
  unfolding token_at past
  past_one p t d = ap (λ (x : Token). x.end) d

  pub past_two : (p : ℕ) (t u : Token) → t ≡ token_at text p → u ≡ token_at text t.end → u.end ≡ past text p 2
  unfolding token_at past
  past_two p t u d e = ap (λ (x : Token). x.end) e ∙ ap (end_of text) (past_one p t d)

  token_number : (p q : ℕ) (t : Token) → t ≡ token_at text p → p ≡ q → t.number ≡ number_of (word_of text q)
  unfolding token_at
  token_number p q t d e = ap (λ (x : Token). x.number) d ∙ ap (λ (x : ℕ). number_of (word_of text x)) e

  name_number : (p q : ℕ) (t : Token) → t ≡ name_token_at text p → p ≡ q → t.number ≡ name_of (word_of text q)
  unfolding name_token_at
  name_number p q t d e = ap (λ (x : Token). x.number) d ∙ ap (λ (x : ℕ). name_of (word_of text x)) e

  name_end : (p q : ℕ) (t : Token) → t ≡ name_token_at text p → p ≡ q → t.end ≡ past text q 1
  unfolding name_token_at past
  name_end p q t d e = ap (λ (x : Token). x.end) d ∙ ap (end_of text) e

  -- the counts, the first two operands, the first result and the name, each read where it is
  pub line_is : (p results named : ℕ) (k r a b c n : Token)
      → k ≡ token_at text p → r ≡ token_at text k.end → a ≡ token_at text r.end → b ≡ token_at text a.end
      → results ≡ past text r.end k.number → c ≡ token_at text results → named ≡ past text results r.number → n ≡ name_token_at text named
      → ◌≡◌ {A = Line} (record { first = a.number; second = b.number; result = c.number; name = n.number; at = n.end }) (line_at text p)
  unfolding line_at past operands_place results_place name_place number_at name_at
  line_is p results named k r a b c n dk dr da db hr dc hn dn =
      let operands : r.end ≡ operands_place text p = past_two p k r dk dr in
      let after_operands : results ≡ results_place text p = hr ∙ ap₂ (past text) operands (token_number p p k dk refl) in
      let after_results : named ≡ name_place text p = hn ∙ ap₂ (past text) after_operands (token_number k.end (past text p 1) r dr (past_one p k dk)) in
      let first : a.number ≡ operand text p 0 = token_number r.end (operands_place text p) a da operands in
      let second : b.number ≡ operand text p 1 = token_number a.end (past text (operands_place text p) 1) b db (past_one r.end a da ∙ ap (λ (q : ℕ). past text q 1) operands) in
      let set : c.number ≡ result text p 0 = token_number results (results_place text p) c dc after_operands in
      let name : n.number ≡ gate_name text p = name_number named (name_place text p) n dn after_results in
      let end : n.end ≡ past text (name_place text p) 1 = name_end named (name_place text p) n dn after_results in
      λ i. record { first = first i; second = second i; result = set i; name = name i; at = end i }

-- ---- what a gate says, by the gate's line

module _ (text : List ℕ) (j : ℕ) (g : Line) (e : g ≡ line_at text (gate_at text j)) where
  pub name_is : g.name ≡ named text j
  unfolding line_at
  name_is = ap (λ (x : Line). x.name) e

  pub first_is : g.first ≡ reads text j 0
  unfolding line_at
  first_is = ap (λ (x : Line). x.first) e

  pub second_is : g.second ≡ reads text j 1
  unfolding line_at
  second_is = ap (λ (x : Line). x.second) e

  pub result_is : g.result ≡ sets text j
  unfolding line_at
  result_is = ap (λ (x : Line). x.result) e

  pub next_is : g.at ≡ gate_at text (suc j)
  unfolding line_at gate_at
  next_is = ap (λ (x : Line). x.at) e
