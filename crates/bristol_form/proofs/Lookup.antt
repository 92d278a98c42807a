-- What a search through a text finds: a test of places that turns true stays true, so a loop may stop there; and where the parts of a gate lie, token after token.
-- Assumes nothing.
use mathlib.Core.Path.{◌≡◌, refl, ap, ◌∙◌}
use mathlib.Core.Bool.{Bool, true, false, ◌||◌, or-true}
use mathlib.Core.List.{List}
use Prim.Native.Nat.{ℕ, zero, suc, ◌+◌, ◌-◌, ◌≤◌, ◌<◌}
use native.Mathlib.Numerals.{add-one}
use native.Mathlib.Omega.{arith}
use borrow.Author.Tests.{eq-eqb, ne_eqb, lt-ltb, le-ltb}
use lib.Dec.{eqb}
use Rattle.tokens.specs.declared.Token.{Token}
use Rattle.tokens.specs.Tokens.{past, number_at, token_at, no_number}
use Rattle.tokens.proofs.Laws.{past_more, number_at_most}
use Rattle.bristol_form.specs.Says.{inputs, body, among, set_by, is_set, gate_at, operand_count, result_count, operands_place, results_place, name_place}

-- ---- tests that collect

module _ (all each : ℕ → Bool) (step : (i : ℕ) → all (suc i) ≡ all i || each i) where
  stays_by : (i d n : ℕ) → n ≡ i + d → all i ≡ true → all n ≡ true
  stays_by i zero n e h = ap all (let q : n ≡ i = omega arith in q) ∙ h
  stays_by i (suc d) n e h =
      ap all (let q : n ≡ suc (i + d) = omega arith in q) ∙ step (i + d) ∙ ap (λ (t : Bool). t || each (i + d)) (stays_by i d (i + d) refl h)

  found : (i n : ℕ) → i < n → each i ≡ true → all n ≡ true
  found i n l h = stays_by (suc i) (n - suc i) n (omega arith) (step i ∙ ap (λ (t : Bool). all i || t) h ∙ or-true (all i))

  passed : (i : ℕ) → all i ≡ false → each i ≡ false → all (i + 1) ≡ false
  passed i h e = ap all (add-one i) ∙ step i ∙ ap (λ (t : Bool). t || each i) h ∙ e

module _ (text : List ℕ) (p w : ℕ) where
  pub among_step : (i : ℕ) → among text p (suc i) w ≡ among text p i w || eqb w (number_at text p i)
  unfolding among
  among_step i = refl

  pub among_none : among text p 0 w ≡ false
  unfolding among
  among_none = refl

  pub among_found : (i n : ℕ) → i < n → w ≡ number_at text p i → among text p n w ≡ true
  among_found i n l e = found (λ k. among text p k w) (λ k. eqb w (number_at text p k)) among_step i n l (eq-eqb w (number_at text p i) e)

  pub among_passed : (i : ℕ) → among text p i w ≡ false → (w ≡ number_at text p i → ⊥) → among text p (i + 1) w ≡ false
  among_passed i h d = passed (λ k. among text p k w) (λ k. eqb w (number_at text p k)) among_step i h (ne_eqb w (number_at text p i) d)

module _ (text : List ℕ) (w : ℕ) where
  abbrev sets : ℕ → Bool
  sets j = set_by text (gate_at text j) (result_count text (gate_at text j)) w

  pub set_step : (j : ℕ) → is_set text (suc j) w ≡ is_set text j w || sets j
  unfolding is_set
  set_step j = refl

  pub set_input : (n : ℕ) → w < inputs text → is_set text n w ≡ true
  unfolding is_set
  set_input n l = stays_by (λ k. is_set text k w) sets set_step 0 n n (omega arith) (lt-ltb w (inputs text) l)

  pub set_none : inputs text ≤ w → is_set text 0 w ≡ false
  unfolding is_set
  set_none l = le-ltb w (inputs text) l

  pub set_found : (j n : ℕ) → j < n → sets j ≡ true → is_set text n w ≡ true
  set_found j n l h = found (λ k. is_set text k w) sets set_step j n l h

  pub set_passed : (j : ℕ) → is_set text j w ≡ false → sets j ≡ false → is_set text (j + 1) w ≡ false
  set_passed j h e = passed (λ k. is_set text k w) sets set_step j h e

-- ---- the parts of the gate at p

module _ (text : List ℕ) (p at count q : ℕ) where
  pub past_operands : at ≡ operands_place text p → count ≡ operand_count text p → q ≡ past text at count → q ≡ results_place text p
  unfolding results_place
  past_operands A C Q = Q ∙ ap (λ (x : ℕ). past text x count) A ∙ ap (past text (operands_place text p)) C

  pub past_results : at ≡ results_place text p → count ≡ result_count text p → q ≡ past text at count → q ≡ name_place text p
  unfolding name_place
  past_results A C Q = Q ∙ ap (λ (x : ℕ). past text x count) A ∙ ap (past text (results_place text p)) C

module _ (text : List ℕ) (p : ℕ) (k r : Token) (K : k ≡ token_at text p) (R : r ≡ token_at text k.end) where
  pub operands_are : k.number ≡ operand_count text p
  unfolding token_at number_at past
  operands_are = ap (λ (t : Token). t.number) K

  second : r ≡ token_at text (token_at text p).end
  second = R ∙ ap (λ (t : Token). token_at text t.end) K

  pub results_are : r.number ≡ result_count text p
  unfolding token_at number_at past
  results_are = ap (λ (t : Token). t.number) second

  pub operands_at : r.end ≡ operands_place text p
  unfolding token_at past operands_place
  operands_at = ap (λ (t : Token). t.end) second

  module _ (q : ℕ) (Q : q ≡ past text r.end k.number) where
    pub results_at : q ≡ results_place text p
    results_at = past_operands text p r.end k.number q operands_at operands_are Q

    pub results_among : (w : ℕ) (f : Bool) → f ≡ among text q r.number w → f ≡ set_by text p (result_count text p) w
    results_among w f F = F ∙ ap (λ (x : ℕ). among text x r.number w) results_at ∙ ap (λ (n : ℕ). among text (results_place text p) n w) results_are

    pub next_at : (n : ℕ) → n ≡ past text q (r.number + 1) → n ≡ past text (name_place text p) 1
    next_at n N = N ∙ past_more text q r.number 1 ∙ ap (λ (x : ℕ). past text x 1) (past_results text p q r.number (past text q r.number) results_at results_are refl)

pub gate_first : (text : List ℕ) → gate_at text 0 ≡ body text
unfolding gate_at
gate_first text = refl

pub gate_after : (text : List ℕ) (j : ℕ) → gate_at text (suc j) ≡ past text (name_place text (gate_at text j)) 1
unfolding gate_at
gate_after text j = refl

pub gate_next : (text : List ℕ) (j : ℕ) → gate_at text (j + 1) ≡ past text (name_place text (gate_at text j)) 1
gate_next text j = ap (gate_at text) (add-one j) ∙ gate_after text j

-- a token's number has room for one more
pub token_small : (text : List ℕ) (p : ℕ) (t : Token) → t ≡ token_at text p → t.number ≤ no_number
unfolding token_at number_at past
token_small text p t e = let m = number_at_most text p 0 in let n = ap (λ (u : Token). u.number) e in omega arith
