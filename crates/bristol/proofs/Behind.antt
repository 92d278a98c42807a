-- The gates of a text that is not refused, read backwards, are those that it has: each of their tokens is there, for its number is below 2^32 or it has a name, and so is
-- the head's last; so each reads back from its end.
-- Assumes nothing.
use mathlib.Core.Path.{◌≡◌, refl, ap, ◌∙◌}
use mathlib.Core.Logic.{inl, inr, ⊎_elim}
use mathlib.Core.Bool.{true, false, ◌||◌}
use mathlib.Core.List.{List}
use Prim.Native.Nat.{ℕ, zero, suc, ◌≤◌, ◌<◌}
use native.Mathlib.Omega.{arith}
use lib.Dec.{eqb}
use Rattle.ring.specs.Sums.{sum_to}
use Rattle.tokens.specs.declared.Behind.{Behind}
use Rattle.tokens.specs.Tokens.{start_of, word_of, end_of, past, number_of, name_of, number_at, name_at, no_number, no_name, xor_name, and_name, eq_name, eqw_name}
use Rattle.tokens.specs.Back.{back_of}
use Rattle.tokens.proofs.Laws.{number_there, name_there}
use Rattle.tokens.proofs.ReadBack.{Ended, token_ends, read_back, word_again}
use Rattle.bristol_form.specs.Says.{gates, wires, sizes_to, input_sizes, input_values, output_values, output_sizes, outputs, body, gate_at, operand_count, result_count, operands_place, results_place, name_place, operand}
use Rattle.bristol_form.specs.Valid.{Fits, binary, unary, constant, many, InForm, InLimits}
use Rattle.bristol_form.proofs.LawsForm.{set_wire}
use Rattle.bristol.specs.declared.BehindLine.{BehindLine}
use Rattle.bristol.specs.Private.{behind_of}
use Rattle.bristol.proofs.TextGates.{named, reads, sets, Makes}

-- ---- five tokens or six, each read back from the end of the one behind it

abbrev behind : ℕ → ℕ → Behind
behind s q = record { start = s; before = q }

module _ (text : List ℕ) (e n c a r k : ℕ) (sn sc sa sr sk : ℕ) where
  five_back : back_of text e ≡ behind sn n → back_of text n ≡ behind sc c → back_of text c ≡ behind sa a → back_of text a ≡ behind sr r → back_of text r ≡ behind sk k
      → (eqb (name_of (word_of text sn)) xor_name || eqb (name_of (word_of text sn)) and_name) ≡ false
      → behind_of text e ≡ record { name = name_of (word_of text sn); result = number_of (word_of text sc); last = number_of (word_of text sa); at = k }
  unfolding behind_of
  five_back hn hc ha hr hk h = rw (hn, hc, ha, h, hr, hk)

  six_back : (b sb : ℕ) → back_of text e ≡ behind sn n → back_of text n ≡ behind sc c → back_of text c ≡ behind sb b → back_of text b ≡ behind sa a → back_of text a ≡ behind sr r → back_of text r ≡ behind sk k
      → (eqb (name_of (word_of text sn)) xor_name || eqb (name_of (word_of text sn)) and_name) ≡ true
      → behind_of text e ≡ record { name = name_of (word_of text sn); result = number_of (word_of text sc); last = number_of (word_of text sb); at = k }
  unfolding behind_of
  six_back b sb hn hc hb ha hr hk h = rw (hn, hc, hb, h, ha, hr, hk)

-- ---- a token that is there, read back from its end; and the end is one to read back to

There : List ℕ → ℕ → Type 0
There text q = start_of text q < end_of text q

turn : (text : List ℕ) (q e : ℕ) → e ≡ end_of text q → Ended text q → There text q → (back_of text e ≡ behind (start_of text q) q) × Ended text e
unfolding There
turn text q e h here there = (ap (back_of text) h ∙ read_back text q here there, rw h (token_ends text q there))

-- A gate of one operand: the places of its tokens, each the end of the one before.
module _ (text : List ℕ) (p r a c n e : ℕ) (hr : r ≡ end_of text p) (ha : a ≡ end_of text r) (hc : c ≡ end_of text a) (hn : n ≡ end_of text c) (he : e ≡ end_of text n)
    (here : Ended text p) (tp : There text p) (tr : There text r) (ta : There text a) (tc : There text c) (tn : There text n) where
  one_back : (eqb (name_of (word_of text n)) xor_name || eqb (name_of (word_of text n)) and_name) ≡ false
      → behind_of text e ≡ record { name = name_of (word_of text n); result = number_of (word_of text c); last = number_of (word_of text a); at = p }
  one_back h =
      let k1 = turn text p r hr here tp in
      let k2 = turn text r a ha k1.1 tr in
      let k3 = turn text a c hc k2.1 ta in
      let k4 = turn text c n hn k3.1 tc in
      let k5 = turn text n e he k4.1 tn in
      five_back text e n c a r p (start_of text n) (start_of text c) (start_of text a) (start_of text r) (start_of text p) k5.0 k4.0 k3.0 k2.0 k1.0
      (ap (λ (w : List ℕ). eqb (name_of w) xor_name || eqb (name_of w) and_name) (word_again text n) ∙ h)
      ∙ (λ i. record { name = name_of (word_again text n i); result = number_of (word_again text c i); last = number_of (word_again text a i); at = p })

-- A gate of two operands.
module _ (text : List ℕ) (p r a b c n e : ℕ) (hr : r ≡ end_of text p) (ha : a ≡ end_of text r) (hb : b ≡ end_of text a) (hc : c ≡ end_of text b) (hn : n ≡ end_of text c) (he : e ≡ end_of text n)
    (here : Ended text p) (tp : There text p) (tr : There text r) (ta : There text a) (tb : There text b) (tc : There text c) (tn : There text n) where
  two_back : (eqb (name_of (word_of text n)) xor_name || eqb (name_of (word_of text n)) and_name) ≡ true
      → behind_of text e ≡ record { name = name_of (word_of text n); result = number_of (word_of text c); last = number_of (word_of text b); at = p }
  two_back h =
      let k1 = turn text p r hr here tp in
      let k2 = turn text r a ha k1.1 tr in
      let k3 = turn text a b hb k2.1 ta in
      let k4 = turn text b c hc k3.1 tb in
      let k5 = turn text c n hn k4.1 tc in
      let k6 = turn text n e he k5.1 tn in
      six_back text e n c a r p (start_of text n) (start_of text c) (start_of text a) (start_of text r) (start_of text p) b (start_of text b) k6.0 k5.0 k4.0 k3.0 k2.0 k1.0
      (ap (λ (w : List ℕ). eqb (name_of w) xor_name || eqb (name_of w) and_name) (word_again text n) ∙ h)
      ∙ (λ i. record { name = name_of (word_again text n i); result = number_of (word_again text c i); last = number_of (word_again text b i); at = p })

-- ---- the head's end

body_ended : (text : List ℕ) → InForm text → Ended text (body text)
unfolding body output_sizes output_values outputs sizes_to past number_at sum_to
body_ended text form = go (output_values text) form.outputs_to
  where
    go : (n : ℕ) → sum_to n (number_at text (output_sizes text)) ≤ wires text → Ended text (past text (output_sizes text) n)
    go zero h = token_ends text (past text (input_sizes text) (input_values text)) (number_there text (past text (input_sizes text) (input_values text)) form.output_values_number)
    go (suc m) h =
        let q = past text (output_sizes text) m in
        let w = form.wires_number in
        token_ends text q (number_there text q (omega arith))

-- ---- a gate

-- What is read backwards of gate j: its name, its result, where it begins, and, of EQW, its operand.
pub record Goes (text : List ℕ) (j : ℕ) (g : BehindLine) : Type 0 where
  pub name_is : g.name ≡ named text j
  pub result_is : g.result ≡ sets text j
  pub last_is : named text j ≡ eqw_name → g.last ≡ reads text j 0
  pub at_is : g.at ≡ gate_at text j

goes_by : (text : List ℕ) (j last : ℕ) (g : BehindLine) → g ≡ record { name = named text j; result = sets text j; last = last; at = gate_at text j }
    → (named text j ≡ eqw_name → last ≡ reads text j 0) → Goes text j g
goes_by text j last g e h =
    record {
      name_is = ap (λ (l : BehindLine). l.name) e;
      result_is = ap (λ (l : BehindLine). l.result) e;
      last_is = λ n. ap (λ (l : BehindLine). l.last) e ∙ h n;
      at_is = ap (λ (l : BehindLine). l.at) e;
    }

-- where the results and the name of a gate of k operands and one result stand
results_at : (text : List ℕ) (p k : ℕ) → operand_count text p ≡ k → results_place text p ≡ past text (operands_place text p) k
unfolding results_place
results_at text p k h = ap (past text (operands_place text p)) h

name_at_lem : (text : List ℕ) (p : ℕ) → result_count text p ≡ 1 → name_place text p ≡ end_of text (results_place text p)
unfolding name_place past
name_at_lem text p h = ap (past text (results_place text p)) h

module _ (text : List ℕ) (form : InForm text) (limits : InLimits text) where
  module _ (j : ℕ) (l : j < gates text) where
    -- each number of a gate is below 2^32
    operand_number : (x : ℕ) → x < operand_count text (gate_at text j) → (named text j ≡ eq_name → ⊥) → reads text j x < no_number
    operand_number x h d =
        ⊎_elim
        (λ s. let a = set_wire text form j (reads text j x) (omega arith) s in let w = form.wires_number in omega arith)
        (λ e. absurd (d e))
        ((form.every_gate j l).operands_set x h)

    result_number : result_count text (gate_at text j) ≡ 1 → sets text j < no_number
    result_number r = let a = (form.every_gate j l).results_wires 0 (omega arith) in let w = form.wires_number in omega arith

    -- the name's token is there, so that the gate ends
    name_is_there : (named text j ≡ no_name → ⊥) → There text (name_place text (gate_at text j))
    unfolding There name_at past
    name_is_there d = name_there text (name_place text (gate_at text j)) d

    has_name : named text j ≡ no_name → ⊥
    has_name e = go (form.every_gate j l).fits
      where
        go : Fits text (gate_at text j) → ⊥
        go (binary (inl n) k r) = omega arith
        go (binary (inr n) k r) = omega arith
        go (unary (inl n) k r) = omega arith
        go (unary (inr n) k r) = omega arith
        go (constant n k r c) = omega arith
        go (many n a b) = omega arith

    pub gate_ends : Ended text (gate_at text (suc j))
    unfolding gate_at past There
    gate_ends = token_ends text (name_place text (gate_at text j)) (name_is_there has_name)

  pub gate_ended : (j : ℕ) → j ≤ gates text → Ended text (gate_at text j)
  unfolding gate_at
  gate_ended zero h = body_ended text form
  gate_ended (suc j) h = gate_ends j h

  module _ (j : ℕ) (l : j < gates text) where
    number_is_there : (q : ℕ) → number_at text q 0 < no_number → There text q
    unfolding There number_at past
    number_is_there q h = number_there text q h

    -- a gate of one operand
    one_goes : operand_count text (gate_at text j) ≡ 1 → result_count text (gate_at text j) ≡ 1 → reads text j 0 < no_number
        → (eqb (named text j) xor_name || eqb (named text j) and_name) ≡ false → Goes text j (behind_of text (gate_at text (suc j)))
    unfolding gate_at operands_place past number_at name_at
    one_goes k r o d =
        let p = gate_at text j in
        goes_by text j (operand text p 0) (behind_of text (gate_at text (suc j)))
        (one_back text p (end_of text p) (operands_place text p) (results_place text p) (name_place text p) (gate_at text (suc j))
        refl refl (results_at text p 1 k) (name_at_lem text p r) refl
        (gate_ended j (omega arith))
        (number_is_there p (omega arith)) (number_is_there (end_of text p) (let z : number_at text (end_of text p) 0 < no_number = omega arith in z)) (number_is_there (operands_place text p) o) (number_is_there (results_place text p) (result_number j l r)) (name_is_there j l (has_name j l))
        d)
        (λ n. refl)

    two_goes : operand_count text (gate_at text j) ≡ 2 → result_count text (gate_at text j) ≡ 1 → reads text j 0 < no_number → reads text j 1 < no_number
        → Makes text j
        → (eqb (named text j) xor_name || eqb (named text j) and_name) ≡ true → Goes text j (behind_of text (gate_at text (suc j)))
    unfolding gate_at operands_place past number_at name_at
    two_goes k r o q n d =
        let p = gate_at text j in
        goes_by text j (operand text p 1) (behind_of text (gate_at text (suc j)))
        (two_back text p (end_of text p) (operands_place text p) (end_of text (operands_place text p)) (results_place text p) (name_place text p) (gate_at text (suc j))
        refl refl refl (results_at text p 2 k) (name_at_lem text p r) refl
        (gate_ended j (omega arith))
        (number_is_there p (omega arith)) (number_is_there (end_of text p) (let z : number_at text (end_of text p) 0 < no_number = omega arith in z)) (number_is_there (operands_place text p) o) (number_is_there (end_of text (operands_place text p)) q) (number_is_there (results_place text p) (result_number j l r)) (name_is_there j l (has_name j l))
        d)
        (λ e. absurd (n e))

    pub goes : Goes text j (behind_of text (gate_at text (suc j)))
    goes = go (form.every_gate j l).fits
      where
        go : Fits text (gate_at text j) → Goes text j (behind_of text (gate_at text (suc j)))
        go (binary (inl n) k r) = two_goes k r (operand_number j l 0 (omega arith) (λ e. omega arith)) (operand_number j l 1 (omega arith) (λ e. omega arith)) (λ e. omega arith) (rw n)
        go (binary (inr n) k r) = two_goes k r (operand_number j l 0 (omega arith) (λ e. omega arith)) (operand_number j l 1 (omega arith) (λ e. omega arith)) (λ e. omega arith) (rw n)
        go (unary (inl n) k r) = one_goes k r (operand_number j l 0 (omega arith) (λ e. omega arith)) (rw n)
        go (unary (inr n) k r) = one_goes k r (operand_number j l 0 (omega arith) (λ e. omega arith)) (rw n)
        go (constant n k r c) = one_goes k r (omega arith) (rw n)
        go (many n a b) = absurd (limits.no_mand j l n)
