-- The gates of a text that is not refused: what its name is says how many operands a gate has, which are set before it. How many of the first
-- gates are not EQW grows by one at most with each.
-- Assumes nothing.
use mathlib.Core.Path.{◌≡◌}
use mathlib.Core.Logic.{inl, inr, ⊎_elim}
use mathlib.Core.Bool.{true, ◌||◌}
use mathlib.Core.List.{List}
use Prim.Native.Nat.{ℕ, suc, ◌≤◌, ◌<◌}
use native.Mathlib.Omega.{arith}
use borrow.Author.Tests.{eq-eqb, ne_eqb}
use lib.Dec.{eqb}
use Rattle.tokens.specs.Tokens.{xor_name, and_name, inv_name, eq_name, eqw_name}
use Rattle.bristol_form.specs.Says.{gates, gate_at, operand_count, operand, result, gate_name, among, is_set, made}
use Rattle.bristol_form.specs.Valid.{Fits, binary, unary, constant, many, GoodGate, InForm, InLimits}
use Rattle.bristol_form.proofs.Laws.{made_grows}
use Rattle.bristol_form.proofs.LawsForm.{one_result}

-- ---- gate j: its name, its operand x, its first result, and that it makes a gate of ours

abbrev pub named : List ℕ → ℕ → ℕ
named text j = gate_name text (gate_at text j)

abbrev pub reads : List ℕ → ℕ → ℕ → ℕ
reads text j x = operand text (gate_at text j) x

abbrev pub sets : List ℕ → ℕ → ℕ
sets text j = result text (gate_at text j) 0

abbrev pub Makes : List ℕ → ℕ → Type 0
Makes text j = named text j ≡ eqw_name → ⊥

-- ---- gates that are not EQW

module _ (text : List ℕ) where
  -- EQW counts for none
  pub made_eqw : (j : ℕ) → named text j ≡ eqw_name → made text (suc j) ≡ made text j
  unfolding made
  made_eqw j e = rw (eq-eqb (named text j) 5 e) (omega arith)

  -- another gate counts for one
  pub made_own : (j : ℕ) → Makes text j → made text (suc j) ≡ suc (made text j)
  unfolding made
  made_own j d = rw (ne_eqb (named text j) 5 d) (omega arith)

-- ---- a text that is not refused

-- A gate by its name, each wire that it reads being set before it; EQ reads none, and its constant is a bit.
pub data ByName (text : List ℕ) (j : ℕ) : Type 0 where
  xor_gate : named text j ≡ xor_name → is_set text j (reads text j 0) ≡ true → is_set text j (reads text j 1) ≡ true → ByName text j
  and_gate : named text j ≡ and_name → is_set text j (reads text j 0) ≡ true → is_set text j (reads text j 1) ≡ true → ByName text j
  inv_gate : named text j ≡ inv_name → is_set text j (reads text j 0) ≡ true → ByName text j
  eqw_gate : named text j ≡ eqw_name → is_set text j (reads text j 0) ≡ true → ByName text j
  eq_gate : named text j ≡ eq_name → reads text j 0 ≤ 1 → ByName text j

module _ (text : List ℕ) (form : InForm text) (limits : InLimits text) where
  -- at most 1,024 of the gates are not EQW
  pub made_few : (j : ℕ) → j ≤ gates text → made text j ≤ 1024
  made_few j h = let a = made_grows text j (gates text) h in let b = limits.gates_most in omega arith

  module _ (j : ℕ) (l : j < gates text) where
    -- a wire is set after the gate where it was set before it or is its result
    pub set_more : (w : ℕ) → is_set text (suc j) w ≡ (is_set text j w || eqb w (sets text j))
    unfolding is_set among
    set_more w = rw (one_result text form limits j l)

    -- the gate by its name, and the wires that it reads, which are set
    pub gate_is : ByName text j
    gate_is = go (form.every_gate j l) (form.every_gate j l).fits
      where
        set : GoodGate text j → (x : ℕ) → x < operand_count text (gate_at text j) → (named text j ≡ eq_name → ⊥) → is_set text j (reads text j x) ≡ true
        set g x h d = ⊎_elim (λ s. s) (λ q. absurd (d q)) (g.operands_set x h)

        go : GoodGate text j → Fits text (gate_at text j) → ByName text j
        go g (binary (inl n) k r) = xor_gate n (set g 0 (omega arith) (λ q. omega arith)) (set g 1 (omega arith) (λ q. omega arith))
        go g (binary (inr n) k r) = and_gate n (set g 0 (omega arith) (λ q. omega arith)) (set g 1 (omega arith) (λ q. omega arith))
        go g (unary (inl n) k r) = inv_gate n (set g 0 (omega arith) (λ q. omega arith))
        go g (unary (inr n) k r) = eqw_gate n (set g 0 (omega arith) (λ q. omega arith))
        go g (constant n k r c) = eq_gate n c
        go g (many n a b) = absurd (limits.no_mand j l n)

    -- EQW's operand is set before it
    pub eqw_set : named text j ≡ eqw_name → is_set text j (reads text j 0) ≡ true
    eqw_set e = go gate_is
      where
        go : ByName text j → is_set text j (reads text j 0) ≡ true
        go (xor_gate n a b) = a
        go (and_gate n a b) = a
        go (inv_gate n a) = a
        go (eqw_gate n a) = a
        go (eq_gate n c) = absurd (let q : ⊥ = omega arith in q)
