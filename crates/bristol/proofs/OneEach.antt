-- Our gates are the text's but EQW, one for each and in the text's order: each index of ours is how many such come before exactly one of them, and that gate's kind has
-- its name's meaning and needs what the name reads.
-- Assumes nothing.
use mathlib.Core.Path.{◌≡◌, refl, ap, ◌∙◌}
use mathlib.Core.Logic.{⊎_elim}
use mathlib.Core.Bool.{Bool}
use mathlib.Core.List.{List}
use Prim.Native.Nat.{ℕ, zero, suc, ◌≤◌, ◌<◌}
use native.Mathlib.Omega.{arith}
use native.Mathlib.Decide.{ℕ_discrete}
use borrow.Author.Tests.{lt-ltb}
use Rattle.kinds.specs.Kinds.{kinds, kind_of}
use Rattle.circuit.proofs.Accept.{lt_or_ge}
use Rattle.circuit.specs.Form as circuit
use Rattle.tokens.specs.Tokens.{eqw_name}
use Rattle.bristol_form.specs.Says.{gates, made}
use Rattle.bristol_form.specs.Valid.{InForm, InLimits}
use Rattle.bristol_form.specs.Meaning.{name_meaning}
use Rattle.bristol_form.proofs.Laws.{made_grows}
use Rattle.bristol.specs.Import.{ours_to, kind_for, needs, operand_for, imported}
use Rattle.bristol.proofs.TextGates.{named, reads, Makes, made_eqw, made_own, ByName, xor_gate, and_gate, inv_gate, eqw_gate, eq_gate, gate_is}
use Rattle.bristol.proofs.ImportedBytes.{needs_to, gates_is, kind_is, operand_is}

-- ---- which gate of the text ours is

-- The one of the first n gates that our gate g is for.
pub record Source (text : List ℕ) (n g : ℕ) : Type 0 where
  pub gate : ℕ
  pub before : gate < n
  pub own : named text gate ≡ eqw_name → ⊥
  pub place : made text gate ≡ g

module _ (text : List ℕ) where
  later : (n g : ℕ) → Source text n g → Source text (suc n) g
  later n g s = record { gate = s.gate; before = omega arith; own = s.own; place = s.place }

  pub source : (n g : ℕ) → g < made text n → Source text n g
  unfolding made
  source zero g h = absurd (let q : ⊥ = omega arith in q)
  source (suc n) g h = go (source n g) (ℕ_discrete (named text n) 5)
    where
      go : (g < made text n → Source text n g) → Dec (named text n ≡ eqw_name) → Source text (suc n) g
      go ih (yes e) = later n g (ih (let m = made_eqw text n e in omega arith))
      go ih (no d) =
          ⊎_elim
          (λ (l : g < made text n). later n g (ih l))
          (λ (l : made text n ≤ g). record { gate = n; before = omega arith; own = d; place = let m = made_own text n d in omega arith })
          (lt_or_ge g (made text n))

  -- in the text's order
  pub source_order : (j k : ℕ) → j < k → Makes text j → made text j < made text k
  source_order j k h d = let m = made_own text j d in let a = made_grows text (suc j) k h in omega arith

  -- and so no two are for one
  pub source_one : (j k : ℕ) → Makes text j → Makes text k → made text j ≡ made text k → j ≡ k
  source_one j k c d e =
      ⊎_elim
      (λ (h : j < k). absurd (let a = source_order j k h c in let q : ⊥ = omega arith in q))
      (λ (h : k ≤ j). ⊎_elim (λ (l : k < j). absurd (let a = source_order k j l d in let q : ⊥ = omega arith in q)) (λ (l : j ≤ k). omega arith) (lt_or_ge k j))
      (lt_or_ge j k)

-- ---- its kind

-- a kind that is a bit takes no notice of operands
bit_needs : (c : ℕ) → c ≤ 1 → (kind_of c).operands ≡ 0
unfolding kind_of kinds
bit_needs zero h = refl
bit_needs (suc zero) h = refl
bit_needs (suc (suc c)) h = absurd (let q : ⊥ = omega arith in q)

bit_means : (c : ℕ) → c ≤ 1 → (a b x : Bool) → (kind_of c).meaning a b x ≡ name_meaning 4 c a b
unfolding kind_of kinds name_meaning
bit_means zero h a b x = refl
bit_means (suc zero) h a b x = refl
bit_means (suc (suc c)) h a b x = absurd (let q : ⊥ = omega arith in q)

module _ (text : List ℕ) (form : InForm text) (limits : InLimits text) where
  module _ (j : ℕ) (l : j < gates text) (d : named text j ≡ eqw_name → ⊥) where
    pub kind_needs : (kind_of (kind_for (named text j) (reads text j 0))).operands ≡ needs (named text j)
    unfolding kind_of kinds kind_for needs
    kind_needs = go (gate_is text form limits j l)
      where
        go : ByName text j → (kind_of (kind_for (named text j) (reads text j 0))).operands ≡ needs (named text j)
        go (xor_gate n a b) = rw n
        go (and_gate n a b) = rw n
        go (inv_gate n a) = rw n
        go (eqw_gate n a) = absurd (d n)
        go (eq_gate n c) = rw n (bit_needs (reads text j 0) c)

    pub kind_means : (a b x : Bool) → (kind_of (kind_for (named text j) (reads text j 0))).meaning a b x ≡ name_meaning (named text j) (reads text j 0) a b
    unfolding kind_of kinds kind_for name_meaning
    kind_means = go (gate_is text form limits j l)
      where
        go : ByName text j → (a b x : Bool) → (kind_of (kind_for (named text j) (reads text j 0))).meaning a b x ≡ name_meaning (named text j) (reads text j 0) a b
        go (xor_gate n p q) a b x = rw n
        go (and_gate n p q) a b x = rw n
        go (inv_gate n p) a b x = rw n
        go (eqw_gate n p) a b x = absurd (d n)
        go (eq_gate n c) a b x = rw n (bit_means (reads text j 0) c a b x)

  operand_read : (j x : ℕ) → x < needs (named text j) → operand_for text j x ≡ ours_to text j (reads text j x)
  unfolding operand_for
  operand_read j x h = rw (lt-ltb x (needs (named text j)) h)

  -- ---- said plainly

  -- Exactly one gate, of its own meaning, for each gate of the text but EQW, in the text's order.
  pub record OneEach : Type 0 where
    pub as_many : circuit.gates (imported text) ≡ made text (gates text)
    pub in_order : (j k : ℕ) → j < k → k < gates text → Makes text j → made text j < made text k
    pub each : (g : ℕ) → g < circuit.gates (imported text) → Source text (gates text) g
    pub only : (j k : ℕ) → Makes text j → Makes text k → made text j ≡ made text k → j ≡ k
    pub from : (j : ℕ) → j < gates text → Makes text j → (x : ℕ) → x < (kind_of (circuit.kind_at (imported text) (made text j))).operands
        → circuit.operand_at (imported text) (made text j) x ≡ ours_to text j (reads text j x)
    pub means : (j : ℕ) → j < gates text → Makes text j → (a b x : Bool)
        → (kind_of (circuit.kind_at (imported text) (made text j))).meaning a b x ≡ name_meaning (named text j) (reads text j 0) a b

  pub one_gate_each : OneEach
  one_gate_each =
      record {
        as_many = gates_is text;
        in_order = λ j k h l d. source_order text j k h d;
        each = λ g h. source text (gates text) g (let e = gates_is text in omega arith);
        only = source_one text;
        from = λ j l d x h.
            let n : (kind_of (circuit.kind_at (imported text) (made text j))).operands ≡ needs (named text j) = ap (λ (c : ℕ). (kind_of c).operands) (kind_is text j l d) ∙ kind_needs j l d in
            let two = needs_to (named text j) in
            operand_is text j l d x (omega arith) ∙ operand_read j x (omega arith);
        means = λ j l d a b x. ap (λ (k : ℕ). (kind_of k).meaning a b x) (kind_is text j l d) ∙ kind_means j l d a b x;
      }
