-- Our wire for a wire of the text, gate by gate; one that is set stands for a wire that we have by then. By cases on whether the gate sets the wire and is EQW.
-- Assumes nothing.
use mathlib.Core.Path.{◌≡◌, refl, sym, ◌∙◌}
use mathlib.Core.Logic.{⊎_elim}
use mathlib.Core.Bool.{Bool, true, false, ◌||◌}
use mathlib.Core.List.{List}
use Prim.Native.Nat.{ℕ, zero, suc, ◌+◌, ◌-◌, ◌≤◌, ◌<◌}
use native.Mathlib.Omega.{arith}
use native.Mathlib.Decide.{ℕ_discrete}
use borrow.Author.Tests.{ltb-true, lt-ltb, le-ltb, eq-eqb, ne_eqb}
use lib.Dec.{eqb}
use Rattle.circuit.proofs.Accept.{lt_or_ge}
use Rattle.tokens.specs.Tokens.{eqw_name}
use Rattle.bristol_form.specs.Says.{gates, wires, inputs, outputs, is_set, made}
use Rattle.bristol_form.specs.Valid.{InForm, InLimits}
use Rattle.bristol_form.proofs.Laws.{made_step}
use Rattle.bristol.specs.Import.{ours_to, kind_for, needs, operand_for, output_for}
use Rattle.bristol.proofs.TextGates.{named, reads, sets, Makes, made_eqw, made_own, made_few, set_more, eqw_set, ByName, xor_gate, and_gate, inv_gate, eqw_gate, eq_gate, gate_is}
use Rattle.bristol.proofs.Set.{outputs_set}

-- ---- over a gate

module _ (text : List ℕ) (j w : ℕ) where
  -- a wire that the gate does not set stands for what it stood for
  pub ours_other : (w ≡ sets text j → ⊥) → ours_to text (suc j) w ≡ ours_to text j w
  unfolding ours_to
  ours_other d = rw (ne_eqb w (sets text j) d)

  -- EQW's result stands for what its operand stands for
  pub ours_eqw : w ≡ sets text j → named text j ≡ eqw_name → ours_to text (suc j) w ≡ ours_to text j (reads text j 0)
  unfolding ours_to
  ours_eqw e n = rw (eq-eqb w (sets text j) e, eq-eqb (named text j) 5 n)

  -- another gate's result stands for the wire of our next gate
  pub ours_own : w ≡ sets text j → Makes text j → ours_to text (suc j) w ≡ inputs text + made text j
  unfolding ours_to
  ours_own e n = rw (eq-eqb w (sets text j) e, ne_eqb (named text j) 5 n)

-- ---- a text that is not refused

module _ (text : List ℕ) (form : InForm text) (limits : InLimits text) where
  -- a wire that is set and is not the gate's result was set before
  pub set_before : (j w : ℕ) → j < gates text → is_set text (suc j) w ≡ true → (w ≡ sets text j → ⊥) → is_set text j w ≡ true
  set_before j w l s d = go (is_set text j w) (eqb w (sets text j)) (ne_eqb w (sets text j) d) (sym (set_more text form limits j l w) ∙ s)
    where
      go : (a b : Bool) → b ≡ false → (a || b) ≡ true → a ≡ true
      go true b f h = refl
      go false b f h = sym f ∙ h

  pub ours_below : (j w : ℕ) → j ≤ gates text → is_set text j w ≡ true → ours_to text j w < inputs text + made text j
  unfolding is_set ours_to made
  ours_below zero w h s = let a = ltb-true w (inputs text) s in omega arith
  ours_below (suc j) w h s =
      by_gate (ours_below j) (ℕ_discrete w (sets text j)) (ℕ_discrete (named text j) 5)
    where
      by_gate : ((v : ℕ) → j ≤ gates text → is_set text j v ≡ true → ours_to text j v < inputs text + made text j)
          → Dec (w ≡ sets text j) → Dec (named text j ≡ eqw_name) → ours_to text (suc j) w < inputs text + made text (suc j)
      by_gate ih (no d) n =
          let a = ih w (omega arith) (set_before j w h s d) in
          let e = ours_other text j w d in
          let m = made_step text j in
          omega arith
      by_gate ih (yes e) (yes n) =
          let a = ih (reads text j 0) (omega arith) (eqw_set text form limits j h n) in
          let b = ours_eqw text j w e n in
          let m = made_eqw text j n in
          omega arith
      by_gate ih (yes e) (no n) =
          let b = ours_own text j w e n in
          let m = made_own text j n in
          omega arith

  -- and so for a number of 16 bits, 1,280 at most
  pub ours_small : (j w : ℕ) → j ≤ gates text → is_set text j w ≡ true → ours_to text j w < 1280
  ours_small j w h s = let a = ours_below j w h s in let b = made_few text form limits j h in let c = limits.inputs_to in omega arith

  -- a wire that our gate reads stands before it
  pub operand_below : (j x : ℕ) → j < gates text → x < needs (named text j) → operand_for text j x < inputs text + made text j
  unfolding operand_for needs
  operand_below j x l h = rw (lt-ltb x (needs (named text j)) h) (ours_below j (reads text j x) (omega arith) (go (gate_is text form limits j l) x h))
    where
      two : is_set text j (reads text j 0) ≡ true → is_set text j (reads text j 1) ≡ true → (x : ℕ) → x < 2 → is_set text j (reads text j x) ≡ true
      two a b zero h = a
      two a b (suc zero) h = b
      two a b (suc (suc x)) h = absurd (let q : ⊥ = omega arith in q)

      one : is_set text j (reads text j 0) ≡ true → (x : ℕ) → x < 1 → is_set text j (reads text j x) ≡ true
      one a zero h = a
      one a (suc x) h = absurd (let q : ⊥ = omega arith in q)

      go : ByName text j → (x : ℕ) → x < needs (named text j) → is_set text j (reads text j x) ≡ true
      go (xor_gate n a b) x h = two a b x (rw n at h)
      go (and_gate n a b) x h = two a b x (rw n at h)
      go (inv_gate n a) x h = one a x (rw n at h)
      go (eqw_gate n a) x h = absurd (let z : x < 0 = rw n at h in let q : ⊥ = omega arith in q)
      go (eq_gate n c) x h = absurd (let z : x < 0 = rw n at h in let q : ⊥ = omega arith in q)

  -- an operand that is not read is 0
  pub operand_other : (j x : ℕ) → needs (named text j) ≤ x → operand_for text j x ≡ 0
  unfolding operand_for
  operand_other j x h = rw (le-ltb x (needs (named text j)) h)

  pub operand_small : (j x : ℕ) → j < gates text → operand_for text j x < 1280
  operand_small j x l =
      ⊎_elim
      (λ (h : x < needs (named text j)). let a = operand_below j x l h in let b = made_few text form limits j (omega arith) in let c = limits.inputs_to in omega arith)
      (λ (h : needs (named text j) ≤ x). let a = operand_other j x h in omega arith)
      (lt_or_ge x (needs (named text j)))

  -- an output is one of our wires
  pub output_below : (o : ℕ) → o < outputs text → output_for text o < inputs text + made text (gates text)
  unfolding output_for
  output_below o l = ours_below (gates text) (wires text - outputs text + o) (omega arith) (outputs_set text form limits o l)

  pub output_small : (o : ℕ) → o < outputs text → output_for text o < 1280
  output_small o l = let a = output_below o l in let b = limits.gates_most in let c = limits.inputs_to in omega arith

  -- a kind is one of the table's first eight
  pub kind_small : (j : ℕ) → j < gates text → Makes text j → kind_for (named text j) (reads text j 0) ≤ 7
  unfolding kind_for
  kind_small j l d = go (gate_is text form limits j l)
    where
      go : ByName text j → kind_for (named text j) (reads text j 0) ≤ 7
      go (xor_gate n a b) = rw n (omega arith)
      go (and_gate n a b) = rw n (omega arith)
      go (inv_gate n a) = rw n (omega arith)
      go (eqw_gate n a) = absurd (d n)
      go (eq_gate n c) = rw n (omega arith)
