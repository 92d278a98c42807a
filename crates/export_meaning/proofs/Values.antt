-- The bits of the wires of a text whose lines set wire after wire: a line's wire has its name's meaning on the bits of what it reads, and keeps it.
-- Assumes nothing.
use mathlib.Core.Path.{◌≡◌, refl, ap, ap₂, ◌∙◌}
use mathlib.Core.Logic.{◌⊎◌, inl, inr}
use mathlib.Core.Bool.{Bool, cond}
use mathlib.Core.List.{List}
use Prim.Native.Nat.{ℕ, zero, suc, ◌+◌, ◌≤◌, ◌<◌}
use native.Mathlib.Nat.{add-zero}
use native.Mathlib.Omega.{arith}
use borrow.Author.Tests.{lt-ltb, eq-eqb, ne_eqb}
use lib.Dec.{eqb}
use lib.ListN.{length}
use Rattle.circuit.proofs.Accept.{lt_or_ge}
use Rattle.bristol_form.specs.Says.{gate_at, result_count, operand, result}
use Rattle.bristol_form.specs.Meaning.{name_meaning, result_bit, after_results, wire_bit}
use Rattle.export_meaning.proofs.Lines.{Line, line_at, Bodied, gate_said}

-- INV, EQ and EQW take no notice of a second operand
pub second_idle : (name x : ℕ) (a b c : Bool) → 3 ≤ name → name ≤ 5 → name_meaning name x a b ≡ name_meaning name x a c
unfolding name_meaning
second_idle zero x a b c l h = absurd (let q : ⊥ = omega arith in q)
second_idle (suc zero) x a b c l h = absurd (let q : ⊥ = omega arith in q)
second_idle (suc (suc zero)) x a b c l h = absurd (let q : ⊥ = omega arith in q)
second_idle (suc (suc (suc zero))) x a b c l h = refl
second_idle (suc (suc (suc (suc zero)))) x a b c l h = refl
second_idle (suc (suc (suc (suc (suc zero))))) x a b c l h = refl
second_idle (suc (suc (suc (suc (suc (suc name)))))) x a b c l h = absurd (let q : ⊥ = omega arith in q)

module _ (text : List ℕ) (i : ℕ) (ls : List Line) (b : Bodied text i ls) (ins : List ℕ) where
  -- the bit that line j gives its wire
  abbrev pub line_bit : ℕ → Bool
  line_bit j = name_meaning (line_at ls j).name (line_at ls j).first (wire_bit text ins j (line_at ls j).first) (wire_bit text ins j (line_at ls j).second)

  module _ (j : ℕ) (h : j < length ls) where
    bit_is : result_bit text (gate_at text j) (wire_bit text ins j) 0 ≡ line_bit j
    unfolding result_bit
    bit_is =
        let p = gate_at text j in
        let s = gate_said text i ls b j h in
        let o = b.ordered j h in
        let n = (line_at ls j).name in
        let x = (line_at ls j).first in
        let w = wire_bit text ins j in
        let e : result_count text p + 0 ≡ 1 = let r = s.one_result in omega arith in
        ap (λ (m : ℕ). name_meaning m (operand text p 0) (w (operand text p 0)) (w (operand text p (result_count text p + 0)))) s.named
        ∙ ap (λ (z : ℕ). name_meaning n z (w z) (w (operand text p (result_count text p + 0)))) s.reads
        ∙ ap (λ (m : ℕ). name_meaning n x (w x) (w (operand text p m))) e
        ∙ go (lt_or_ge n 3)
      where
        go : ((line_at ls j).name < 3) ⊎ (3 ≤ (line_at ls j).name) → name_meaning (line_at ls j).name (line_at ls j).first (wire_bit text ins j (line_at ls j).first) (wire_bit text ins j (operand text (gate_at text j) 1)) ≡ line_bit j
        go (inl l) = ap (λ (z : ℕ). name_meaning (line_at ls j).name (line_at ls j).first (wire_bit text ins j (line_at ls j).first) (wire_bit text ins j z)) ((gate_said text i ls b j h).reads_too (rw (lt-ltb (line_at ls j).name 3 l)))
        go (inr l) = second_idle (line_at ls j).name (line_at ls j).first _ _ _ l (b.ordered j h).to

    after : (w : ℕ) → wire_bit text ins (suc j) w ≡ cond (eqb w (i + j)) (line_bit j) (wire_bit text ins j w)
    unfolding wire_bit after_results
    after w =
        let p = gate_at text j in
        let s = gate_said text i ls b j h in
        let e : result text p 0 ≡ i + j = s.sets ∙ (b.ordered j h).sets in
        ap (λ (n : ℕ). after_results text p (wire_bit text ins j) n w) s.one_result
        ∙ ap₂ (λ (r : ℕ) (t : Bool). cond (eqb w r) t (wire_bit text ins j w)) e bit_is

    -- its own wire
    pub own_bit : wire_bit text ins (suc j) (i + j) ≡ line_bit j
    own_bit = after (i + j) ∙ rw (eq-eqb (i + j) (i + j) refl)

  -- earlier wires keep their bits
  pub kept_bit : (j m w : ℕ) → j + m ≤ length ls → w < i + j → wire_bit text ins (j + m) w ≡ wire_bit text ins j w
  kept_bit j zero w h l = ap (λ (k : ℕ). wire_bit text ins k w) (add-zero j)
  kept_bit j (suc m) w h l =
      let e : j + suc m ≡ suc (j + m) = omega arith in
      ap (λ (k : ℕ). wire_bit text ins k w) e
      ∙ after (j + m) (omega arith) w
      ∙ ap (λ (t : Bool). cond t (line_bit (j + m)) (wire_bit text ins (j + m) w)) (ne_eqb w (i + (j + m)) (λ z. let q : ⊥ = omega arith in q))
      ∙ kept_bit j m w (omega arith) l
