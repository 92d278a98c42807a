-- Reading accepts the valid circuits and no others: the chain of checks is taken apart check by check, and the first refusal of a row of answers
-- is none where none of them refuses. Back, each test is rewritten by its fact.
-- Assumes nothing.
use mathlib.Core.Path.{◌≡◌, refl, ap, ◌∙◌}
use mathlib.Core.Logic.{◌⊎◌, inl, inr, ⊎_elim}
use mathlib.Core.Bool.{Bool, true, false}
use mathlib.Core.List.{List, [], ◌∷◌}
use Prim.Native.Nat.{ℕ, zero, suc, ◌+◌, ◌≤◌, ◌<◌}
use native.Mathlib.Decide.{ℕ_discrete}
use native.Mathlib.Omega.{arith}
use borrow.Author.Tests.{leb-true, ltb-true, ltb-false, eqb-true, le-leb, lt-ltb, le-ltb, eq-eqb, ne_eqb}
use lib.Dec.{T, lit<, ltb, ltb→lt}
use lib.ListN.{length}
use Rattle.ring.specs.Word.{at}
use Rattle.params.specs.Refusal.{Answer}
use Rattle.params.specs.Refusal.{answer}
use Rattle.params.proofs.Answers.{passed}
use Rattle.kinds.specs.Kinds.{kind_of}
use Rattle.circuit.specs.Form.{version, inputs, gates, outputs, wires, gate_place, kind_at, operand_at, output_at, output_place, or_else, first, operand_good, output_answer, answer_of, gate_fields, head_fields, FieldCheck, asks, first_at}
use Rattle.circuit.specs.Private.{gate_answer, head_answer}
use Rattle.kinds.proofs.Table.{both, both_left, both_right}
use Rattle.circuit.specs.Valid.{Head, GoodGate, Valid}
use Rattle.circuit.specs.Plain.{run_answer}

pub lt_or_ge : (x n : ℕ) → (x < n) ⊎ (n ≤ x)
lt_or_ge x n = go (ltb x n) refl
  where
    go : (b : Bool) → ltb x n ≡ b → (x < n) ⊎ (n ≤ x)
    go true e = inl (ltb-true x n e)
    go false e = inr (ltb-false x n e)

-- ---- answers that do not refuse

-- every check's test holds
abbrev pub Passed : List FieldCheck → Type 0
Passed [] = Unit {0}
Passed (asks test n p ∷ checks) = (test ≡ true) × Passed checks

-- the numbers of checks are not 0, which computes
abbrev pub numbered : List FieldCheck → Bool
numbered [] = true
numbered (asks test n p ∷ checks) = both (ltb 0 n) (numbered checks)

-- checks that do not refuse have all passed
pub all_passed : (checks : List FieldCheck) → T (numbered checks) → (first_at checks).number ≡ 0 → Passed checks
all_passed [] t e = tt
all_passed (asks true n p ∷ checks) t e = (refl, all_passed checks (both_right (ltb 0 n) (numbered checks) t) e)
all_passed (asks false n p ∷ checks) t e = absurd (let h = ltb→lt 0 n (both_left (ltb 0 n) (numbered checks) t) in let q : ⊥ = omega arith in q)

pub both_done : (a b : Answer) → (or_else a b).number ≡ 0 → (a.number ≡ 0) × (b.number ≡ 0)
both_done a b = go (ℕ_discrete a.number 0)
  where
    go : Dec (a.number ≡ 0) → (or_else a b).number ≡ 0 → (a.number ≡ 0) × (b.number ≡ 0)
    go (yes e) h = (e, rw (eq-eqb a.number 0 e) at h)
    go (no d) h = absurd (d (rw (ne_eqb a.number 0 d) at h))

pub or_done : (a b : Answer) → a.number ≡ 0 → or_else a b ≡ b
or_done a b e = rw (eq-eqb a.number 0 e)

pub first_good : (f : ℕ → Answer) (i n : ℕ) → (first f i n).number ≡ 0 → (k : ℕ) → i ≤ k → k < i + n → (f k).number ≡ 0
unfolding first
first_good f i zero e k a b = absurd (let q : ⊥ = omega arith in q)
first_good f i (suc n) e k a b =
    let s = both_done (f i) (first f (suc i) n) e in
    ⊎_elim (λ l. let z : i ≡ k = omega arith in rw z at s.0) (λ l. first_good f (suc i) n s.1 k l (omega arith)) (lt_or_ge k (suc i))

pub first_done : (f : ℕ → Answer) (i n : ℕ) → ((k : ℕ) → k < i + n → (f k).number ≡ 0) → first f i n ≡ answer 0
unfolding first
first_done f i zero h = refl
first_done f i (suc n) h = or_done (f i) (first f (suc i) n) (h i (omega arith)) ∙ first_done f (suc i) n (λ k l. h k (omega arith))

-- ---- what is accepted is valid

module _ (bs : List ℕ) where
  pub head_good : (head_answer bs).number ≡ 0 → Head bs
  unfolding head_fields
  head_good h =
      let s = all_passed (head_fields bs) tt h in
      let c = s.1.1.1.1.1 in
      record {
        long = leb-true _ _ s.0;
        e = eqb-true _ _ s.1.0;
        g = eqb-true _ _ s.1.1.0;
        l = eqb-true _ _ s.1.1.1.0;
        version_one = eqb-true _ _ s.1.1.1.1.0;
        inputs_to = leb-true _ _ c.0;
        gates_to = leb-true _ _ c.1.0;
        outputs_from = leb-true _ _ c.1.1.0;
        outputs_to = leb-true _ _ c.1.1.1.0;
        whole = eqb-true _ _ c.1.1.1.1.0;
      }

  module _ (g : ℕ) where
    operand_needed : (x : ℕ) → operand_good bs g x ≡ true → x < (kind_of (kind_at bs g)).operands → operand_at bs g x < inputs bs + g
    unfolding operand_good
    operand_needed x e h = ltb-true _ _ (rw (lt-ltb x (kind_of (kind_at bs g)).operands h) at e)

    operand_other : (x : ℕ) → operand_good bs g x ≡ true → (kind_of (kind_at bs g)).operands ≤ x → operand_at bs g x ≡ 0
    unfolding operand_good
    operand_other x e h = eqb-true _ _ (rw (le-ltb x (kind_of (kind_at bs g)).operands h) at e)

    -- what holds of operands 0, 1 and 2 holds of each operand
    three : (P : ℕ → Type 0) → P 0 → P 1 → P 2 → (x : ℕ) → x < 3 → P x
    three P a b c zero h = a
    three P a b c (suc zero) h = b
    three P a b c (suc (suc zero)) h = c
    three P a b c (suc (suc (suc x))) h = absurd (let q : ⊥ = omega arith in q)

    gate_good : (gate_answer bs g).number ≡ 0 → GoodGate bs g
    unfolding gate_fields
    gate_good h =
        let s = all_passed (gate_fields bs g) tt h in
        let o = s.1.1 in
        let good = three (λ x. operand_good bs g x ≡ true) o.0 o.1.0 o.1.1.0 in
        record {
          kind_to = leb-true _ _ s.0;
          zero_byte = eqb-true _ _ s.1.0;
          needed = λ x l h. operand_needed x (good x l) h;
          others = λ x l h. operand_other x (good x l) h;
        }

  output_good : (o : ℕ) → (output_answer bs o).number ≡ 0 → output_at bs o < wires bs
  unfolding output_answer
  output_good o h = ltb-true _ _ (all_passed (asks (ltb (output_at bs o) (wires bs)) 10 (output_place bs o) ∷ []) tt h).0

  pub accepted : (answer_of bs).number ≡ 0 → Valid bs
  unfolding answer_of
  accepted h =
      let s = both_done (head_answer bs) _ h in
      let t = both_done (first (gate_answer bs) 0 (gates bs)) _ s.1 in
      record {
        head = head_good s.0;
        every_gate = λ g l. gate_good g (first_good (gate_answer bs) 0 (gates bs) t.0 g (omega arith) (omega arith));
        every_output = λ o l. output_good o (first_good (output_answer bs) 0 (outputs bs) t.1 o (omega arith) (omega arith));
      }

  -- ---- what is valid is not refused

  module _ (v : Valid bs) where
    head_done : head_answer bs ≡ answer 0
    unfolding head_fields
    head_done =
        let h = v.head in
        simp (le-leb 11 (length bs) h.long, eq-eqb (at bs 0) 69 h.e, eq-eqb (at bs 1) 71 h.g, eq-eqb (at bs 2) 76 h.l, eq-eqb (version bs) 1 h.version_one, le-leb (inputs bs) 256 h.inputs_to, le-leb (gates bs) 1024 h.gates_to, le-leb 1 (outputs bs) h.outputs_from, le-leb (outputs bs) 64 h.outputs_to, eq-eqb (length bs) (output_place bs (outputs bs)) h.whole)

    operand_done : (g : ℕ) → GoodGate bs g → (x : ℕ) → x < 3 → operand_good bs g x ≡ true
    unfolding operand_good
    operand_done g d x l =
        let n = (kind_of (kind_at bs g)).operands in
        ⊎_elim
        (λ (h : x < n). rw (lt-ltb x n h, lt-ltb (operand_at bs g x) (inputs bs + g) (d.needed x l h)))
        (λ (h : n ≤ x). rw (le-ltb x n h, eq-eqb (operand_at bs g x) 0 (d.others x l h)))
        (lt_or_ge x n)

    gate_done : (g : ℕ) → GoodGate bs g → (gate_answer bs g).number ≡ 0
    unfolding gate_fields
    gate_done g d =
        simp (le-leb (kind_at bs g) 13 d.kind_to, eq-eqb (at bs (gate_place g + 1)) 0 d.zero_byte, operand_done g d 0 (lit< tt), operand_done g d 1 (lit< tt), operand_done g d 2 (lit< tt))

    output_done : (o : ℕ) → o < outputs bs → (output_answer bs o).number ≡ 0
    unfolding output_answer
    output_done o l = rw (lt-ltb (output_at bs o) (wires bs) (v.every_output o l))

    pub not_refused : answer_of bs ≡ answer 0
    unfolding answer_of
    not_refused =
        or_done (head_answer bs) _ (ap (λ (a : Answer). a.number) head_done)
        ∙ or_done (first (gate_answer bs) 0 (gates bs)) _ (ap (λ (a : Answer). a.number) (first_done (gate_answer bs) 0 (gates bs) (λ g l. gate_done g (v.every_gate g (omega arith)))))
        ∙ first_done (output_answer bs) 0 (outputs bs) (λ o l. output_done o (omega arith))

-- an answer of number 0 has place 0
pub answer_done : (bs : List ℕ) → (answer_of bs).number ≡ 0 → answer_of bs ≡ answer 0
answer_done bs e = not_refused bs (accepted bs e)

-- ---- a plain run that is not refused

-- what holds then: the circuit is valid, and the slices have its lengths
pub record RunGood (bs : List ℕ) (ins outs : ℕ) : Type 0 where
  pub valid : Valid bs
  pub ins_length : ins ≡ inputs bs
  pub outs_length : outs ≡ outputs bs

pub run_good : (bs : List ℕ) (ins outs : ℕ) → (run_answer bs ins outs).number ≡ 0 → RunGood bs ins outs
unfolding run_answer
run_good bs ins outs h =
    let s = both_done (answer_of bs) _ h in
    let s1 = passed _ _ _ (lit< tt) s.1 in
    let s2 = passed _ _ _ (lit< tt) s1.1 in
    record {
      valid = accepted bs s.0;
      ins_length = eqb-true _ _ s1.0;
      outs_length = eqb-true _ _ s2.0;
    }

pub run_done : (bs : List ℕ) (ins outs : ℕ) → RunGood bs ins outs → run_answer bs ins outs ≡ answer 0
unfolding run_answer
run_done bs ins outs r =
    or_done (answer_of bs) _ (ap (λ (a : Answer). a.number) (not_refused bs r.valid))
    ∙ rw (eq-eqb ins (inputs bs) r.ins_length, eq-eqb outs (outputs bs) r.outs_length)
