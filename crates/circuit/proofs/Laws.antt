-- What callers use of a plain run: how many wires there are, an input's bit, and that each gate's bit is its kind's meaning on its operands' bits,
-- all of them read in the finished list. An operand stands before its gate, and what stands there is kept; a gate that has no wire before it
-- needs no operand, and its meaning takes no notice of any.
-- Assumes nothing.
use mathlib.Core.Path.{◌≡◌, refl, sym, ap, ◌∙◌}
use mathlib.Core.Logic.{⊎_elim}
use mathlib.Core.Bool.{Bool, true}
use mathlib.Core.List.{List}
use Prim.Native.Nat.{ℕ, zero, suc, ◌+◌, ◌*◌, ◌-◌, ◌≤◌, ◌<◌}
use native.Mathlib.Nat.{eq-zero-or-pos}
use native.Mathlib.Omega.{arith}
use lib.Dec.{leb, leb→le, lit<, lit≤}
use lib.ListN.{length, get_or}
use Rattle.ring.specs.Word.{at}
use Rattle.ring.specs.Sums.{sum_to}
use Rattle.ring.proofs.Tab.{at-tab, length-tab}
use Rattle.params.specs.Refusal.{Answer}
use Rattle.params.proofs.Answers.{when_done}
use Rattle.kinds.specs.Kinds.{kinds, kind_of, bit_meaning}
use Rattle.circuit.specs.Form.{inputs, gates, outputs, wires, kind_at, operand_at, output_at}
use Rattle.circuit.specs.Valid.{GoodGate, Valid}
use Rattle.circuit.specs.Plain.{gate_bit, wires_to, wires_of, input_bits, output_bits, work_of, run_out}
use Rattle.kinds.proofs.Table.{entry}
use Rattle.kinds.proofs.Columns.{operand_table, operand_entry, work_entry}
use Rattle.circuit.proofs.Accept.{RunGood, run_done, lt_or_ge}
use Rattle.circuit.proofs.Wires.{length_wires, wires_kept, wires_own}
use Rattle.ring.specs.Bit.{truth, bit_number}

-- ---- a kind that needs no operand

needs_one_right : ℕ → ℕ → Bool
needs_one_right zero x = true
needs_one_right (suc zero) x = true
needs_one_right (suc (suc k)) x = leb 1 x

needs_one : (k : ℕ) → suc (suc k) ≤ 13 → 1 ≤ (kind_of (suc (suc k))).operands
unfolding needs_one_right
needs_one k h =
    let e = (operand_entry (suc (suc k)) h).0 in
    let t = leb→le 1 (get_or operand_table (suc (suc k)) 0) (entry needs_one_right operand_table tt (suc (suc k)) (omega arith)) in
    omega arith

constant : (k a b c a' b' c' : ℕ) → k ≤ 13 → (kind_of k).operands ≡ 0 → bit_meaning k a b c ≡ bit_meaning k a' b' c'
unfolding bit_meaning kind_of kinds
constant zero a b c a' b' c' h e = refl
constant (suc zero) a b c a' b' c' h e = refl
constant (suc (suc k)) a b c a' b' c' h e = absurd (let n = needs_one k h in let q : ⊥ = omega arith in q)

-- ---- the wires

module _ (bs ins : List ℕ) where
  pub wires_count : length (wires_of bs ins) ≡ wires bs
  wires_count = length_wires bs (input_bits bs ins) (gates bs) ∙ ap (λ (k : ℕ). k + gates bs) (length-tab (inputs bs) (λ i. bit_number (truth (at ins i))))

  input_count : length (input_bits bs ins) ≡ inputs bs
  input_count = length-tab (inputs bs) (λ i. bit_number (truth (at ins i)))

  -- what stands after g gates stands at the end
  kept_to : (g w : ℕ) → g ≤ gates bs → w < inputs bs + g → at (wires_of bs ins) w ≡ at (wires_to bs (input_bits bs ins) g) w
  kept_to g w a h =
      let e : gates bs ≡ g + (gates bs - g) = omega arith in
      let n = input_count in
      ap (λ (m : ℕ). at (wires_to bs (input_bits bs ins) m) w) e ∙ wires_kept bs (input_bits bs ins) g (gates bs - g) w (omega arith)

  -- an input's wire has the lent bit
  pub input_wire : (i : ℕ) → i < inputs bs → at (wires_of bs ins) i ≡ bit_number (truth (at ins i))
  unfolding wires_to
  input_wire i h = kept_to 0 i (omega arith) (omega arith) ∙ at-tab (inputs bs) (λ j. bit_number (truth (at ins j))) i h

  -- a circuit of no gates has the inputs' wires alone
  pub no_gates : gates bs ≡ 0 → wires_of bs ins ≡ input_bits bs ins
  unfolding wires_to
  no_gates e = rw e

  -- an output's bit is its wire's
  pub output_wire : (o : ℕ) → o < outputs bs → at (output_bits bs ins) o ≡ at (wires_of bs ins) (output_at bs o)
  output_wire o h = at-tab (outputs bs) (λ j. at (wires_of bs ins) (output_at bs j)) o h

  module _ (v : Valid bs) (g : ℕ) (l : g < gates bs) where
    -- an operand, needed or 0, is below the gate's own wire as soon as there is a wire before it
    operand_before : (x : ℕ) → x < 3 → 0 < inputs bs + g → operand_at bs g x < inputs bs + g
    operand_before x b h =
        let d = v.every_gate g l in
        go x b h d
      where
        go : (x : ℕ) → x < 3 → 0 < inputs bs + g → GoodGate bs g → operand_at bs g x < inputs bs + g
        go x b h d = ⊎_elim (λ (n : x < (kind_of (kind_at bs g)).operands). d.needed x b n) (λ (n : (kind_of (kind_at bs g)).operands ≤ x). let z = d.others x b n in omega arith) (lt_or_ge x (kind_of (kind_at bs g)).operands)

    seen : (x : ℕ) → x < 3 → 0 < inputs bs + g → at (wires_to bs (input_bits bs ins) g) (operand_at bs g x) ≡ at (wires_of bs ins) (operand_at bs g x)
    seen x b h = sym (kept_to g (operand_at bs g x) (omega arith) (operand_before x b h))

    -- with no wire before it the gate needs no operand
    none : inputs bs + g ≡ 0 → (kind_of (kind_at bs g)).operands ≡ 0
    none e = ⊎_elim (λ z. z) (λ (p : 0 < (kind_of (kind_at bs g)).operands). absurd (let n = (v.every_gate g l).needed 0 (lit< tt) p in let q : ⊥ = omega arith in q)) (eq-zero-or-pos (kind_of (kind_at bs g)).operands)

    settled : gate_bit bs (wires_to bs (input_bits bs ins) g) g ≡ gate_bit bs (wires_of bs ins) g
    settled =
        ⊎_elim
        (λ (e : inputs bs + g ≡ 0). constant (kind_at bs g) _ _ _ _ _ _ (v.every_gate g l).kind_to (none e))
        (λ (h : 0 < inputs bs + g). rw (seen 0 (lit< tt) h, seen 1 (lit< tt) h, seen 2 (lit< tt) h))
        (eq-zero-or-pos (inputs bs + g))

    -- each gate's wire has its kind's meaning on its operands' wires
    pub gate_wire : at (wires_of bs ins) (inputs bs + g) ≡ gate_bit bs (wires_of bs ins) g
    gate_wire =
        let e : gates bs ≡ g + 1 + (gates bs - (g + 1)) = omega arith in
        let n : inputs bs + g ≡ length (input_bits bs ins) + g = ap (λ (k : ℕ). k + g) (sym input_count) in
        ap (λ (m : ℕ). at (wires_to bs (input_bits bs ins) m) (inputs bs + g)) e
        ∙ ap (at (wires_to bs (input_bits bs ins) (g + 1 + (gates bs - (g + 1))))) n
        ∙ wires_own bs (input_bits bs ins) g (gates bs - (g + 1))
        ∙ settled

-- ---- the run

-- a run that is not refused writes the outputs' bits
pub run_writes : (bs ins out : List ℕ) → RunGood bs (length ins) (length out) → run_out bs ins out ≡ output_bits bs ins
unfolding run_out
run_writes bs ins out r = when_done _ _ _ (ap (λ (a : Answer). a.number) (run_done bs (length ins) (length out) r))

-- ---- work

-- a valid circuit's work is at most two a gate
pub work_to : (bs : List ℕ) → Valid bs → work_of bs ≤ 2 * gates bs
unfolding work_of sum_to
work_to bs v = go (gates bs) (λ g l. at_most_two g (v.every_gate g l).kind_to)
  where
    at_most_two : (g : ℕ) → kind_at bs g ≤ 13 → (kind_of (kind_at bs g)).work ≤ 2
    at_most_two g h = let e = work_entry (kind_at bs g) h in omega arith

    go : (n : ℕ) → ((g : ℕ) → g < n → (kind_of (kind_at bs g)).work ≤ 2) → sum_to n (λ g. (kind_of (kind_at bs g)).work) ≤ 2 * n
    go zero h = lit≤ tt
    go (suc n) h = let i = go n (λ g l. h g (omega arith)) in let o = h n (omega arith) in omega arith
