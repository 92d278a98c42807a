-- How long the parts of a text are, from a number up to the whole: a number has at most four digits, a line at most 23 bytes, a gate at most three lines.
-- Assumes nothing.
use mathlib.Core.Bool.{Bool, true, false, cond}
use mathlib.Core.List.{List, [], ◌∷◌, ◌++◌}
use Prim.Native.Nat.{ℕ, zero, suc, ◌+◌, ◌*◌, ◌≤◌, ◌<◌}
use native.Mathlib.Nat.{le_refl}
use native.Mathlib.Omega.{arith}
use lib.Dec.{ltb, lit<, lit≤}
use lib.ListN.{length, length-append}
use Rattle.ring.specs.Lists.{joined}
use Rattle.circuit.specs.Form.{inputs, gates, outputs, kind_at, operand_at, output_at}
use Rattle.circuit.specs.Valid.{Valid}
use Rattle.report.specs.Decimal.{decimal}
use Rattle.bristol_export.specs.Steps.{source_of, count, step_at}
use Rattle.bristol_export.specs.Text.{ended, reads_two, reads_one, space, name_end, two_text, one_text, line_text, first_wire, text_wire, step_text, steps_text, gate_text, output_text, lines, head_text, exported, longest_text}
use Rattle.bristol_export.proofs.Columns.{count_to, first_entry, second_entry, source_below}
use Rattle.bristol_export.proofs.Digits.{length_two, length_three, length_four}
use Rattle.bristol_export.proofs.Wires.{lines_to_lem, wire_small, first_small, operand_wire}

-- ---- numbers and lines

length-ended_by : (n k : ℕ) (end : List ℕ) → length (decimal n) ≤ k → length (ended n end) ≤ k + length end
unfolding ended
length-ended_by n k end h = let l = length-append (decimal n) end in omega arith

pub length-ended : (n : ℕ) (end : List ℕ) → n < 10000 → length (ended n end) ≤ 4 + length end
length-ended n end h = length-ended_by n 4 end (length_four n h)

module _ (x y n : ℕ) (end : List ℕ) (hx : x < 10000) (hy : y < 10000) (hn : n < 10000) (short : length end ≤ 5) where
  length-two_text : length (two_text x y n end) ≤ 23
  unfolding two_text
  length-two_text =
      let a = length-append reads_two (ended x space) in
      let b = length-append (reads_two ++ ended x space) (ended y space) in
      let c = length-append (reads_two ++ ended x space ++ ended y space) (ended n end) in
      let lx = length-ended x space hx in
      let ly = length-ended y space hy in
      let ln = length-ended n end hn in
      omega arith

  length-one_text : length (one_text x n end) ≤ 18
  unfolding one_text
  length-one_text =
      let a = length-append reads_one (ended x space) in
      let b = length-append (reads_one ++ ended x space) (ended n end) in
      let lx = length-ended x space hx in
      let ln = length-ended n end hn in
      omega arith

length_name : (name : ℕ) → length (name_end name) ≤ 5
unfolding name_end
length_name zero = lit≤ tt
length_name (suc zero) = lit≤ tt
length_name (suc (suc zero)) = lit≤ tt
length_name (suc (suc (suc zero))) = lit≤ tt
length_name (suc (suc (suc (suc zero)))) = lit≤ tt
length_name (suc (suc (suc (suc (suc zero))))) = lit≤ tt
length_name (suc (suc (suc (suc (suc (suc name)))))) = lit≤ tt

pub length_line : (name x y n : ℕ) → x < 10000 → y < 10000 → n < 10000 → length (line_text name x y n) ≤ 23
unfolding line_text
length_line name x y n hx hy hn = go (ltb name 3)
  where
    go : (b : Bool) → length (cond b (two_text x y n (name_end name)) (one_text x n (name_end name))) ≤ 23
    go true = length-two_text x y n (name_end name) hx hy hn (length_name name)
    go false = let l = length-one_text x y n (name_end name) hx hy hn (length_name name) in omega arith

-- ---- lists one after another

pub length_rows : (m : ℕ) (f : ℕ → List ℕ) (k : ℕ) → ((r : ℕ) → r < k → length (f r) ≤ m) → length (joined k f) ≤ m * k
unfolding joined
length_rows m f zero h = omega arith
length_rows m f (suc k) h =
    let l = length-append (joined k f) (f k) in
    let i = length_rows m f k (λ r b. h r (omega arith)) in
    let o = h k (omega arith) in
    omega arith

-- ---- gates

module _ (k a b c n : ℕ) (h : k ≤ 13) (ha : a < 9990) (hb : b < 9990) (hc : c < 9990) (hn : n < 9990) where
  length_step : (s : ℕ) → s < count k → length (step_text k a b c n s) ≤ 23
  unfolding step_text
  length_step s l =
      let t = count_to k h in
      let f = first_entry k s h l in
      let g = second_entry k s h l in
      length_line (step_at k s).name (source_of (step_at k s).first a b c n) (source_of (step_at k s).second a b c n) (n + s)
      (source_below (step_at k s).first a b c n 10000 (omega arith) (omega arith) (omega arith) (omega arith) (omega arith))
      (source_below (step_at k s).second a b c n 10000 (omega arith) (omega arith) (omega arith) (omega arith) (omega arith)) (omega arith)

  -- the first lines of a gate
  pub length_steps_to : (s : ℕ) → s ≤ count k → length (joined s (step_text k a b c n)) ≤ 69
  length_steps_to s l =
      let t = count_to k h in
      let r = length_rows 23 (step_text k a b c n) s (λ r b. length_step r (omega arith)) in
      omega arith

module _ (bs : List ℕ) (v : Valid bs) where
  length_gate : (g : ℕ) → g < gates bs → length (gate_text bs g) ≤ 69
  unfolding gate_text steps_text
  length_gate g h =
      let a = wire_small bs v (operand_at bs g 0) (operand_wire bs v g h 0 (lit< tt)) in
      let b = wire_small bs v (operand_at bs g 1) (operand_wire bs v g h 1 (lit< tt)) in
      let c = wire_small bs v (operand_at bs g 2) (operand_wire bs v g h 2 (lit< tt)) in
      let n = first_small bs v g (omega arith) in
      length_steps_to (kind_at bs g) (text_wire bs (operand_at bs g 0)) (text_wire bs (operand_at bs g 1)) (text_wire bs (operand_at bs g 2)) (first_wire bs g) (v.every_gate g h).kind_to
      (omega arith) (omega arith) (omega arith) (omega arith) (count (kind_at bs g)) (le_refl (count (kind_at bs g)))

  -- the lines of the first gates
  pub length-gates : (g : ℕ) → g ≤ gates bs → length (joined g (gate_text bs)) ≤ 69 * g
  length-gates g h = length_rows 69 (gate_text bs) g (λ r b. length_gate r (omega arith))

  length_output : (o : ℕ) → o < outputs bs → length (output_text bs o) ≤ 18
  unfolding output_text line_text
  length_output o h =
      let w = wire_small bs v (output_at bs o) (v.every_output o h) in
      let n = first_small bs v (gates bs) (le_refl (gates bs)) in
      let m = v.head.outputs_to in
      length-one_text (text_wire bs (output_at bs o)) 0 (first_wire bs (gates bs) + o) (name_end 5) (omega arith) (lit< tt) (omega arith) (length_name 5)

  pub length-outputs : (o : ℕ) → o ≤ outputs bs → length (joined o (output_text bs)) ≤ 18 * o
  length-outputs o h = length_rows 18 (output_text bs) o (λ r b. length_output r (omega arith))

  -- ---- the whole

  pub lines_small : lines bs ≤ 3136
  unfolding lines
  lines_small =
      let l = lines_to_lem bs v (gates bs) (le_refl (gates bs)) in
      let h = v.head in
      let g = h.gates_to in
      let o = h.outputs_to in
      omega arith

  pub length_head : length (head_text bs) ≤ 22
  unfolding head_text
  length_head =
      let h = v.head in
      let hi = h.inputs_to in
      let ho = h.outputs_to in
      let s = lines_small in
      let t1 = ended (lines bs) space in
      let t2 = ended (inputs bs + lines bs) (10 ∷ 49 ∷ 32 ∷ []) in
      let t3 = ended (inputs bs) (10 ∷ 49 ∷ 32 ∷ []) in
      let t4 = ended (outputs bs) (10 ∷ 10 ∷ []) in
      let l1 = length-ended (lines bs) space (omega arith) in
      let l2 = length-ended (inputs bs + lines bs) (10 ∷ 49 ∷ 32 ∷ []) (omega arith) in
      let l3 = length-ended_by (inputs bs) 3 (10 ∷ 49 ∷ 32 ∷ []) (length_three (inputs bs) (omega arith)) in
      let l4 = length-ended_by (outputs bs) 2 (10 ∷ 10 ∷ []) (length_two (outputs bs) (omega arith)) in
      let a = length-append t1 t2 in
      let b = length-append (t1 ++ t2) t3 in
      let c = length-append (t1 ++ t2 ++ t3) t4 in
      omega arith

  pub never_longer : length (exported bs) ≤ longest_text
  unfolding exported
  never_longer =
      let h = v.head in
      let hg = h.gates_to in
      let ho = h.outputs_to in
      let l = length_head in
      let g = length-gates (gates bs) (le_refl (gates bs)) in
      let o = length-outputs (outputs bs) (le_refl (outputs bs)) in
      let a = length-append (head_text bs) (joined (gates bs) (gate_text bs)) in
      let b = length-append (head_text bs ++ joined (gates bs) (gate_text bs)) (joined (outputs bs) (output_text bs)) in
      omega arith
