-- What texts in the form have besides: each gate sets a wire, so that wires are left for the gates to come; a set wire is a wire; without MAND a gate has one result.
-- Assumes nothing.
use mathlib.Core.Path.{◌≡◌}
use mathlib.Core.Logic.{⊎_elim}
use mathlib.Core.Bool.{true}
use mathlib.Core.List.{List}
use Prim.Native.Nat.{ℕ, zero, suc, ◌+◌, ◌-◌, ◌≤◌, ◌<◌}
use native.Mathlib.Omega.{arith}
use borrow.Author.Tests.{ltb-true}
use Rattle.bristol_form.specs.Says.{gates, wires, inputs, gate_at, result_count, set_by, is_set, set_count}
use Rattle.bristol_form.specs.Valid.{Fits, binary, unary, constant, many, InForm, InLimits}
use Rattle.bristol_form.proofs.AcceptTests.{one_true}
use Rattle.bristol_form.proofs.Laws.{among_one, counts_leave}

pub results_some : (text : List ℕ) (p : ℕ) → Fits text p → 1 ≤ result_count text p
results_some text p (binary n k r) = omega arith
results_some text p (unary n k r) = omega arith
results_some text p (constant n k r c) = omega arith
results_some text p (many n m k) = m

module _ (text : List ℕ) (f : InForm text) where
  -- after j gates a wire is left for each gate to come
  pub wires_left : (j : ℕ) → j ≤ gates text → set_count text j + (gates text - j) ≤ wires text
  wires_left j h =
      let l = counts_leave text (gates text) j (λ i l. results_some text (gate_at text i) (f.every_gate i l).fits) h in
      let e = f.all_set in
      omega arith

  pub inputs_and_gates : inputs text + gates text ≤ wires text
  unfolding set_count
  inputs_and_gates = let l = wires_left 0 (omega arith) in omega arith

  -- a wire that is set is a wire
  pub set_wire : (j w : ℕ) → j ≤ gates text → is_set text j w ≡ true → w < wires text
  unfolding is_set
  set_wire zero w h e = let l = inputs_and_gates in let m = ltb-true w (inputs text) e in omega arith
  set_wire (suc j) w h e =
      let p = gate_at text j in
      ⊎_elim
      (λ s. set_wire j w (omega arith) s)
      (λ s. let r = among_one text _ (result_count text p) w s in rw r.2 ((f.every_gate j (omega arith)).results_wires r.0 r.1))
      (one_true (is_set text j w) (set_by text p (result_count text p) w) e)

  -- ---- without MAND

  module _ (w : InLimits text) (j : ℕ) (l : j < gates text) where
    pub one_result : result_count text (gate_at text j) ≡ 1
    one_result = go (f.every_gate j l).fits
      where
        go : Fits text (gate_at text j) → result_count text (gate_at text j) ≡ 1
        go (binary n k r) = r
        go (unary n k r) = r
        go (constant n k r c) = r
        go (many n m k) = absurd (w.no_mand j l n)
