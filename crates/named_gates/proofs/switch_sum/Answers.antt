-- `named_gates::switch_sum` meets its contract: the scratch has room for a sample of level 1, and the sum is not refused.
-- Assumes nothing.
use mathlib.Core.Path.{sym, ap, ◌∙◌}
use mathlib.Core.List.{List}
use Prim.Native.Nat.{ℕ}
use native.Mathlib.Omega.{arith}
use lib.ListN.{length}
use Rattle.params.specs.Refusal.{answer, outcome, if_done}
use Rattle.params.proofs.Ranges.{in_range, size_to}
use Rattle.params.proofs.Answers.{when_done}
use Rattle.words.proofs.Scratch.{scratch}
use Rattle.tlwe.specs.declared.Level.TheVariants.{One}
use Rattle.tlwe.proofs.Checks.{linear_done}
use Rattle.gate_sums.specs.Sum.{mux_sum}
use Rattle.gate_sums.proofs.Sums.{mux_sum_length}
use Rattle.switching.specs.Switched.{switch_number, switched}
use Rattle.gates.proofs.Checks.{not_refused}
use Rattle.named_gates.proofs.switch_sum.Goals as goal

pub slice_bounds-sum-end : goal.slice_bounds-sum-end
slice_bounds-sum-end c = let m = size_to c.args.p (in_range c.args.p c.requires.good) in omega (arith, m, c.requires.first)

pub slice_bounds-sum-end-2 : goal.slice_bounds-sum-end-2
slice_bounds-sum-end-2 c = let m = size_to c.args.p (in_range c.args.p c.requires.good) in sym (scratch 1025 _ (omega (arith, m, c.requires.first)))

pub returns-in_err-mux_sum : goal.returns-in_err-mux_sum
returns-in_err-mux_sum c =
    let g = c.args in
    let m = size_to g.p (in_range g.p c.requires.good) in
    let l = scratch 1025 (length g.u.now) (omega (arith, m, c.requires.first)) ∙ c.requires.first in
    absurd (not_refused c.in_err-mux_sum.ensures.said (linear_done g.p One _ _ _ (record { good = c.requires.good; first = c.requires.first; second = c.requires.second; result = l })))

pub returns-clause-said : goal.returns-clause-said
returns-clause-said c =
    let g = c.args in
    let m = size_to g.p (in_range g.p c.requires.good) in
    let l = scratch 1025 (length g.u.now) (omega (arith, m, c.requires.first)) ∙ c.requires.first in
    c.identity_key_switching.ensures.said ∙ ap (λ (n : ℕ). outcome (answer (switch_number g.p n (length g.ksk.now) (length g.out.now)))) (c.mux_sum.auto.out ∙ l)

pub returns-clause-written : goal.returns-clause-written
returns-clause-written c =
    let g = c.args in
    let m = size_to g.p (in_range g.p c.requires.good) in
    let l = scratch 1025 (length g.u.now) (omega (arith, m, c.requires.first)) ∙ c.requires.first in
    let z = linear_done g.p One _ _ _ (record { good = c.requires.good; first = c.requires.first; second = c.requires.second; result = l }) in
    let e = c.in_ok-mux_sum.ensures.written ∙ when_done _ _ _ z in
    let sum = mux_sum g.p g.u.now g.v.now in
    c.identity_key_switching.ensures.written
    ∙ ap (λ (x : List ℕ). if_done (switch_number g.p (length x) (length g.ksk.now) (length g.out.now)) (switched g.p g.ksk.now x) g.out.now) e
    ∙ ap (λ (n : ℕ). if_done (switch_number g.p n (length g.ksk.now) (length g.out.now)) (switched g.p g.ksk.now sum) g.out.now) (mux_sum_length g.p g.u.now g.v.now)
