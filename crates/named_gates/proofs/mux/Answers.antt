-- `named_gates::mux` meets its contract: the scratch has room for two samples of level 1, and no call is refused after the checks.
-- Assumes nothing.
use mathlib.Core.Path.{refl, sym, ap, ◌∙◌}
use Prim.Native.Nat.{ℕ}
use Rattle.params.specs.Refusal.{answer, outcome}
use Rattle.params.proofs.Answers.{done}
use Rattle.words.proofs.Scratch.{scratch}
use Rattle.gates.proofs.Checks.{checked_same, not_refused, level1_to, level1_lent}
use Rattle.named_gates.proofs.Checks.{mux_good}
use Rattle.named_gates.proofs.Chain.{choice_sampled, choice_switched, mux_switched}
use Rattle.named_gates.proofs.mux.Goals as goal

pub slice_bounds-u-end : goal.slice_bounds-u-end
slice_bounds-u-end c = level1_to c.words.invariant

pub slice_bounds-u-end-2 : goal.slice_bounds-u-end-2
slice_bounds-u-end-2 c = sym (scratch 1025 _ (level1_to c.words.invariant))

pub slice_bounds-v-end : goal.slice_bounds-v-end
slice_bounds-v-end c = level1_to c.words.invariant

pub slice_bounds-v-end-2 : goal.slice_bounds-v-end-2
slice_bounds-v-end-2 c = sym (scratch 1025 _ (level1_to c.words.invariant))

pub returns-in_err-sample : goal.returns-in_err-sample
returns-in_err-sample c =
    let s = checked_same c.in_ok-words.ensures in
    let k = mux_good _ _ _ _ _ _ _ s.0 in
    absurd (not_refused c.in_err-sample.ensures.said (choice_sampled c.args.p k k.first k.second (level1_lent c.words.invariant (c.words.view_is ∙ s.1))))

pub returns-in_err-sample-2 : goal.returns-in_err-sample-2
returns-in_err-sample-2 c =
    let s = checked_same c.in_ok-words.ensures in
    let k = mux_good _ _ _ _ _ _ _ s.0 in
    absurd (not_refused c.in_err-sample-2.ensures.said (choice_sampled c.args.p k k.first k.third (level1_lent c.words.invariant (c.words.view_is ∙ s.1))))

pub switch_sum-requires : goal.switch_sum-requires
switch_sum-requires c =
    let s = checked_same c.in_ok-words.ensures in
    let k = mux_good _ _ _ _ _ _ _ s.0 in
    let l = level1_lent c.words.invariant (c.words.view_is ∙ s.1) in
    record { good = k.good; first = c.sample.auto.out ∙ l; second = c.sample-2.auto.out ∙ l }

pub returns-clause-said : goal.returns-clause-said
returns-clause-said c =
    let s = checked_same c.in_ok-words.ensures in
    let k = mux_good _ _ _ _ _ _ _ s.0 in
    c.switch_sum.ensures.said ∙ ap (λ (n : ℕ). outcome (answer n)) (choice_switched c.args.p k refl ∙ sym s.0)

pub returns-clause-written : goal.returns-clause-written
returns-clause-written c =
    let g = c.args in
    let s = checked_same c.in_ok-words.ensures in
    let k = mux_good _ _ _ _ _ _ _ s.0 in
    let l = level1_lent c.words.invariant (c.words.view_is ∙ s.1) in
    done _ _ _ s.0
    (mux_switched g.p g.a.now g.b.now g.c.now g.ksk.now g.bsk.now g.out.now k _ _ l l c.in_ok-sample.ensures.written c.in_ok-sample-2.ensures.written c.switch_sum.ensures.written)
