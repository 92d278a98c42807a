-- `named_gates::mux_naive` meets its contract: the scratch has room for two ciphertexts of level 0, and no call is refused after the checks.
-- Assumes nothing.
use mathlib.Core.Path.{sym, ap, ◌∙◌}
use Prim.Native.Nat.{ℕ}
use Rattle.params.specs.Refusal.{answer, outcome}
use Rattle.params.proofs.Answers.{done}
use Rattle.words.proofs.Scratch.{scratch}
use Rattle.gates.proofs.Checks.{checked_same, not_refused, level0_to, level0_lent}
use Rattle.named_gates.proofs.Checks.{mux_good}
use Rattle.named_gates.proofs.Chain.{choice_gated, choice_negated, naive_made}
use Rattle.named_gates.proofs.mux_naive.Goals as goal

pub slice_bounds-u-end : goal.slice_bounds-u-end
slice_bounds-u-end c = let k = mux_good _ _ _ _ _ _ _ (checked_same c.in_ok-mux_checks.ensures).0 in level0_to _ _ k.good k.first

pub slice_bounds-u-end-2 : goal.slice_bounds-u-end-2
slice_bounds-u-end-2 c = let k = mux_good _ _ _ _ _ _ _ (checked_same c.in_ok-mux_checks.ensures).0 in sym (scratch 1101 _ (level0_to _ _ k.good k.first))

pub slice_bounds-v-end : goal.slice_bounds-v-end
slice_bounds-v-end c = let k = mux_good _ _ _ _ _ _ _ (checked_same c.in_ok-mux_checks.ensures).0 in level0_to _ _ k.good k.first

pub slice_bounds-v-end-2 : goal.slice_bounds-v-end-2
slice_bounds-v-end-2 c = let k = mux_good _ _ _ _ _ _ _ (checked_same c.in_ok-mux_checks.ensures).0 in sym (scratch 1101 _ (level0_to _ _ k.good k.first))

pub returns-in_err-not : goal.returns-in_err-not
returns-in_err-not c =
    let k = mux_good _ _ _ _ _ _ _ (checked_same c.in_ok-mux_checks.ensures).0 in
    absurd (not_refused c.in_err-not.ensures.said (choice_negated c.args.p k (level0_lent _ _ k.good k.first)))

pub returns-in_err-gate : goal.returns-in_err-gate
returns-in_err-gate c =
    let k = mux_good _ _ _ _ _ _ _ (checked_same c.in_ok-mux_checks.ensures).0 in
    let l = level0_lent _ _ k.good k.first in
    absurd (not_refused c.in_err-gate.ensures.said (choice_gated c.args.p k (c.not.auto.out ∙ l) k.third l))

pub returns-in_err-gate-2 : goal.returns-in_err-gate-2
returns-in_err-gate-2 c =
    let k = mux_good _ _ _ _ _ _ _ (checked_same c.in_ok-mux_checks.ensures).0 in
    absurd (not_refused c.in_err-gate-2.ensures.said (choice_gated c.args.p k k.first k.second (c.not.auto.out ∙ level0_lent _ _ k.good k.first)))

pub returns-clause-said : goal.returns-clause-said
returns-clause-said c =
    let s = checked_same c.in_ok-mux_checks.ensures in
    let k = mux_good _ _ _ _ _ _ _ s.0 in
    let l = level0_lent _ _ k.good k.first in
    c.gate-3.ensures.said ∙ ap (λ (n : ℕ). outcome (answer n)) (choice_gated c.args.p k (c.gate-2.auto.out ∙ c.not.auto.out ∙ l) (c.gate.auto.out ∙ l) k.result ∙ sym s.0)

pub returns-clause-written : goal.returns-clause-written
returns-clause-written c =
    let g = c.args in
    let s = checked_same c.in_ok-mux_checks.ensures in
    let k = mux_good _ _ _ _ _ _ _ s.0 in
    let l = level0_lent _ _ k.good k.first in
    done _ _ _ s.0
    (naive_made g.p g.a.now g.b.now g.c.now g.ksk.now g.bsk.now g.out.now k _ _ _ (c.not.auto.out ∙ l) l l
    c.in_ok-gate-2.ensures.written c.in_ok-not.ensures.written c.in_ok-gate.ensures.written c.gate-3.ensures.written)
