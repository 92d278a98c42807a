-- `gates::gate` meets its contract: the scratch has room for a sample of level 1, and no call is refused after the checks.
-- Assumes nothing.
use mathlib.Core.Path.{sym, ap, ◌∙◌}
use Prim.Native.Nat.{ℕ}
use Rattle.params.specs.Refusal.{answer, outcome}
use Rattle.params.proofs.Answers.{done}
use Rattle.words.proofs.Scratch.{scratch}
use Rattle.gates.proofs.Checks.{gate_good, checked_same, not_refused, level1_to, level1_lent}
use Rattle.gates.proofs.Chain.{gate_sampled, gate_switched, gate_made}
use Rattle.gates.proofs.gate.Goals as goal

pub slice_bounds-scratch-end : goal.slice_bounds-scratch-end
slice_bounds-scratch-end c = level1_to c.words.invariant

pub slice_bounds-sample-end : goal.slice_bounds-sample-end
slice_bounds-sample-end c = sym (scratch 1025 _ (level1_to c.words.invariant))

pub returns-in_err-sample : goal.returns-in_err-sample
returns-in_err-sample c =
    let k = checked_same c.in_ok-words.ensures in
    absurd (not_refused c.in_err-sample.ensures.said (gate_sampled c.args.p (gate_good _ _ _ _ _ _ k.0) (level1_lent c.words.invariant (c.words.view_is ∙ k.1))))

pub returns-clause-said : goal.returns-clause-said
returns-clause-said c =
    let k = checked_same c.in_ok-words.ensures in
    let l = c.sample.auto.out ∙ level1_lent c.words.invariant (c.words.view_is ∙ k.1) in
    c.identity_key_switching.ensures.said ∙ ap (λ (n : ℕ). outcome (answer n)) (gate_switched c.args.p (gate_good _ _ _ _ _ _ k.0) l ∙ sym k.0)

pub returns-clause-written : goal.returns-clause-written
returns-clause-written c =
    let g = c.args in
    let k = checked_same c.in_ok-words.ensures in
    let l = level1_lent c.words.invariant (c.words.view_is ∙ k.1) in
    done _ _ _ k.0
    (gate_made g.p g.kind g.a.now g.b.now g.ksk.now g.bsk.now g.out.now _ (gate_good _ _ _ _ _ _ k.0) l c.in_ok-sample.ensures.written c.identity_key_switching.ensures.written)
