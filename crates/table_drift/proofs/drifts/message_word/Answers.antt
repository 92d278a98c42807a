-- `table_drift::drifts::message_word` meets its contract: a message's word is a whole number of steps, below half a turn.
-- Assumes nothing.
use mathlib.Core.Path.{sym, ap, ◌∙◌}
use Prim.Native.Nat.{ℕ, ◌*◌, ◌%◌, ◌<◌}
use native.Mathlib.Nat.{mod-lt, mod-eq_of_lt}
use native.Mathlib.Omega.{arith}
use Rattle.ring.specs.Word.{Q}
use Rattle.ring.specs.Centre.{H}
use Rattle.tlwe.proofs.Messages.{modulus_bounds, message_half}
use Rattle.table_drift.proofs.Margins.{word_steps, margin_most}
use Rattle.table_drift.proofs.drifts.message_word.Goals as goal

pub nonzero_rem-steps : goal.nonzero_rem-steps
nonzero_rem-steps c = let b = modulus_bounds c.args.modulus c.requires in omega arith

pub overflow_cast-steps : goal.overflow_cast-steps
overflow_cast-steps c =
    let b = modulus_bounds c.args.modulus c.requires in
    let h : 0 < c.args.modulus = omega arith in
    let l = mod-lt c.args.value h in
    omega arith

pub overflow_mul-margin : goal.overflow_mul-margin
overflow_mul-margin c =
    let b = margin_most c.args.modulus c.requires in
    let e = c.margin.ensures in
    omega arith

pub returns : goal.returns
unfolding Q H
returns c =
    let g = c.args in
    c.mul.ensures
    ∙ ap (λ (x : ℕ). g.value % g.modulus * (2 * x) % Q) c.margin.ensures
    ∙ ap (λ (x : ℕ). x % Q) (sym (word_steps g.value g.modulus c.requires))
    ∙ mod-eq_of_lt (let h = message_half g.value g.modulus c.requires in omega arith)
