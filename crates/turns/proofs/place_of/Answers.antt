-- `turns::place_of` meets its contract: the turns modulo 2N.
-- Assumes nothing.
use mathlib.Core.Path.{ap, ◌∙◌}
use Prim.Native.Nat.{ℕ, ◌+◌, ◌%◌, ◌<◌}
use native.Mathlib.Nat.{mod-lt}
use native.Mathlib.Omega.{arith}
use Rattle.ring.specs.Word.{Q, at}
use Rattle.params.specs.Ranges.{InRange}
use Rattle.rotation.specs.Amount.{body_amount}
use Rattle.rotation.proofs.Amounts.{body_to, body_value}
use Rattle.turns.proofs.Steps.{turn_power, turns_fit, turn_pos, place_is}
use Rattle.turns.proofs.place_of.Goals as goal

pub nonzero_rem-turned : goal.nonzero_rem-turned
nonzero_rem-turned c =
    let r : InRange c.args.p = rw c.p.view_is at c.p.invariant.0 in
    turn_pos c.args.p r (rw c.p.view_is at c.power-turn.ensures ∙ turn_power c.args.p r)

pub overflow_add-turned : goal.overflow_add-turned
unfolding Q
overflow_add-turned c =
    let r : InRange c.args.p = rw c.p.view_is at c.p.invariant.0 in
    let h = turns_fit c.args.p r c.unwrap_or-body.result.0 c.masks_turn-masks.result (rw c.p.view_is at c.power-turn.ensures ∙ turn_power c.args.p r) (rw (body_value c.args.p r _ _ c.p.view_is c.body_amount.ensures c.unwrap_or-body.ensures) (body_to c.args.p r _)) in
    omega arith

pub nonzero_rem-turned-2 : goal.nonzero_rem-turned-2
nonzero_rem-turned-2 c =
    let r : InRange c.args.p = rw c.p.view_is at c.p.invariant.0 in
    turn_pos c.args.p r (rw c.p.view_is at c.power-turn.ensures ∙ turn_power c.args.p r)

pub overflow_sub-result : goal.overflow_sub-result
overflow_sub-result c =
    let r : InRange c.args.p = rw c.p.view_is at c.p.invariant.0 in
    let some : 0 < c.power-turn.result = turn_pos c.args.p r (rw c.p.view_is at c.power-turn.ensures ∙ turn_power c.args.p r) in
    let l = mod-lt (c.unwrap_or-body.result.0 + c.masks_turn-masks.result % c.power-turn.result) some in
    omega arith

pub nonzero_rem-result : goal.nonzero_rem-result
nonzero_rem-result c =
    let r : InRange c.args.p = rw c.p.view_is at c.p.invariant.0 in
    turn_pos c.args.p r (rw c.p.view_is at c.power-turn.ensures ∙ turn_power c.args.p r)

pub returns : goal.returns
returns c =
    let g = c.args in
    let r : InRange g.p = rw c.p.view_is at c.p.invariant.0 in
    place_is g.p r g.key.now g.src.now (rw c.p.view_is at c.power-turn.ensures ∙ turn_power g.p r)
    (body_value g.p r _ _ c.p.view_is c.body_amount.ensures c.unwrap_or-body.ensures ∙ ap (λ (i : ℕ). body_amount g.p (at g.src.now i)) c.requires.long) c.masks_turn-masks.ensures
