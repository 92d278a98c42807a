-- `bristol_form::held::put_bit` meets its contract: a bit that is there already, and one that a power of 2 more sets.
-- Assumes nothing.
use mathlib.Core.Path.{ap, ◌∙◌}
use Prim.Native.Nat.{ℕ, ◌+◌, ◌/◌, ◌%◌, ◌^◌}
use native.Mathlib.Omega.{arith}
use lib.ListN.{set}
use Rattle.ring.specs.Word.{at}
use Rattle.bristol_form.specs.Private.{held_bit}
use Rattle.bristol_form.proofs.Bits.{bit_off, byte_fits, bit_is_on, put_already, put_more}
use Rattle.bristol_form.proofs.held.put_bit.Goals as goal

pub overflow_add-bits : goal.overflow_add-bits
overflow_add-bits c =
    let a = c.args in
    let b = at a.bits.now (a.w / 8) in
    let s = byte_fits b (a.w % 8) (bit_off b c.power-unit.result (2 ^ (a.w % 8)) c.power-unit.ensures c.if-b-unit-eq1.false) (omega arith) (omega arith) in
    omega (arith, c.power-unit.ensures)

pub returns-then-b-unit-eq1-clause-each : goal.returns-then-b-unit-eq1-clause-each
returns-then-b-unit-eq1-clause-each c = let a = c.args in λ v. put_already a.bits.now a.w v (bit_is_on a.bits.now a.w c.power-unit.result c.power-unit.ensures c.if-b-unit-eq1.true)

pub returns-clause-each : goal.returns-clause-each
returns-clause-each c =
    let a = c.args in
    let l = a.bits.now in
    let b = at l (a.w / 8) in λ v. ap (λ (p : ℕ). held_bit (set l (a.w / 8) (b + p)) v) c.power-unit.ensures
    ∙ put_more l a.w v (omega arith) (bit_off b c.power-unit.result (2 ^ (a.w % 8)) c.power-unit.ensures c.if-b-unit-eq1.false)
