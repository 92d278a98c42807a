-- `utils::f64_to_torus` meets its contract: by the product's sign the facts are those of `proofs/Cut.antt`.
-- Assumes nothing.
use Rattle.std.proofs.Common.{true, false, sym, ◌∙◌, arith, rules}
use lib.Ieee.{of_bits}
use Rattle.ring.specs.Word.{Q}
use Rattle.utils.proofs.Laws.{signed_negative}
use Rattle.utils.proofs.Cut.{undefined, negative, nonnegative, below_q, is_word}
use Rattle.utils.proofs.f64_to_torus.Goals as goal

pub returns-then-is_nan : goal.returns-then-is_nan
returns-then-is_nan c = undefined c.args.d _ c.scaled_fraction-p.ensures (sym c.is_nan.ensures.value ∙ c.if-is_nan.true)

pub truncating_f64_to_u64-requires : goal.truncating_f64_to_u64-requires
unfolding of_bits
truncating_f64_to_u64-requires c =
    let w = negative c.args.d _ c.scaled_fraction-p.ensures c.if-p.true in
    record { lower_bound = w.0; upper_bound = w.1 }

pub overflow_cast-truncating_f64_to_u64 : goal.overflow_cast-truncating_f64_to_u64
unfolding Q of_bits
overflow_cast-truncating_f64_to_u64 c =
    let w = negative c.args.d _ c.scaled_fraction-p.ensures c.if-p.true in
    omega (arith, below_q true _ _ w c.truncating_f64_to_u64.ensures)

pub returns-then-p : goal.returns-then-p
unfolding of_bits
returns-then-p c =
    let w = negative c.args.d _ c.scaled_fraction-p.ensures c.if-p.true in
    let e = is_word true _ _ w c.truncating_f64_to_u64.ensures ∙ signed_negative _ in
    search rules

pub truncating_f64_to_u64-requires-else-p : goal.truncating_f64_to_u64-requires-else-p
unfolding of_bits
truncating_f64_to_u64-requires-else-p c =
    let w = nonnegative c.args.d _ c.scaled_fraction-p.ensures (sym c.is_nan.ensures.value ∙ c.if-is_nan.false) c.if-p.false in
    record { lower_bound = w.0; upper_bound = w.1 }

pub overflow_cast-result : goal.overflow_cast-result
unfolding Q of_bits
overflow_cast-result c =
    let w = nonnegative c.args.d _ c.scaled_fraction-p.ensures (sym c.is_nan.ensures.value ∙ c.if-is_nan.false) c.if-p.false in
    omega (arith, below_q false _ _ w c.truncating_f64_to_u64-else-p.ensures)

pub returns-else-p : goal.returns-else-p
unfolding Q of_bits
returns-else-p c =
    let w = nonnegative c.args.d _ c.scaled_fraction-p.ensures (sym c.is_nan.ensures.value ∙ c.if-is_nan.false) c.if-p.false in
    omega (arith, below_q false _ _ w c.truncating_f64_to_u64-else-p.ensures, is_word false _ _ w c.truncating_f64_to_u64-else-p.ensures)
