-- `bristol::whole::import` meets its contract: the text's refusal, then the room, then the circuit.
-- Assumes nothing.
use mathlib.Core.Path.{◌≡◌, sym, ap, ◌∙◌}
use Prim.Native.Nat.{◌+◌, ◌*◌, ◌≤◌, ◌<◌}
use native.Mathlib.Omega.{arith}
use borrow.Author.Tests.{leb-true, leb-false}
use lib.ListN.{length}
use lib.Dec.{leb}
use Rattle.std.specs.Prelude.{Err}
use Rattle.std.proofs.Common.{rules}
use Rattle.params.specs.declared.refusal.Refusal.TheVariants.{Length}
use Rattle.bristol_form.proofs.Tells.{unless_failed, unless_held}
use Rattle.bristol.specs.Import.{imported_length}
use Rattle.bristol.proofs.Imports.{checked_good, length_sum, parts_small, said_refused, said_short, said_done, out_refused, out_short, out_done}
use Rattle.bristol.proofs.whole.import.Goals as goal

pub overflow_mul-length : goal.overflow_mul-length
overflow_mul-length c = let p = parts_small c.args.text.now c.in_ok-c.c (checked_good c.args.text.now c.in_ok-c.c (sym c.check.ensures ∙ c.in_ok-c.was)) in omega arith

pub overflow_add-length : goal.overflow_add-length
overflow_add-length c = let p = parts_small c.args.text.now c.in_ok-c.c (checked_good c.args.text.now c.in_ok-c.c (sym c.check.ensures ∙ c.in_ok-c.was)) in omega arith

pub overflow_mul-length-2 : goal.overflow_mul-length-2
overflow_mul-length-2 c = let p = parts_small c.args.text.now c.in_ok-c.c (checked_good c.args.text.now c.in_ok-c.c (sym c.check.ensures ∙ c.in_ok-c.was)) in omega arith

pub overflow_add-length-2 : goal.overflow_add-length-2
overflow_add-length-2 c = let p = parts_small c.args.text.now c.in_ok-c.c (checked_good c.args.text.now c.in_ok-c.c (sym c.check.ensures ∙ c.in_ok-c.was)) in omega arith

pub returns-in_err-c-clause-said : goal.returns-in_err-c-clause-said
returns-in_err-c-clause-said c =
    let f : c.from_residual.result ≡ Err c.in_err-c.field-0.0 = search rules in
    f ∙ said_refused c.args.text.now (length c.args.out.now) (sym c.check.ensures ∙ c.in_err-c.was)

pub returns-in_err-c-clause-written : goal.returns-in_err-c-clause-written
returns-in_err-c-clause-written c = out_refused c.args.text.now c.args.out.now (sym c.check.ensures ∙ c.in_err-c.was)

pub returns-in_err-unless-clause-said : goal.returns-in_err-unless-clause-said
returns-in_err-unless-clause-said c =
    let a = c.args in
    let k = checked_good a.text.now c.in_ok-c.c (sym c.check.ensures ∙ c.in_ok-c.was) in
    let l = length_sum a.text.now c.in_ok-c.c k in
    let u = unless_failed (leb (11 + 8 * c.in_ok-c.c.made + 2 * c.in_ok-c.c.outputs) (length a.out.now)) Length (sym c.unless.ensures ∙ c.in_err-unless.was) in
    let h = leb-false _ _ u.0 in
    let short : length a.out.now < imported_length a.text.now = omega arith in
    let f : c.from_residual-in_err-unless.result ≡ Err c.in_err-unless.field-0.0 = search rules in
    f ∙ ap (λ r. Err r) u.1 ∙ said_short a.text.now (length a.out.now) k.good short

pub returns-in_err-unless-clause-written : goal.returns-in_err-unless-clause-written
returns-in_err-unless-clause-written c =
    let a = c.args in
    let k = checked_good a.text.now c.in_ok-c.c (sym c.check.ensures ∙ c.in_ok-c.was) in
    let l = length_sum a.text.now c.in_ok-c.c k in
    let u = unless_failed (leb (11 + 8 * c.in_ok-c.c.made + 2 * c.in_ok-c.c.outputs) (length a.out.now)) Length (sym c.unless.ensures ∙ c.in_err-unless.was) in
    let h = leb-false _ _ u.0 in
    let short : length a.out.now < imported_length a.text.now = omega arith in
    out_short a.text.now a.out.now k.good short

pub import_into-requires : goal.import_into-requires
import_into-requires c =
    let a = c.args in
    let k = checked_good a.text.now c.in_ok-c.c (sym c.check.ensures ∙ c.in_ok-c.was) in
    let l = length_sum a.text.now c.in_ok-c.c k in
    let h = leb-true _ _ (unless_held (leb (11 + 8 * c.in_ok-c.c.made + 2 * c.in_ok-c.c.outputs) (length a.out.now)) Length (sym c.unless.ensures ∙ c.in_ok-unless.was)) in
    let fits : imported_length a.text.now ≤ length a.out.now = omega arith in
    ((sym c.check.ensures ∙ c.in_ok-c.was), fits)

pub returns-clause-said : goal.returns-clause-said
returns-clause-said c =
    let a = c.args in
    let k = checked_good a.text.now c.in_ok-c.c (sym c.check.ensures ∙ c.in_ok-c.was) in
    let l = length_sum a.text.now c.in_ok-c.c k in
    let h = leb-true _ _ (unless_held (leb (11 + 8 * c.in_ok-c.c.made + 2 * c.in_ok-c.c.outputs) (length a.out.now)) Length (sym c.unless.ensures ∙ c.in_ok-unless.was)) in
    let fits : imported_length a.text.now ≤ length a.out.now = omega arith in
    said_done a.text.now (length a.out.now) k.good _ l fits

pub returns-clause-written : goal.returns-clause-written
returns-clause-written c =
    let a = c.args in
    let k = checked_good a.text.now c.in_ok-c.c (sym c.check.ensures ∙ c.in_ok-c.was) in
    let l = length_sum a.text.now c.in_ok-c.c k in
    let h = leb-true _ _ (unless_held (leb (11 + 8 * c.in_ok-c.c.made + 2 * c.in_ok-c.c.outputs) (length a.out.now)) Length (sym c.unless.ensures ∙ c.in_ok-unless.was)) in
    let fits : imported_length a.text.now ≤ length a.out.now = omega arith in
    out_done a.text.now a.out.now k.good c.import_into.new.out fits c.import_into.ensures
