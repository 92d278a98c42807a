-- `bristol_export::export` meets its contract: it goes by the circuit's answer and then by the room for the text.
-- Assumes nothing.
use mathlib.Core.Path.{◌≡◌, sym, ap, ◌∙◌}
use Prim.Native.Nat.{◌≤◌, ◌<◌}
use native.Mathlib.Omega.{arith}
use borrow.Author.Tests.{leb-true, leb-false}
use lib.Dec.{leb}
use lib.ListN.{length}
use Rattle.std.specs.Prelude.{Ok, Err}
use Rattle.std.proofs.Common.{rules}
use Rattle.params.specs.declared.refusal.Refusal.TheVariants.{Length}
use Rattle.bristol_export.specs.Text.{exported}
use Rattle.bristol_export.proofs.Answers.{valid, held, failed, said_refused, said_short, said_fits, out_refused, out_short, out_fits}
use Rattle.bristol_export.proofs.export.Goals as goal

pub put_text-length-requires : goal.put_text-length-requires
put_text-length-requires c = valid c.args.bytes.now (sym c.check.ensures ∙ c.in_ok-check.was)

pub put_text-requires : goal.put_text-requires
put_text-requires c = valid c.args.bytes.now (sym c.check.ensures ∙ c.in_ok-check.was)

pub returns-in_err-check-clause-said : goal.returns-in_err-check-clause-said
returns-in_err-check-clause-said c =
    let f : c.from_residual.result ≡ Err c.in_err-check.field-0.0 = search rules in
    f ∙ said_refused c.args.bytes.now (sym c.check.ensures ∙ c.in_err-check.was) (length c.args.out.now)

pub returns-in_err-check-clause-written : goal.returns-in_err-check-clause-written
returns-in_err-check-clause-written c = out_refused c.args.bytes.now (sym c.check.ensures ∙ c.in_err-check.was) c.args.out.now

pub returns-in_err-unless-clause-said : goal.returns-in_err-unless-clause-said
returns-in_err-unless-clause-said c =
    let a = c.args in
    let b = a.bytes.now in
    let v = valid b (sym c.check.ensures ∙ c.in_ok-check.was) in
    let n = c.put_text-length.ensures.value in
    let u = failed (leb c.put_text-length.result (length a.out.now)) Length (sym c.unless.ensures ∙ c.in_err-unless.was) in
    let l = leb-false _ _ u.0 in
    let h : length a.out.now < length (exported b) = omega arith in
    let f : c.from_residual-in_err-unless.result ≡ Err c.in_err-unless.field-0.0 = search rules in
    f ∙ ap (λ r. Err r) u.1 ∙ said_short b v (length a.out.now) h

pub returns-in_err-unless-clause-written : goal.returns-in_err-unless-clause-written
returns-in_err-unless-clause-written c =
    let a = c.args in
    let b = a.bytes.now in
    let v = valid b (sym c.check.ensures ∙ c.in_ok-check.was) in
    let n = c.put_text-length.ensures.value in
    let u = failed (leb c.put_text-length.result (length a.out.now)) Length (sym c.unless.ensures ∙ c.in_err-unless.was) in
    let l = leb-false _ _ u.0 in
    let h : length a.out.now < length (exported b) = omega arith in
    out_short b v a.out.now h

pub returns-clause-said : goal.returns-clause-said
returns-clause-said c =
    let a = c.args in
    let b = a.bytes.now in
    let v = valid b (sym c.check.ensures ∙ c.in_ok-check.was) in
    let n = c.put_text-length.ensures.value in
    let l = leb-true _ _ (held (leb c.put_text-length.result (length a.out.now)) Length (sym c.unless.ensures ∙ c.in_ok-unless.was)) in
    let h : length (exported b) ≤ length a.out.now = omega arith in
    ap (λ n. Ok n) c.put_text.ensures.value ∙ said_fits b v (length a.out.now) h

pub returns-clause-written : goal.returns-clause-written
returns-clause-written c =
    let a = c.args in
    let b = a.bytes.now in
    let v = valid b (sym c.check.ensures ∙ c.in_ok-check.was) in
    let n = c.put_text-length.ensures.value in
    let l = leb-true _ _ (held (leb c.put_text-length.result (length a.out.now)) Length (sym c.unless.ensures ∙ c.in_ok-unless.was)) in
    let h : length (exported b) ≤ length a.out.now = omega arith in
    c.put_text.ensures.out_after ∙ out_fits b v a.out.now h
