-- The measure is the number. Its last digit comes after those of its tenth.
-- Assumes nothing.
use mathlib.Core.Path.{sym, ap, ◌∙◌}
use mathlib.Core.List.{List, [], ◌∷◌}
use Prim.Native.Nat.{ℕ, ◌+◌, ◌/◌, ◌%◌, ◌≤◌, ◌<◌}
use native.Mathlib.Omega.{arith}
use Rattle.report.specs.Decimal.{decimal}
use Rattle.report.specs.Private.{splice}
use Rattle.report.proofs.Digits.{decimal_one, decimal_more, length-one, length_more, length_from}
use Rattle.report.proofs.Spliced.{splice_next}
use Rattle.report.proofs.text.+put_number.Goals as goal

pub put_byte-requires : goal.put_byte-requires
put_byte-requires t c = omega (arith, length_from c.args.n)

pub returns-then-n-lt10 : goal.returns-then-n-lt10
returns-then-n-lt10 t c =
    let a = c.args in
    let h : a.n < 10 = omega arith in
    let e = c.put_byte.ensures in
    record { value = e.value ∙ ap (λ (k : ℕ). a.at + k) (sym (length-one a.n h)); out_after = e.out_after ∙ ap (λ (l : List ℕ). splice a.out.now a.at l) (sym (decimal_one a.n h)) }

pub put_number-next-requires : goal.put_number-next-requires
put_number-next-requires t c =
    let h : 10 ≤ c.args.n = omega arith in
    let l = length_more c.args.n h in
    (omega arith, omega arith)

pub put_byte-requires-2 : goal.put_byte-requires-2
put_byte-requires-2 t c =
    let h : 10 ≤ c.args.n = omega arith in
    let l = length_more c.args.n h in
    let k = c.put_number-next.auto.out in
    omega arith

pub returns : goal.returns
returns t c =
    let a = c.args in
    let h : 10 ≤ a.n = omega arith in
    let l = length_more a.n h in
    let e = c.put_number-next.ensures in
    let d = c.put_byte-2.ensures in
    record {
      value = omega arith;
      out_after = splice_next a.out.now a.at (decimal (a.n / 10)) ((48 + a.n % 10) ∷ []) (omega arith) e.out_after e.value d.out_after ∙ ap (λ (l : List ℕ). splice a.out.now a.at l) (sym (decimal_more a.n h));
    }
