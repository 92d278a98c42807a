-- `bristol_export::text::put_number` meets its contract: four digits, those that would lead with a zero left out.
-- Assumes nothing.
use mathlib.Core.Path.{ap, ◌∙◌}
use mathlib.Core.Bool.{true}
use mathlib.Core.List.{List, ◌++◌}
use Prim.Native.Nat.{ℕ, ◌+◌, ◌/◌, ◌%◌}
use lib.Dec.{ltb}
use lib.ListN.{length}
use Rattle.bristol_export.specs.Private.{digit_if, laid}
use Rattle.bristol_export.proofs.Laid.{Put, put_next}
use Rattle.bristol_export.proofs.Digits.{digits, digits_decimal}
use Rattle.bristol_export.proofs.text.put_number.Goals as goal

pub returns-clause-value : goal.returns-clause-value
unfolding digits
returns-clause-value c =
    let a = c.args in
    let n = a.n in
    let o = a.out.now in
    let d1 = digit_if (ltb 999 n) (n / 1000) in
    let d2 = digit_if (ltb 99 n) (n / 100 % 10) in
    let d3 = digit_if (ltb 9 n) (n / 10 % 10) in
    let e1 = c.put_digit_if-a.ensures in
    let e2 = c.put_digit_if-b.ensures in
    let e3 = c.put_digit_if-c.ensures in
    let e4 = c.put_digit_if.ensures in
    let w1 : Put o a.at d1 _ _ = record { text = e1.out_after; place = e1.value.0 } in
    let w2 = put_next o a.at d1 d2 w1 e2.value.0 e2.out_after in
    let w3 = put_next o a.at (d1 ++ d2) d3 w2 e3.value.0 e3.out_after in
    let w4 = put_next o a.at (d1 ++ d2 ++ d3) (digit_if true (n % 10)) w3 e4.value.0 e4.out_after in
    let z = digits_decimal n c.requires.1 in
    w4.place ∙ ap (λ (t : List ℕ). a.at + length t) z

pub returns-clause-out_after : goal.returns-clause-out_after
unfolding digits
returns-clause-out_after c =
    let a = c.args in
    let n = a.n in
    let o = a.out.now in
    let d1 = digit_if (ltb 999 n) (n / 1000) in
    let d2 = digit_if (ltb 99 n) (n / 100 % 10) in
    let d3 = digit_if (ltb 9 n) (n / 10 % 10) in
    let e1 = c.put_digit_if-a.ensures in
    let e2 = c.put_digit_if-b.ensures in
    let e3 = c.put_digit_if-c.ensures in
    let e4 = c.put_digit_if.ensures in
    let w1 : Put o a.at d1 _ _ = record { text = e1.out_after; place = e1.value.0 } in
    let w2 = put_next o a.at d1 d2 w1 e2.value.0 e2.out_after in
    let w3 = put_next o a.at (d1 ++ d2) d3 w2 e3.value.0 e3.out_after in
    let w4 = put_next o a.at (d1 ++ d2 ++ d3) (digit_if true (n % 10)) w3 e4.value.0 e4.out_after in
    let z = digits_decimal n c.requires.1 in
    w4.text ∙ ap (λ (t : List ℕ). laid o a.at t) z
