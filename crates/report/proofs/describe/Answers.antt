-- `report::describe` meets its contract: the text is made in an array, and copied where there is room for it.
-- Assumes nothing.
use mathlib.Core.Path.{ap, ◌∙◌}
use mathlib.Core.List.{List}
use Prim.Native.Nat.{ℕ, ◌≤◌}
use native.Mathlib.Omega.{arith}
use lib.ListN.{length, replicate}
use Rattle.report.specs.Private.{splice}
use Rattle.report.specs.Text.{text_of}
use Rattle.report.proofs.Spliced.{splice_front}
use Rattle.report.proofs.Texts.{out_fits, front_text}
use Rattle.report.proofs.describe.Goals as goal

pub returns-clause-written : goal.returns-clause-written
returns-clause-written c =
    let a = c.args in
    let b = a.bytes.now in
    let o = a.out.now in
    let p = c.put_text-n.ensures in
    let e = p.value.0 in
    let h : length (text_of b) ≤ length o = grind arith in
    let t = front_text (replicate 1280 0) (text_of b) p.out_after e in
    c.put.ensures.out_after ∙ ap (λ (x : List ℕ). splice o 0 x) t ∙ splice_front o (text_of b) ∙ out_fits b o h
