-- There is room for any text, so the whole one is told, and bytes past those that were read would change nothing.
use Rattle.std.proofs.Common.{rules, arith, ◌≡◌, ◌∙◌, ap, take, length, ℕ}
use Rattle.report.specs.Text.{text_of}
use Rattle.report.proofs.Lengths.{text_fits, read_told, never_short, told_whole}
use Rattle.egl.proofs.tell.Goals as goal

pub unwrap-requires : goal.unwrap-requires
unwrap-requires c =
    let a = c.args in
    let e = c.describe.ensures.said ∙ never_short (take a.n a.input.now) a.text.now (search rules) in
    rw e

pub returns-clause-fits : goal.returns-clause-fits
returns-clause-fits c =
    let a = c.args in
    let e = c.describe.ensures.said ∙ never_short (take a.n a.input.now) a.text.now (search rules) in
    let h : c.unwrap.result ≡ length (text_of (take a.n a.input.now)) = cc in
    let l = text_fits (take a.n a.input.now) in
    let k = c.describe.auto.out in
    omega arith

pub returns-clause-told : goal.returns-clause-told
returns-clause-told c =
    let a = c.args in
    let rs = take a.n a.input.now in
    let e = c.describe.ensures.said ∙ never_short rs a.text.now (search rules) in
    let h : c.unwrap.result ≡ length (text_of rs) = cc in
    λ bs f. ap (λ (n : ℕ). take n c.describe.new.out) h ∙ told_whole rs a.text.now (search rules) c.describe.ensures.written ∙ read_told a.input.now bs a.n (search rules) f
