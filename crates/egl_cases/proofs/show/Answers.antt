-- There is room for any text, so `describe` refuses none, and the length that it tells is within the slice that it was lent.
use Rattle.std.proofs.Common.{rules, ◌≡◌, ◌∙◌, ℕ, ◌≤◌, List, arith, sym, length-take-le}
use lib.ListN.{replicate}
use Rattle.std.specs.Prelude.{Ok}
use Rattle.report.specs.Text.{describe_answer}
use Rattle.report.proofs.Lengths.{never_short}
use Rattle.report.proofs.Texts.{length_told}
use Rattle.egl_cases.proofs.show.Goals as goal

within : (bs : List ℕ) (room : ℕ) {k n : ℕ} → describe_answer bs room ≡ Ok k → n ≡ room → k ≤ n
within bs room d e = let l = (length_told bs room d).1 in omega arith

pub unwrap-length-requires : goal.unwrap-length-requires
unwrap-length-requires g c = let e = c.describe.ensures.said ∙ never_short c.args.bytes.now (replicate 1280 0) (search rules) in rw e

pub slice_bounds-text-end : goal.slice_bounds-text-end
slice_bounds-text-end g c = within _ _ (sym c.describe.ensures.said ∙ c.unwrap-length.ensures) c.describe.auto.out

pub slice_bounds-write_all-end : goal.slice_bounds-write_all-end
slice_bounds-write_all-end g c = sym (length-take-le _ _ (within _ _ (sym c.describe.ensures.said ∙ c.unwrap-length.ensures) c.describe.auto.out))
