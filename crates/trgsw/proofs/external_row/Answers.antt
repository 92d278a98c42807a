-- `trgsw::external_row` meets its contract: the parts of the lent rows are the row's halves, the callees refuse nothing, and each product is added.
-- Assumes nothing.
use mathlib.Core.Path.{◌∙◌}
use Prim.Native.Nat.{◌+◌, ◌*◌}
use native.Mathlib.Omega.{arith}
use lib.ListN.{length}
use Rattle.params.proofs.Ranges.{not_refused}
use Rattle.ring.specs.Pair.{Pair}
use Rattle.ring.proofs.Parts.{slice_length}
use Rattle.decomposition.proofs.Flat.{length_pair}
use Rattle.trgsw.proofs.Checks.{row_fits, half_a, half_b, digits_put, product_added}
use Rattle.trgsw.proofs.external_row.Goals as goal

pub returns : goal.returns
returns c =
    let g = c.args in
    let w = c.requires.words in
    let v = c.p.view_is in
    let z = not_refused g.p (rw v at c.p.invariant.0) in
    let x : Pair = record { a = g.a.now; b = g.b.now } in
    let n = length g.a.now in
    let at = g.r * (n + n) in
    let fit = row_fits g.p g.r n c.requires.row w.0 c.requires.rows in
    let d = digits_put g.p z x g.r c.requires.row w.0 w.1.0 g.d.now w.1.1.0 (rw v at c.digit_polynomial.ensures.written) in
    record {
      outa_after = product_added g.p z g.outa.now w.1.1.1.0 d (length_pair g.p x g.r) (half_a g.p g.rows.now g.r n w.0)
          (slice_length g.rows.now at n (omega (arith, fit)) ∙ w.0) (rw v at c.poly_mul_add.ensures.written);
      outb_after = product_added g.p z g.outb.now w.1.1.1.1.0 d (length_pair g.p x g.r) (half_b g.p g.rows.now g.r n w.0)
          (slice_length g.rows.now (at + n) n fit ∙ w.0) (rw v at c.poly_mul_add-2.ensures.written);
    }
