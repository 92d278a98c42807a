-- `key::generate::row_into` meets its contract: the row number gives its three indices, and the masks and the noise word of that number lie within those lent.
-- Assumes nothing.
use Rattle.std.proofs.Common.{◌+◌, ◌*◌, ◌≤◌, length, ◌∙◌}
use native.Mathlib.Omega.{arith}
use Rattle.params.specs.Sizes.{switching_rows}
use Rattle.params.proofs.Ranges.{sizes_small}
use Rattle.key.specs.Switching.{carried}
use Rattle.key.specs.Generation.{row_outer, row_field, row_digit}
use Rattle.key.proofs.Places.{outer_below}
use Rattle.key.proofs.Rows.{row_ends, sized}
use Rattle.key.proofs.Draws.{field_fits, row_code}
use Rattle.key.proofs.generate.row_into.Goals as goal

pub bounds-key_lv1-i : goal.bounds-key_lv1-i
unfolding row_outer
bounds-key_lv1-i c =
    let g = c.args in
    let b = c.base_of-digits.ensures in
    rw (c.p.view_is, b.value, c.requires.lent.z_length) (outer_below g.p b.in_range g.r c.requires.row)

pub carried_word-word-requires : goal.carried_word-word-requires
unfolding row_field
carried_word-word-requires c =
    let b = c.base_of-digits.ensures in
    rw (c.p.view_is, b.value) (field_fits c.args.p c.args.r b.in_range)

pub overflow_add-from : goal.overflow_add-from
overflow_add-from c =
    let g = c.args in
    let d = sized c.p.view_is c.p.invariant in
    let ends : g.r * c.p.inside.sizes.n + c.p.inside.sizes.n ≤ switching_rows g.p * g.p.n = rw d.masks (row_ends g.r (switching_rows g.p) g.p.n c.requires.row) in
    let most = (sizes_small g.p d.range).masks in
    omega (arith, ends, most)

pub offset_bounds-masks-from : goal.offset_bounds-masks-from
offset_bounds-masks-from c =
    let g = c.args in
    let d = sized c.p.view_is c.p.invariant in
    let e = row_ends g.r (switching_rows g.p) g.p.n c.requires.row in
    let ends : g.r * c.p.inside.sizes.n + c.p.inside.sizes.n ≤ length g.masks.now = rw (d.masks, c.requires.lent.masks_length) e in
    omega (arith, ends)

pub slice_bounds-encrypted-end : goal.slice_bounds-encrypted-end
slice_bounds-encrypted-end c =
    let g = c.args in
    let d = sized c.p.view_is c.p.invariant in
    let e = row_ends g.r (switching_rows g.p) g.p.n c.requires.row in
    let ends : g.r * c.p.inside.sizes.n + c.p.inside.sizes.n ≤ length g.masks.now = rw (d.masks, c.requires.lent.masks_length) e in
    omega (arith, ends)

pub returns : goal.returns
unfolding carried row_outer row_field row_digit
returns c =
    let g = c.args in
    let d = sized c.p.view_is c.p.invariant in
    let w = rw (c.p.view_is, c.base_of-digits.ensures.value) at c.carried_word-word.ensures in
    let e = rw d.masks at c.encrypted.ensures in
    e ∙ row_code g.p g.key_lv0.now g.key_lv1.now g.masks.now g.noise.now g.r _ c.requires.lent.key_length w
