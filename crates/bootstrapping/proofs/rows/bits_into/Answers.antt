-- `bootstrapping::rows::bits_into` meets its contract: after i turns the parts of the first i bits stand one after another.
-- Assumes nothing.
use Rattle.std.proofs.Common.{ℕ, ◌*◌, ◌<◌, sym, ap, ◌∙◌, arith}
use Rattle.params.specs.Sizes.{bit_words}
use Rattle.ring.proofs.Parts.{slice_length}
use Rattle.ring.proofs.Joins.{joined_none, joined_more, joined_done}
use Rattle.bootstrapping.specs.Rows.{bit_draws, key_bit, bootstrapping_key}
use Rattle.bootstrapping.proofs.Parts.{fits, bit_sizes, bit_drawn}
use Rattle.bootstrapping.proofs.rows.bits_into.Goals as goal

pub loop-i-init : goal.loop-i-init
loop-i-init c = let g = c.args in joined_none c.p.inside.sizes.bit (key_bit g.p g.key_lv0.now g.key_lv1.now g.masks.now g.noise.now) g.out.now

pub slice_bounds-rows_into-end : goal.slice_bounds-rows_into-end
slice_bounds-rows_into-end c = fits c.loop-i.i c.args.p.n _ (bit_draws c.args.p) (omega arith) (bit_sizes c.p.invariant.1 c.p.view_is).1 c.requires.2

pub slice_bounds-rows_into-end-in-loop-i-2 : goal.slice_bounds-rows_into-end-in-loop-i-2
slice_bounds-rows_into-end-in-loop-i-2 c = fits c.loop-i.i c.args.p.n _ (bit_words c.args.p) (omega arith) (bit_sizes c.p.invariant.1 c.p.view_is).0 (c.loop-i.auto.out ∙ c.requires.4)

pub loop-i-preserved : goal.loop-i-preserved
loop-i-preserved c =
    let g = c.args in
    let l = c.loop-i in
    let w = bit_sizes c.p.invariant.1 c.p.view_is in
    let within : l.i < g.p.n = omega arith in
    let fit = fits l.i g.p.n _ (bit_words g.p) within w.0 (l.auto.out ∙ c.requires.4) in
    let made = bit_drawn g.p g.key_lv1.now g.masks.now g.noise.now g.key_lv0.now l.i _ w.1 c.rows_into.ensures in
    joined_more _ (key_bit g.p g.key_lv0.now g.key_lv1.now g.masks.now g.noise.now) g.out.now l.i l.invariant.0 l.invariant.1 c.rows_into.new.out made
    (c.rows_into.auto.out ∙ slice_length l.out _ _ fit)

pub returns : goal.returns
unfolding bootstrapping_key
returns c =
    let g = c.args in
    let l = c.loop-i in
    let w = bit_sizes c.p.invariant.1 c.p.view_is in
    joined_done _ (key_bit g.p g.key_lv0.now g.key_lv1.now g.masks.now g.noise.now) g.out.now l.i l.invariant.0 l.invariant.1 g.p.n (omega arith) (omega arith)
    (c.requires.4 ∙ ap (λ (k : ℕ). g.p.n * k) (sym w.0))
