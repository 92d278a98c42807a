-- `bootstrapping::rows::row_into` meets its contract: what is added is what the row's number tells.
-- Assumes nothing.
use Rattle.std.proofs.Common.{ℕ, [], ◌∷◌, ◌++◌, ap, ap₂, ◌∙◌, arith}
use Rattle.ring.specs.Poly.{plus}
use Rattle.bootstrapping.proofs.Parts.{body_made, row_made}
use Rattle.bootstrapping.proofs.rows.row_into.Goals as goal

pub returns : goal.returns
returns c =
    let g = c.args in
    let w = c.requires.words in
    let halves = c.split_at_mut-a.ensures in
    let v = c.p.view_is in
    let range = rw v at c.p.invariant.0 in
    let first = c.put.ensures ∙ ap (λ (k : ℕ). plus k g.masks.now (c.mask_message.result ∷ [])) (halves.front_len ∙ w.0) in
    let second = body_made g.p range c.body_message.result g.masks.now g.noise.now g.key.now _ w.0 w.2 (omega (arith, halves.back_len)) c.put-2.ensures (rw v at c.poly_mul_add.ensures.written) in
    row_made g.p range g.m g.r g.key.now g.masks.now g.noise.now c.mask_message.ensures c.body_message.ensures (ap₂ ◌++◌ first second)
