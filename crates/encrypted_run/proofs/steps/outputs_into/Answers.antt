-- `encrypted_run::steps::outputs_into` meets its contract: each turn puts one more output's ciphertext behind those before it.
-- Assumes nothing.
use mathlib.Core.Path.{◌≡◌, refl, sym, ap, ap₂, ◌∙◌}
use mathlib.Core.List.{List, ◌++◌}
use Prim.Native.Nat.{ℕ, ◌+◌, ◌*◌, ◌<◌}
use native.Mathlib.Omega.{arith}
use lib.ListN.{length, take, drop, length-append}
use Rattle.ring.proofs.Joins.{joined_none, joined_done}
use Rattle.circuit.specs.Form.{outputs, wires, output_at}
use Rattle.ways.specs.Ciphers.{cipher_at}
use Rattle.ways.specs.Private.{Within}
use Rattle.encrypted_run.specs.Run.{output_ciphers}
use Rattle.ways.proofs.Ciphers.{cipher_length, wire_within}
use Rattle.encrypted_run.proofs.Operands.{outputs_are, there}
use Rattle.encrypted_run.proofs.Wires.{put_next, joined_next}
use Rattle.ring.specs.Lists.{joined}
use Rattle.encrypted_run.proofs.steps.outputs_into.Invariants.{output_cipher}
use Rattle.encrypted_run.proofs.steps.outputs_into.Goals as goal

pub loop-o-init : goal.loop-o-init
loop-o-init c =
    let g = c.args in
    let e = joined_none (g.p.n + 1) (output_cipher g.p g.bytes.now g.wires.now) g.out.now in
    (refl, e.0, e.1)

pub put_at-requires : goal.put_at-requires
put_at-requires c =
    let within : c.loop-o.o < outputs c.args.bytes.now =
    let e = outputs_are c.args.bytes.now c.counts-shape.ensures in omega (arith, e)
    in
    let wire : c.output_at-w.result ≡ output_at c.args.bytes.now c.loop-o.o =
    let b = c.args.bytes.now in
    let o = c.loop-o.o in
    there o (outputs b) (output_at b o) within c.output_at-w.ensures
    in
    let lies : Within c.args.p c.output_at-w.result (length c.args.wires.now) =
    let b = c.args.bytes.now in
    let h = c.requires.0.every_output c.loop-o.o within in
    let e = wire in
    rw c.requires.1 (wire_within c.args.p c.output_at-w.result (wires b) (omega (arith, h, e)))
    in
    let g = c.args in
    let l = c.loop-o in
    let h = within in (
      ap length c.ciphertext.ensures ∙ cipher_length g.p g.wires.now c.output_at-w.result lies,
      rw (l.invariant.0, c.requires.2) (wire_within g.p l.o (outputs g.bytes.now) (omega (arith, h))),
    )

pub loop-o-preserved : goal.loop-o-preserved
loop-o-preserved c =
    let within : c.loop-o.o < outputs c.args.bytes.now =
    let e = outputs_are c.args.bytes.now c.counts-shape.ensures in omega (arith, e)
    in
    let wire : c.output_at-w.result ≡ output_at c.args.bytes.now c.loop-o.o =
    let b = c.args.bytes.now in
    let o = c.loop-o.o in
    there o (outputs b) (output_at b o) within c.output_at-w.ensures
    in
    let row : c.ciphertext.result.now ≡ output_cipher c.args.p c.args.bytes.now c.args.wires.now c.loop-o.o =
    c.ciphertext.ensures ∙ ap (cipher_at c.args.p c.args.wires.now) wire
    in
    let lies : Within c.args.p c.output_at-w.result (length c.args.wires.now) =
    let b = c.args.bytes.now in
    let h = c.requires.0.every_output c.loop-o.o within in
    let e = wire in
    rw c.requires.1 (wire_within c.args.p c.output_at-w.result (wires b) (omega (arith, h, e)))
    in
    let g = c.args in
    let m = g.p.n + 1 in
    let f = output_cipher g.p g.bytes.now g.wires.now in
    let l = c.loop-o in
    let h = within in
    let next = sym (joined_next f l.o) in
    let r = row in
    let long : length (f l.o) ≡ m = ap length (sym r) ∙ ap length c.ciphertext.ensures ∙ cipher_length g.p g.wires.now c.output_at-w.result lies in
    let k = l.invariant.1 in (
      c.put_at.auto.into ∙ l.invariant.0,
      ap length (joined_next f l.o) ∙ length-append (joined l.o f) (f l.o) ∙ ap₂ (λ (x y : ℕ). x + y) k long ∙ omega arith,
      c.put_at.ensures
          ∙ ap (λ (x : List ℕ). take (l.o * m) l.out ++ x ++ drop ((l.o + 1) * m) l.out) r
          ∙ put_next m l.o (joined l.o f) (f l.o) g.out.now k l.invariant.2
          ∙ ap (λ (x : List ℕ). x ++ drop ((l.o + 1) * m) g.out.now) next,
    )

pub returns : goal.returns
unfolding output_ciphers
returns c =
    let g = c.args in
    let l = c.loop-o in
    let e = outputs_are g.bytes.now c.counts-shape.ensures in
    joined_done (g.p.n + 1) (output_cipher g.p g.bytes.now g.wires.now) g.out.now l.o l.invariant.1 l.invariant.2 (outputs g.bytes.now) (omega (arith, e)) (omega (arith, e)) c.requires.2
