-- `drift_run::gates_of::outputs_inside` meets its contract: a loop that asks of each output.
-- Assumes nothing.
use Rattle.std.proofs.Common.{◌∙◌, ap}
use Prim.Native.Nat.{◌<◌}
use native.Mathlib.Omega.{arith}
use Rattle.ring.specs.Word.{at}
use Rattle.circuit.specs.Form.{outputs, output_at}
use Rattle.encrypted_run.proofs.Operands.{outputs_are, there}
use Rattle.drift.specs.PrivateCircuit.{output_words}
use Rattle.drift_run.proofs.Drifts.{all_none, all_more, all_done}
use Rattle.drift_run.proofs.Told.{both_are}
use Rattle.drift_size.specs.Size.{inside_word}
use Rattle.drift_run.proofs.gates_of.outputs_inside.Goals as goal

pub loop-o-init : goal.loop-o-init
loop-o-init c = all_none _

pub loop-o-preserved : goal.loop-o-preserved
loop-o-preserved c =
    let l = c.loop-o in
    let g = c.args in
    let n = outputs_are g.bytes.now c.counts-shape.ensures in
    let h : l.o < outputs g.bytes.now = omega arith in
    all_more _ l.o l.invariant
    (c.is_inside-inside.ensures ∙ ap inside_word (c.drift_at-drift.ensures ∙ ap (at g.drifts.now) (there l.o (outputs g.bytes.now) (output_at g.bytes.now l.o) h c.output_at.ensures))) (both_are l.inside c.is_inside-inside.result)

pub returns : goal.returns
unfolding output_words
returns c = let l = c.loop-o in let n = outputs_are c.args.bytes.now c.counts-shape.ensures in all_done _ (omega arith) (omega arith) l.invariant
