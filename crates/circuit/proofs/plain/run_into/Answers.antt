-- `circuit::plain::run_into` meets its contract: the inputs' bits, then the gates', then the outputs from them.
-- Assumes nothing.
use mathlib.Core.Path.{◌∙◌, ap}
use mathlib.Core.List.{List}
use Prim.Native.Nat.{ℕ}
use Rattle.ring.specs.Word.{at}
use Rattle.ring.specs.Sums.{tab}
use Rattle.circuit.specs.Form.{outputs, output_at}
use Rattle.circuit.proofs.Wires.{run_bits}
use Rattle.circuit.proofs.plain.run_into.Goals as goal

pub returns : goal.returns
returns c =
    let b = c.args.bytes.now in
    c.put_outputs.ensures
    ∙ ap (λ (l : List ℕ). tab (outputs b) (λ o. at l (output_at b o))) (run_bits b c.args.ins.now _ _ _ c.requires.ins_len.0 c.put_inputs.ensures c.put_gates.ensures)
