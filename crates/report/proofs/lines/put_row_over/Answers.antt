-- `report::lines::put_row_over` meets its contract: the row's inputs, the run on them, the line.
-- Assumes nothing.
use mathlib.Core.Path.{◌≡◌, ap, ap₂, ◌∙◌}
use mathlib.Core.List.{List}
use Prim.Native.Nat.{ℕ, ◌+◌, ◌/◌, ◌%◌, ◌^◌}
use lib.ListN.{length}
use Rattle.ring.specs.Sums.{tab}
use Rattle.circuit.specs.Plain.{output_bits}
use Rattle.circuit.proofs.Accept.{accepted, RunGood}
use Rattle.circuit.proofs.Laws.{run_writes}
use Rattle.report.specs.Private.{splice}
use Rattle.report.specs.Text.{line_text, row_inputs, row_text}
use Rattle.report.proofs.lines.put_row_over.Goals as goal

pub returns-clause-value : goal.returns-clause-value
unfolding row_text
returns-clause-value c =
    let a = c.args in
    let b = a.bytes.now in
    let p = c.requires in
    let ins = c.row_inputs.new.ins in
    let outs = a.outs.now in
    let ei : ins ≡ row_inputs b a.r = c.row_inputs.ensures ∙ ap (λ (k : ℕ). tab k (λ i. a.r / 2 ^ i % 2)) p.ins_len.0 in
    let g : RunGood b (length ins) (length outs) = record { valid = accepted b p.bytes_value.0; ins_length = c.row_inputs.auto.ins ∙ p.ins_len.0; outs_length = p.ins_len.1 } in
    let eo = c.run_plain.ensures.written ∙ run_writes b ins outs g in
    let t = ap₂ line_text ei (eo ∙ ap (output_bits b) ei) in
    let e = c.put_line.ensures in
    e.value ∙ ap (λ (l : List ℕ). a.at + length l) t

pub returns-clause-out_after : goal.returns-clause-out_after
unfolding row_text
returns-clause-out_after c =
    let a = c.args in
    let b = a.bytes.now in
    let p = c.requires in
    let ins = c.row_inputs.new.ins in
    let outs = a.outs.now in
    let ei : ins ≡ row_inputs b a.r = c.row_inputs.ensures ∙ ap (λ (k : ℕ). tab k (λ i. a.r / 2 ^ i % 2)) p.ins_len.0 in
    let g : RunGood b (length ins) (length outs) = record { valid = accepted b p.bytes_value.0; ins_length = c.row_inputs.auto.ins ∙ p.ins_len.0; outs_length = p.ins_len.1 } in
    let eo = c.run_plain.ensures.written ∙ run_writes b ins outs g in
    let t = ap₂ line_text ei (eo ∙ ap (output_bits b) ei) in
    let e = c.put_line.ensures in
    e.out_after ∙ ap (λ (l : List ℕ). splice a.out.now a.at l) t
