-- `encrypted_run::steps::run_into` meets its contract: the inputs' ciphertexts, the gates', then the outputs' from them.
-- Assumes nothing.
use mathlib.Core.Path.{ap, ◌∙◌}
use Rattle.encrypted_run.specs.Run.{output_ciphers}
use Rattle.encrypted_run.proofs.Wires.{inputs_fit, start_made}
use Rattle.encrypted_run.proofs.steps.run_into.Goals as goal

pub returns-clause-held : goal.returns-clause-held
returns-clause-held c =
    let g = c.args in
    let held = start_made g.p g.ksk.now g.bsk.now g.bytes.now g.ins.now g.wires.now c.requires.ins_length (rw (c.requires.ins_length, c.requires.step.wires_length) (inputs_fit g.p g.bytes.now)) c.copy.ensures c.all_into.ensures in
    held

pub returns-clause-written : goal.returns-clause-written
returns-clause-written c =
    let g = c.args in
    let held = start_made g.p g.ksk.now g.bsk.now g.bytes.now g.ins.now g.wires.now c.requires.ins_length (rw (c.requires.ins_length, c.requires.step.wires_length) (inputs_fit g.p g.bytes.now)) c.copy.ensures c.all_into.ensures in
    c.outputs_into.ensures ∙ ap (output_ciphers g.p g.bytes.now) held
