-- `encrypted_run::run_gate` meets its contract: what its checks passed is what its work asks.
-- Assumes nothing.
use mathlib.Core.Path.{sym, ap, ◌∙◌}
use lib.ListN.{length}
use Rattle.params.specs.Refusal.{answer}
use Rattle.circuit.specs.Form.{answer_of, or_else}
use Rattle.circuit.proofs.Accept.{accepted, both_done}
use Rattle.encrypted_run.specs.declared.Lengths.{Lengths}
use Rattle.encrypted_run.specs.Refusals.{material_number, lengths_of}
use Rattle.encrypted_run.proofs.Checks.{keys_good, asked, given_back}
use Rattle.encrypted_run.proofs.run_gate.Goals as goal

pub one_or_none-requires : goal.one_or_none-requires
unfolding lengths_of
one_or_none-requires c =
    let a = c.args in
    let b = a.bytes.now in
    let before = answer (material_number a.p (length a.ksk.now) (length a.bsk.now)) in
    let r = given_back (or_else before (answer_of b)) (lengths_of a.p b) (sym c.read.ensures ∙ c.in_ok-held.was) in
    let z = both_done before (answer_of b) r.0 in
    let t = r.1 in
    record {
      keys = keys_good a.p _ _ z.0;
      valid = accepted b z.1;
      wires_length = asked _ _ _ _ c.unless.ensures c.in_ok-unless.was ∙ ap (λ (l : Lengths). l.held) t;
    }
