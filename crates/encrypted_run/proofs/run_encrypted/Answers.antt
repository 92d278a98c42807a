-- `encrypted_run::run_encrypted` meets its contract: what its checks passed is what its work asks.
-- Assumes nothing.
use mathlib.Core.Path.{sym, ap, ◌∙◌}
use lib.ListN.{length}
use Rattle.params.specs.Refusal.{answer}
use Rattle.circuit.specs.Form.{answer_of, or_else}
use Rattle.circuit.proofs.Accept.{accepted, both_done}
use Rattle.encrypted_run.specs.declared.Lengths.{Lengths}
use Rattle.encrypted_run.specs.Refusals.{material_number, lengths_of}
use Rattle.encrypted_run.proofs.Checks.{keys_good, asked, given_back}
use Rattle.encrypted_run.proofs.run_encrypted.Goals as goal

pub run_into-requires : goal.run_into-requires
unfolding lengths_of
run_into-requires c =
    let a = c.args in
    let b = a.bytes.now in
    let before = answer (material_number a.p (length a.ksk.now) (length a.bsk.now)) in
    let r = given_back (or_else before (answer_of b)) (lengths_of a.p b) (sym c.read.ensures ∙ c.in_ok-t.was) in
    let z = both_done before (answer_of b) r.0 in
    let t = r.1 in
    record {
      step = record {
        keys = keys_good a.p _ _ z.0;
        valid = accepted b z.1;
        wires_length = asked _ _ _ _ c.unless-3.ensures c.in_ok-unless-3.was ∙ ap (λ (l : Lengths). l.held) t;
      };
      ins_length = asked _ _ _ _ c.unless.ensures c.in_ok-unless.was ∙ ap (λ (l : Lengths). l.ins) t;
      outs_length = asked _ _ _ _ c.unless-2.ensures c.in_ok-unless-2.was ∙ ap (λ (l : Lengths). l.outs) t;
    }
