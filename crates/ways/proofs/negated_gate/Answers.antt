-- `ways::negated_gate` meets its contract: the gate, and where it did its work each word negated; a refused gate leaves what was lent.
-- Assumes nothing.
use Rattle.std.proofs.Common.{◌∙◌, sym}
use Rattle.params.specs.Refusal.{answer}
use Rattle.params.proofs.Answers.{given_ok}
use Rattle.ways.proofs.Checks.{negated_made}
use Rattle.ways.proofs.negated_gate.Goals as goal

pub returns-clause-written : goal.returns-clause-written
returns-clause-written c =
    let g = c.args in
    let e = c.gate.ensures in
    negated_made g.p g.kind g.a.now g.b.now g.ksk.now g.bsk.now g.out.now e.written (given_ok (answer _) tt (sym e.said ∙ c.in_ok-gate.was)) c.negate.ensures
