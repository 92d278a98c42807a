-- `ways::run_way` meets its contract: each way, from what the call for it answers and leaves.
-- Assumes nothing.
use Rattle.ways.proofs.Checks.{does_known, does_negated, does_gate, does_negated_gate, does_choice}
use Rattle.ways.proofs.run_way.Goals as goal

pub returns-in-Known : goal.returns-in-Known
returns-in-Known c =
    let g = c.args in
    let d = does_known g.p g.ksk.now g.bsk.now g.a.now g.b.now g.c.now g.out.now c.in-Known.is c.constant.ensures.said c.constant.ensures.written in
    record { said = d.0; written = d.1 }

pub returns-in-Negated : goal.returns-in-Negated
returns-in-Negated c =
    let g = c.args in
    let d = does_negated g.p g.ksk.now g.bsk.now g.a.now g.b.now g.c.now g.out.now c.in-Negated.is c.not.ensures.said c.not.ensures.written in
    record { said = d.0; written = d.1 }

pub returns-in-Gate : goal.returns-in-Gate
returns-in-Gate c =
    let g = c.args in
    let d = does_gate g.p g.ksk.now g.bsk.now g.a.now g.b.now g.c.now g.out.now c.in-Gate.is c.gate.ensures.said c.gate.ensures.written in
    record { said = d.0; written = d.1 }

pub returns-in-NegatedGate : goal.returns-in-NegatedGate
returns-in-NegatedGate c =
    let g = c.args in
    let d = does_negated_gate g.p g.ksk.now g.bsk.now g.a.now g.b.now g.c.now g.out.now c.in-NegatedGate.is c.negated_gate.ensures.said c.negated_gate.ensures.written in
    record { said = d.0; written = d.1 }

pub returns-in-Choice : goal.returns-in-Choice
returns-in-Choice c =
    let g = c.args in
    let d = does_choice g.p g.ksk.now g.bsk.now g.a.now g.b.now g.c.now g.out.now c.in-Choice.is c.mux.ensures.said c.mux.ensures.written in
    record { said = d.0; written = d.1 }
