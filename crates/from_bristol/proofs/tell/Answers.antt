-- There is room for any circuit, so the import's answer is the text's.
use Rattle.std.proofs.Common.{arith}
use Rattle.from_bristol.proofs.Room.{circuit_within, circuit_told, no_line, no_circuit, line_told}
use Rattle.from_bristol.proofs.tell.Goals as goal

pub returns-in-Err-clause-circuit : goal.returns-in-Err-clause-circuit
returns-in-Err-clause-circuit c = no_circuit c.args.text.now c.args.circuit.now c.requires c.import.ensures.said c.in-Err.is

pub returns-in-Err-clause-line : goal.returns-in-Err-clause-line
returns-in-Err-clause-line c =
    let a = c.args in
    let r = c.refused.ensures in
    line_told a.text.now a.circuit.now c.requires c.import.ensures.said c.in-Err.is a.line.now c.number.ensures c.place.ensures r.said r.written

pub returns-in-Ok-clause-fits : goal.returns-in-Ok-clause-fits
returns-in-Ok-clause-fits c =
    let m = c.import in
    let w = circuit_within c.args.text.now c.args.circuit.now c.requires m.ensures.said c.in-Ok.is in
    let k = m.auto.out in
    (omega arith, omega arith)

pub returns-in-Ok-clause-circuit : goal.returns-in-Ok-clause-circuit
returns-in-Ok-clause-circuit c = circuit_told c.args.text.now c.args.circuit.now c.requires c.import.ensures.said c.in-Ok.is c.import.ensures.written

pub returns-in-Ok-clause-line : goal.returns-in-Ok-clause-line
returns-in-Ok-clause-line c = no_line c.args.text.now c.args.circuit.now c.requires c.import.ensures.said c.in-Ok.is
