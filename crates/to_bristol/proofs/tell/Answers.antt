-- There is room for any text, so the export's answer is the circuit's, and bytes past those that were read would change nothing.
use Rattle.std.proofs.Common.{arith, ◌∙◌, take}
use Rattle.to_bristol.proofs.Room.{read_text, read_line, text_within, text_told, no_line, no_text, line_told}
use Rattle.to_bristol.proofs.tell.Goals as goal

pub returns-in-Err-clause-text : goal.returns-in-Err-clause-text
returns-in-Err-clause-text c =
    let a = c.args in
    let x = no_text (take a.n a.input.now) a.text.now c.requires.2 c.export.ensures.said c.in-Err.is in
    λ bs e. x ∙ read_text a.input.now bs a.n c.requires.0 e

pub returns-in-Err-clause-line : goal.returns-in-Err-clause-line
returns-in-Err-clause-line c =
    let a = c.args in
    let r = c.refused.ensures in
    let y = line_told (take a.n a.input.now) a.text.now c.requires.2 c.export.ensures.said c.in-Err.is a.line.now c.number.ensures c.place.ensures r.said r.written in
    λ bs e. y ∙ read_line a.input.now bs a.n c.requires.0 e

pub returns-in-Ok-clause-fits : goal.returns-in-Ok-clause-fits
returns-in-Ok-clause-fits c =
    let a = c.args in
    let m = c.export in
    let w = text_within (take a.n a.input.now) a.text.now c.requires.2 m.ensures.said c.in-Ok.is in
    let k = m.auto.out in
    (omega arith, omega arith)

pub returns-in-Ok-clause-text : goal.returns-in-Ok-clause-text
returns-in-Ok-clause-text c =
    let a = c.args in
    let m = c.export.ensures in
    let x = text_told (take a.n a.input.now) a.text.now c.requires.2 m.said c.in-Ok.is m.written in
    λ bs e. x ∙ read_text a.input.now bs a.n c.requires.0 e

pub returns-in-Ok-clause-line : goal.returns-in-Ok-clause-line
returns-in-Ok-clause-line c =
    let a = c.args in
    let y = no_line (take a.n a.input.now) a.text.now c.requires.2 c.export.ensures.said c.in-Ok.is in
    λ bs e. y ∙ read_line a.input.now bs a.n c.requires.0 e
