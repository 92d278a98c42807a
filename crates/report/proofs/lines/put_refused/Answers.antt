-- `report::lines::put_refused` meets its contract: three pieces, which the slice has room for.
-- Assumes nothing.
use mathlib.Core.Path.{◌∙◌}
use mathlib.Core.List.{[], ◌∷◌, ◌++◌}
use native.Mathlib.Nat.{zero-add}
use native.Mathlib.Omega.{arith}
use Rattle.report.specs.Text.{refused_word, at_word, named, refused_text}
use Rattle.report.proofs.Pieces.{written_next, length-named, length-named_count}
use Rattle.report.proofs.lines.put_refused.Goals as goal

pub put_named-b-requires : goal.put_named-b-requires
put_named-b-requires c =
    let a = c.args in
    let l = length-named refused_word a.number (omega arith) in
    let e = c.put_named-a.ensures in
    let k = c.put_named-a.auto.out in
    omega arith

pub put_byte-requires : goal.put_byte-requires
put_byte-requires c =
    let a = c.args in
    let l1 = length-named refused_word a.number (omega arith) in
    let l2 = length-named_count at_word a.place (omega arith) in
    let e1 = c.put_named-a.ensures in
    let e2 = c.put_named-b.ensures in
    let k1 = c.put_named-a.auto.out in
    let k2 = c.put_named-b.auto.out in
    omega arith

pub returns-clause-value : goal.returns-clause-value
unfolding refused_text
returns-clause-value c =
    let a = c.args in
    let o = a.out.now in
    let l1 = length-named refused_word a.number (omega arith) in
    let l2 = length-named_count at_word a.place (omega arith) in
    let e1 = c.put_named-a.ensures in
    let e2 = c.put_named-b.ensures in
    let e3 = c.put_byte.ensures in
    let w1 = written_next o 0 (named refused_word a.number) (named at_word a.place) (record { text = e1.out_after; place = e1.value }) (omega arith) e2.value e2.out_after in
    let w2 = written_next o 0 (named refused_word a.number ++ named at_word a.place) (10 ∷ []) w1 (omega arith) e3.value e3.out_after in
    (w2.place ∙ zero-add _, omega arith)

pub returns-clause-out_after : goal.returns-clause-out_after
unfolding refused_text
returns-clause-out_after c =
    let a = c.args in
    let o = a.out.now in
    let l1 = length-named refused_word a.number (omega arith) in
    let l2 = length-named_count at_word a.place (omega arith) in
    let e1 = c.put_named-a.ensures in
    let e2 = c.put_named-b.ensures in
    let e3 = c.put_byte.ensures in
    let w1 = written_next o 0 (named refused_word a.number) (named at_word a.place) (record { text = e1.out_after; place = e1.value }) (omega arith) e2.value e2.out_after in
    let w2 = written_next o 0 (named refused_word a.number ++ named at_word a.place) (10 ∷ []) w1 (omega arith) e3.value e3.out_after in
    w2.text
