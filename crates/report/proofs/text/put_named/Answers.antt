-- `report::text::put_named` meets its contract: the word, then the number behind it.
-- Assumes nothing.
use native.Mathlib.Omega.{arith}
use Rattle.report.specs.Decimal.{decimal}
use Rattle.report.specs.Text.{named}
use Rattle.report.proofs.Digits.{length_twenty}
use Rattle.report.proofs.Pieces.{written_next}
use Rattle.report.proofs.text.put_named.Goals as goal

pub put_number-requires : goal.put_number-requires
put_number-requires c =
    let a = c.args in
    let l = length_twenty a.n (omega arith) in
    let e = c.put-next.ensures in
    let k = c.put-next.auto.out in
    omega arith

pub returns-clause-value : goal.returns-clause-value
unfolding named
returns-clause-value c =
    let a = c.args in
    let e = c.put-next.ensures in
    let d = c.put_number.ensures in
    let w = written_next a.out.now a.at a.word.now (decimal a.n) (record { text = e.out_after; place = e.value }) (omega arith) d.value d.out_after in
    w.place

pub returns-clause-out_after : goal.returns-clause-out_after
unfolding named
returns-clause-out_after c =
    let a = c.args in
    let e = c.put-next.ensures in
    let d = c.put_number.ensures in
    let w = written_next a.out.now a.at a.word.now (decimal a.n) (record { text = e.out_after; place = e.value }) (omega arith) d.value d.out_after in
    w.text
