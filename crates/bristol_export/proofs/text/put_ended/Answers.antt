-- `bristol_export::text::put_ended` meets its contract: the number, then what stands behind it.
-- Assumes nothing.
use native.Mathlib.Omega.{arith}
use Rattle.report.specs.Decimal.{decimal}
use Rattle.bristol_export.specs.Text.{ended}
use Rattle.bristol_export.proofs.Laid.{put_next}
use Rattle.bristol_export.proofs.Digits.{length_four}
use Rattle.bristol_export.proofs.text.put_ended.Goals as goal

pub put-requires : goal.put-requires
put-requires c =
    let p = c.requires in
    let l = length_four c.args.n p.1 in
    let e = c.put_number-next.ensures.value in
    (omega arith, p.2)

pub returns-clause-value : goal.returns-clause-value
unfolding ended
returns-clause-value c =
    let a = c.args in
    let e = c.put_number-next.ensures in
    let d = c.put.ensures in
    let w = put_next a.out.now a.at (decimal a.n) a.end.now (record { text = e.out_after; place = e.value }) d.value d.out_after in
    w.place

pub returns-clause-out_after : goal.returns-clause-out_after
unfolding ended
returns-clause-out_after c =
    let a = c.args in
    let e = c.put_number-next.ensures in
    let d = c.put.ensures in
    let w = put_next a.out.now a.at (decimal a.n) a.end.now (record { text = e.out_after; place = e.value }) d.value d.out_after in
    w.text
