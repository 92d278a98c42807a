-- `bristol_export::text::put_two` meets its contract: four pieces, one behind the other.
-- Assumes nothing.
use mathlib.Core.List.{◌++◌}
use native.Mathlib.Omega.{arith}
use lib.Dec.{lit≤}
use Rattle.bristol_export.specs.Text.{ended, reads_two, space, two_text}
use Rattle.bristol_export.proofs.Laid.{put_next}
use Rattle.bristol_export.proofs.Lengths.{length-ended}
use Rattle.bristol_export.proofs.text.put_two.Goals as goal

pub put_ended-c-requires : goal.put_ended-c-requires
put_ended-c-requires c =
    let p = c.requires in
    let l = length-ended c.args.x space p.1 in
    let e = c.put-a.ensures.value in
    let d = c.put_ended-b.ensures.value in
    (omega arith, p.2, lit≤ tt)

pub put_ended-requires : goal.put_ended-requires
put_ended-requires c =
    let p = c.requires in
    let l = length-ended c.args.x space p.1 in
    let m = length-ended c.args.y space p.2 in
    let e = c.put-a.ensures.value in
    let d = c.put_ended-b.ensures.value in
    let f = c.put_ended-c.ensures.value in
    (omega arith, p.3, p.4)

pub returns-clause-value : goal.returns-clause-value
unfolding two_text
returns-clause-value c =
    let a = c.args in
    let o = a.out.now in
    let e1 = c.put-a.ensures in
    let e2 = c.put_ended-b.ensures in
    let e3 = c.put_ended-c.ensures in
    let e4 = c.put_ended.ensures in
    let t = ended a.x space in
    let u = ended a.y space in
    let w1 = put_next o a.at reads_two t (record { text = e1.out_after; place = e1.value }) e2.value e2.out_after in
    let w2 = put_next o a.at (reads_two ++ t) u w1 e3.value e3.out_after in
    let w3 = put_next o a.at (reads_two ++ t ++ u) (ended a.n a.end.now) w2 e4.value e4.out_after in
    w3.place

pub returns-clause-out_after : goal.returns-clause-out_after
unfolding two_text
returns-clause-out_after c =
    let a = c.args in
    let o = a.out.now in
    let e1 = c.put-a.ensures in
    let e2 = c.put_ended-b.ensures in
    let e3 = c.put_ended-c.ensures in
    let e4 = c.put_ended.ensures in
    let t = ended a.x space in
    let u = ended a.y space in
    let w1 = put_next o a.at reads_two t (record { text = e1.out_after; place = e1.value }) e2.value e2.out_after in
    let w2 = put_next o a.at (reads_two ++ t) u w1 e3.value e3.out_after in
    let w3 = put_next o a.at (reads_two ++ t ++ u) (ended a.n a.end.now) w2 e4.value e4.out_after in
    w3.text
