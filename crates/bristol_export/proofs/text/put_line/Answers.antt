-- `bristol_export::text::put_line` meets its contract: by the name.
-- Assumes nothing.
use mathlib.Core.Path.{◌≡◌}
use mathlib.Core.List.{[], ◌∷◌}
use native.Mathlib.Omega.{arith}
use Rattle.bristol_export.specs.Text.{two_text, one_text, line_text}
use Rattle.bristol_export.proofs.Pieces.{put_is, line_xor, line_and, line_inv, line_eq, line_eqw}
use Rattle.bristol_export.proofs.text.put_line.Goals as goal

pub returns-then-name-lt2-clause-value : goal.returns-then-name-lt2-clause-value
returns-then-name-lt2-clause-value c =
    let a = c.args in
    let p = c.requires in
    let e = c.put_two.ensures in
    let n : a.name ≡ 1 = omega arith in
    let w = put_is a.out.now a.at (two_text a.x a.y a.n (32 ∷ 88 ∷ 79 ∷ 82 ∷ 10 ∷ [])) (line_text a.name a.x a.y a.n) (line_xor a.name a.x a.y a.n n) (record { text = e.out_after; place = e.value }) in
    w.place

pub returns-then-name-lt2-clause-out_after : goal.returns-then-name-lt2-clause-out_after
returns-then-name-lt2-clause-out_after c =
    let a = c.args in
    let p = c.requires in
    let e = c.put_two.ensures in
    let n : a.name ≡ 1 = omega arith in
    let w = put_is a.out.now a.at (two_text a.x a.y a.n (32 ∷ 88 ∷ 79 ∷ 82 ∷ 10 ∷ [])) (line_text a.name a.x a.y a.n) (line_xor a.name a.x a.y a.n n) (record { text = e.out_after; place = e.value }) in
    w.text

pub returns-then-name-lt3-clause-value : goal.returns-then-name-lt3-clause-value
returns-then-name-lt3-clause-value c =
    let a = c.args in
    let p = c.requires in
    let e = c.put_two-then-name-lt3.ensures in
    let n : a.name ≡ 2 = omega arith in
    let w = put_is a.out.now a.at (two_text a.x a.y a.n (32 ∷ 65 ∷ 78 ∷ 68 ∷ 10 ∷ [])) (line_text a.name a.x a.y a.n) (line_and a.name a.x a.y a.n n) (record { text = e.out_after; place = e.value }) in
    w.place

pub returns-then-name-lt3-clause-out_after : goal.returns-then-name-lt3-clause-out_after
returns-then-name-lt3-clause-out_after c =
    let a = c.args in
    let p = c.requires in
    let e = c.put_two-then-name-lt3.ensures in
    let n : a.name ≡ 2 = omega arith in
    let w = put_is a.out.now a.at (two_text a.x a.y a.n (32 ∷ 65 ∷ 78 ∷ 68 ∷ 10 ∷ [])) (line_text a.name a.x a.y a.n) (line_and a.name a.x a.y a.n n) (record { text = e.out_after; place = e.value }) in
    w.text

pub returns-then-name-lt4-clause-value : goal.returns-then-name-lt4-clause-value
returns-then-name-lt4-clause-value c =
    let a = c.args in
    let p = c.requires in
    let e = c.put_one.ensures in
    let n : a.name ≡ 3 = omega arith in
    let w = put_is a.out.now a.at (one_text a.x a.n (32 ∷ 73 ∷ 78 ∷ 86 ∷ 10 ∷ [])) (line_text a.name a.x a.y a.n) (line_inv a.name a.x a.y a.n n) (record { text = e.out_after; place = e.value }) in
    w.place

pub returns-then-name-lt4-clause-out_after : goal.returns-then-name-lt4-clause-out_after
returns-then-name-lt4-clause-out_after c =
    let a = c.args in
    let p = c.requires in
    let e = c.put_one.ensures in
    let n : a.name ≡ 3 = omega arith in
    let w = put_is a.out.now a.at (one_text a.x a.n (32 ∷ 73 ∷ 78 ∷ 86 ∷ 10 ∷ [])) (line_text a.name a.x a.y a.n) (line_inv a.name a.x a.y a.n n) (record { text = e.out_after; place = e.value }) in
    w.text

pub returns-then-name-lt5-clause-value : goal.returns-then-name-lt5-clause-value
returns-then-name-lt5-clause-value c =
    let a = c.args in
    let p = c.requires in
    let e = c.put_one-then-name-lt5.ensures in
    let n : a.name ≡ 4 = omega arith in
    let w = put_is a.out.now a.at (one_text a.x a.n (32 ∷ 69 ∷ 81 ∷ 10 ∷ [])) (line_text a.name a.x a.y a.n) (line_eq a.name a.x a.y a.n n) (record { text = e.out_after; place = e.value }) in
    w.place

pub returns-then-name-lt5-clause-out_after : goal.returns-then-name-lt5-clause-out_after
returns-then-name-lt5-clause-out_after c =
    let a = c.args in
    let p = c.requires in
    let e = c.put_one-then-name-lt5.ensures in
    let n : a.name ≡ 4 = omega arith in
    let w = put_is a.out.now a.at (one_text a.x a.n (32 ∷ 69 ∷ 81 ∷ 10 ∷ [])) (line_text a.name a.x a.y a.n) (line_eq a.name a.x a.y a.n n) (record { text = e.out_after; place = e.value }) in
    w.text

pub returns-clause-value : goal.returns-clause-value
returns-clause-value c =
    let a = c.args in
    let p = c.requires in
    let e = c.put_one-2.ensures in
    let n : a.name ≡ 5 = omega arith in
    let w = put_is a.out.now a.at (one_text a.x a.n (32 ∷ 69 ∷ 81 ∷ 87 ∷ 10 ∷ [])) (line_text a.name a.x a.y a.n) (line_eqw a.name a.x a.y a.n n) (record { text = e.out_after; place = e.value }) in
    w.place

pub returns-clause-out_after : goal.returns-clause-out_after
returns-clause-out_after c =
    let a = c.args in
    let p = c.requires in
    let e = c.put_one-2.ensures in
    let n : a.name ≡ 5 = omega arith in
    let w = put_is a.out.now a.at (one_text a.x a.n (32 ∷ 69 ∷ 81 ∷ 87 ∷ 10 ∷ [])) (line_text a.name a.x a.y a.n) (line_eqw a.name a.x a.y a.n n) (record { text = e.out_after; place = e.value }) in
    w.text
