-- `report::text::put_line` meets its contract: four pieces, one behind the other.
-- Assumes nothing.
use mathlib.Core.Path.{sym, ap, ◌∙◌}
use mathlib.Core.List.{[], ◌∷◌, ◌++◌}
use Prim.Native.Nat.{ℕ, ◌+◌}
use native.Mathlib.Omega.{arith}
use lib.ListN.{length}
use Rattle.ring.specs.Word.{at}
use Rattle.ring.proofs.Tab.{length-tab}
use Rattle.report.specs.Text.{bit_char, bits_text, line_text}
use Rattle.report.proofs.Pieces.{written_next}
use Rattle.report.proofs.text.put_line.Goals as goal

pub returns-clause-value : goal.returns-clause-value
unfolding line_text
returns-clause-value c =
    let a = c.args in
    let o = a.out.now in
    let ins = a.ins.now in
    let outs = a.outs.now in
    let li = length-tab (length ins) (λ i. bit_char (at ins i)) in
    let lo = length-tab (length outs) (λ i. bit_char (at outs i)) in
    let e1 = c.put_bits-a.ensures in
    let e2 = c.put_byte-b.ensures in
    let e3 = c.put_bits-c.ensures in
    let e4 = c.put_byte.ensures in
    let w1 = written_next o a.at (bits_text ins) (32 ∷ []) (record { text = e1.out_after; place = e1.value ∙ ap (λ (k : ℕ). a.at + k) (sym li) }) (omega arith) e2.value e2.out_after in
    let w2 = written_next o a.at (bits_text ins ++ (32 ∷ [])) (bits_text outs) w1 (omega arith) (e3.value ∙ ap (λ (k : ℕ). c.put_byte-b.result + k) (sym lo)) e3.out_after in
    let w3 = written_next o a.at (bits_text ins ++ (32 ∷ []) ++ bits_text outs) (10 ∷ []) w2 (omega arith) e4.value e4.out_after in
    w3.place

pub returns-clause-out_after : goal.returns-clause-out_after
unfolding line_text
returns-clause-out_after c =
    let a = c.args in
    let o = a.out.now in
    let ins = a.ins.now in
    let outs = a.outs.now in
    let li = length-tab (length ins) (λ i. bit_char (at ins i)) in
    let lo = length-tab (length outs) (λ i. bit_char (at outs i)) in
    let e1 = c.put_bits-a.ensures in
    let e2 = c.put_byte-b.ensures in
    let e3 = c.put_bits-c.ensures in
    let e4 = c.put_byte.ensures in
    let w1 = written_next o a.at (bits_text ins) (32 ∷ []) (record { text = e1.out_after; place = e1.value ∙ ap (λ (k : ℕ). a.at + k) (sym li) }) (omega arith) e2.value e2.out_after in
    let w2 = written_next o a.at (bits_text ins ++ (32 ∷ [])) (bits_text outs) w1 (omega arith) (e3.value ∙ ap (λ (k : ℕ). c.put_byte-b.result + k) (sym lo)) e3.out_after in
    let w3 = written_next o a.at (bits_text ins ++ (32 ∷ []) ++ bits_text outs) (10 ∷ []) w2 (omega arith) e4.value e4.out_after in
    w3.text
