-- `drift_run::gates_of::inputs_into` meets its contract: a loop that writes.
-- Assumes nothing.
use Rattle.std.proofs.Common.{ap, ◌∙◌}
use mathlib.Core.List.{List}
use Prim.Native.Nat.{ℕ, ◌+◌, ◌≤◌, ◌<◌}
use native.Mathlib.Omega.{arith}
use lib.ListN.{length}
use Rattle.ring.specs.Word.{at}
use Rattle.ring.specs.Bit.{truth}
use Rattle.ring.proofs.Tab.{tab_none, tab_more, tab_part}
use Rattle.ways.specs.Ciphers.{cipher_at}
use Rattle.ways.proofs.Ciphers.{wire_within}
use Rattle.drift.specs.PrivateWords.{fresh_word}
use Rattle.drift.specs.PrivateCircuit.{fresh_words}
use Rattle.drift_run.proofs.Lent.{read_length}
use Rattle.drift_run.proofs.gates_of.inputs_into.Goals as goal

pub loop-i-init : goal.loop-i-init
loop-i-init c = tab_none _ c.args.drifts.now

pub fresh-requires : goal.fresh-requires
fresh-requires c =
    let g = c.args in
    let h = c.requires in
    let l = c.loop-i in
    let k : l.i + 1 ≤ length g.plain.now = omega arith in
    (h.0, read_length g.p g.ins.now l.i (rw h.1 (wire_within g.p l.i (length g.plain.now) k)) (rw c.p.view_is at c.ciphertext.ensures))

pub loop-i-preserved : goal.loop-i-preserved
loop-i-preserved c =
    let l = c.loop-i in
    let g = c.args in
    let h : l.i < length g.drifts.now = (let k = c.requires.2 in omega arith) in
    tab_more (λ k. fresh_word g.p g.key.now (cipher_at g.p g.ins.now k) (truth (at g.plain.now k))) g.drifts.now l.i h l.invariant
    (c.fresh.ensures ∙ ap (λ (x : List ℕ). fresh_word g.p g.key.now x (truth (at g.plain.now l.i))) (rw c.p.view_is at c.ciphertext.ensures))

pub returns : goal.returns
unfolding fresh_words
returns c =
    let l = c.loop-i in
    let g = c.args in
    tab_part (λ k. fresh_word g.p g.key.now (cipher_at g.p g.ins.now k) (truth (at g.plain.now k))) g.drifts.now l.i (length g.plain.now) (omega arith) (omega arith) l.invariant
