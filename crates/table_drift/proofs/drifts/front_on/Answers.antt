-- `table_drift::drifts::front_on` meets its contract: the table's vector is worked out, and the place read in it.
-- Assumes nothing.
use mathlib.Core.Path.{ap, ap₂, ◌∙◌}
use mathlib.Core.List.{List}
use Prim.Native.Nat.{ℕ, ◌-◌, ◌%◌, ◌≤◌, ◌<◌}
use native.Mathlib.Omega.{arith}
use borrow.Author.Tests.{lt-ltb, le-ltb}
use lib.ListN.{length}
use Rattle.ring.specs.Word.{Q, at, neg}
use Rattle.ring.proofs.Tab.{length-tab}
use Rattle.params.proofs.Ranges.{not_refused}
use Rattle.params.specs.Sizes.{size}
use Rattle.table_drift.specs.Private.{front_at}
use Rattle.tables.proofs.Checks.{table_done}
use Rattle.turns.proofs.Given.{is_given}
use Rattle.table_drift.proofs.Calls.{vector_put}
use Rattle.table_drift.proofs.drifts.front_on.Goals as goal

pub unwrap-requires : goal.unwrap-requires
unwrap-requires c =
    let g = c.args in
    let h = c.requires in
    let z = not_refused g.p (rw c.p.view_is at c.p.invariant.0) in
    is_given _ _ (rw c.p.view_is at c.table_testvec.ensures.said) (table_done g.p g.modulus _ _ _ (record { good = z; words = h.0; fits = h.1 }) h.2 h.3)

pub returns-then-at-n : goal.returns-then-at-n
unfolding front_at
returns-then-at-n c =
    let g = c.args in
    let h = c.requires in
    let z = not_refused g.p (rw c.p.view_is at c.p.invariant.0) in
    let e = vector_put g.p g.modulus g.table.now g.va.now g.vb.now (record { good = z; words = h.0; fits = h.1 }) h.2 h.3 (rw c.p.view_is at c.table_testvec.ensures.second) in
    let l : g.place < size g.p = omega (arith, c.if-at-n.true, ap length e ∙ length-tab (size g.p) _) in
    ap (λ (b : List ℕ). at b g.place) e ∙ rw (lt-ltb g.place (size g.p) l)

pub returns-else-at-n : goal.returns-else-at-n
unfolding front_at
returns-else-at-n c =
    let g = c.args in
    let h = c.requires in
    let z = not_refused g.p (rw c.p.view_is at c.p.invariant.0) in
    let e = vector_put g.p g.modulus g.table.now g.va.now g.vb.now (record { good = z; words = h.0; fits = h.1 }) h.2 h.3 (rw c.p.view_is at c.table_testvec.ensures.second) in
    let n = ap length e ∙ length-tab (size g.p) _ in
    let l : size g.p ≤ g.place = omega (arith, c.if-at-n.false, n) in
    c.negated.ensures ∙ ap₂ (λ (b : List ℕ) (n : ℕ). neg (at b (g.place - n)) % Q) e n ∙ rw (le-ltb g.place (size g.p) l)
