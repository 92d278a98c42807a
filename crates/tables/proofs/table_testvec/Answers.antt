-- `tables::table_testvec` meets its contract: a table that is not refused fits the vector.
-- Assumes nothing.
use mathlib.Core.Path.{sym, ap, ap₂, ◌∙◌}
use Prim.Native.Nat.{ℕ}
use Rattle.ring.specs.Sums.{tab}
use Rattle.ring.specs.Pair.{Pair}
use Rattle.params.proofs.Answers.{when_done}
use Rattle.gates.proofs.Checks.{checked_same}
use Rattle.tables.proofs.Checks.{table_good, fitting_words}
use Rattle.tables.proofs.Chain.{vector_made}
use Rattle.tables.proofs.table_testvec.Goals as goal

pub put_vector-requires : goal.put_vector-requires
put_vector-requires c =
    let k = table_good _ _ _ _ _ (checked_same c.in_ok-table_checks.ensures).0 in
    fitting_words c.args.p _ _ _ k.0 k.2

pub returns-clause-first : goal.returns-clause-first
returns-clause-first c =
    let z = (checked_same c.in_ok-table_checks.ensures).0 in
    let k = table_good _ _ _ _ _ z in
    c.put_vector.ensures.a_after ∙ ap (λ (n : ℕ). tab n (λ i. 0)) k.1 ∙ ap (λ (v : Pair). v.a) (sym (when_done _ _ _ z))

pub returns-clause-second : goal.returns-clause-second
returns-clause-second c =
    let z = (checked_same c.in_ok-table_checks.ensures).0 in
    let k = table_good _ _ _ _ _ z in
    vector_made c.args.p c.args.table.now k.2 k.0.words c.put_vector.ensures.b_after ∙ ap (λ (v : Pair). v.b) (sym (when_done _ _ _ z))
