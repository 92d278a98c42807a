use Rattle.std.proofs.Common.{◌≡◌, ◌++◌, ◌+◌, ◌*◌, List, ℕ, length, drop}
use Rattle.params.specs.declared.Params.{Params}
use Rattle.ring.specs.Lists.{joined}
use Rattle.key.specs.Generation.{row_outer, row_field, row_digit}
use Rattle.key.specs.Former.{former_row}
use Rattle.key.proofs.former.rows_into.Given as goal

-- row number r as it stood
abbrev pub row_at : Params → List ℕ → ℕ → List ℕ
row_at p former r = former_row p former (row_outer p r) (row_field p r) (row_digit p r)

abbrev pub invariant-loop-r : goal.invariant-loop-r
invariant-loop-r l = (length (joined l.r (row_at l.p l.former)) ≡ l.r * (l.p.n + 1)) × (l.out ≡ joined l.r (row_at l.p l.former) ++ drop (l.r * (l.p.n + 1)) l.initial.out)
