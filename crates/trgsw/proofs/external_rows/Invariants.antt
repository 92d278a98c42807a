use Rattle.std.proofs.Common.{ℕ, List, ◌≡◌}
use Rattle.ring.specs.Poly.{plus, times, total}
use Rattle.params.specs.declared.Params.{Params}
use Rattle.params.specs.Sizes.{size}
use Rattle.decomposition.specs.Pair.{pair_digit}
use Rattle.trgsw.specs.External.{row_a, row_b}
use Rattle.trgsw.proofs.external_rows.Given as goal

-- what row r adds to either half
abbrev pub term : (Params → List ℕ → ℕ → List ℕ) → Params → List ℕ → List ℕ → List ℕ → ℕ → List ℕ
term half p rows a b r = times (size p) (pair_digit p (record { a = a; b = b }) r) (half p rows r)

abbrev pub invariant-loop-r : goal.invariant-loop-r
invariant-loop-r l =
    (l.outa ≡ plus (size l.p) (total (size l.p) l.r (term row_a l.p l.rows l.a l.b)) l.initial.outa)
    × (l.outb ≡ plus (size l.p) (total (size l.p) l.r (term row_b l.p l.rows l.a l.b)) l.initial.outb)
