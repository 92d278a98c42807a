use Rattle.std.proofs.Common.{◌≡◌, ◌+◌, List, ℕ, length}
use Rattle.params.specs.declared.Params.{Params}
use Rattle.ring.specs.Word.{field_of}
use Rattle.ring.specs.Poly.{minus, total}
use Rattle.switching.specs.Switched.{used_row}
use Rattle.switching.proofs.use_mask.Given as goal

-- the row that field j of the mask uses
abbrev pub row : Params → List ℕ → ℕ → ℕ → ℕ → List ℕ
row p key i a j = used_row p key i j (field_of a p.basebit j)

abbrev pub invariant-loop-j : goal.invariant-loop-j
invariant-loop-j l = (length l.out ≡ l.p.n + 1) × (l.out ≡ minus (l.p.n + 1) l.initial.out (total (l.p.n + 1) l.j (row l.p l.ksk l.i l.a)))
