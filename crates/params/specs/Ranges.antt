-- The ranges of the six numbers (01, 'Parameters').
use Rattle.std.specs.Prelude.{Result, Ok, ℕ, ◌*◌, ◌≤◌, eqb, leb}
use Rattle.params.specs.declared.Params.{Params}
use Rattle.params.specs.declared.refusal.Refusal.{Refusal}
use Rattle.params.specs.declared.refusal.Refusal.TheVariants.{Parameters}
use Rattle.params.specs.Refusal.{check, unless}

-- Refusal 1 where a number is outside its range, else 0: n 1..1,100; NBIT 1..10; BGBIT 1..24, L at least 1, L·BGBIT at most 32; BASEBIT 1..6,
-- T at least 1, BASEBIT·T at most 30. The products are those of whole numbers: nothing wraps on the way.
unfoldable pub params_number : Params → ℕ
params_number p =
    check (leb 1 p.n) 1 (check (leb p.n 1100) 1
    (check (leb 1 p.nbit) 1 (check (leb p.nbit 10) 1
    (check (leb 1 p.bgbit) 1 (check (leb p.bgbit 24) 1
    (check (leb 1 p.l) 1 (check (leb (p.l * p.bgbit) 32) 1
    (check (leb 1 p.basebit) 1 (check (leb p.basebit 6) 1
    (check (leb 1 p.t) 1 (check (leb (p.basebit * p.t) 30) 1
    0)))))))))))

-- What the check of parameters hands back: refusal 1, or the parameters themselves, which are then known to be in range.
abbrev pub checked : Params → Result Params Refusal
checked p = unless (eqb (params_number p) 0) Parameters (Ok p)

-- What holds of parameters that are not refused: the same ranges, as facts.
pub record InRange (p : Params) : Type 0 where
  pub n_from : 1 ≤ p.n
  pub n_to : p.n ≤ 1100
  pub nbit_from : 1 ≤ p.nbit
  pub nbit_to : p.nbit ≤ 10
  pub bgbit_from : 1 ≤ p.bgbit
  pub bgbit_to : p.bgbit ≤ 24
  pub l_from : 1 ≤ p.l
  pub digits_to : p.l * p.bgbit ≤ 32
  pub basebit_from : 1 ≤ p.basebit
  pub basebit_to : p.basebit ≤ 6
  pub t_from : 1 ≤ p.t
  pub fields_to : p.basebit * p.t ≤ 30
