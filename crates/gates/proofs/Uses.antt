-- What callers of the routines cite: with good arguments a call is done and leaves what its definition says.
-- Assumes nothing.
use mathlib.Core.Path.{◌≡◌}
use mathlib.Core.List.{List}
use Prim.Native.Nat.{ℕ}
use lib.ListN.{length}
use Rattle.params.specs.declared.Params.{Params}
use Rattle.params.proofs.Answers.{when_done}
use Rattle.gate_sums.specs.declared.Kind.{Kind}
use Rattle.gates.specs.Private.{GateGood}
use Rattle.gates.specs.Gate.{gated, gate_out}
use Rattle.gates.proofs.Checks.{gate_done}

module _ (p : Params) (kind : Kind) where
  -- `gate`, and at its own kind each named gate
  pub gate_written : (a b ksk bsk o : List ℕ) → GateGood p (length a) (length b) (length ksk) (length bsk) (length o) → gate_out p kind a b ksk bsk o ≡ gated p kind ksk bsk a b
  gate_written a b ksk bsk o g = when_done _ _ _ (gate_done p _ _ _ _ _ g)
