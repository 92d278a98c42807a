-- What callers of the choice cite: with good arguments a call is done and leaves what its definition says.
-- Assumes nothing.
use mathlib.Core.Path.{◌≡◌}
use mathlib.Core.List.{List}
use Prim.Native.Nat.{ℕ}
use lib.ListN.{length}
use Rattle.params.specs.declared.Params.{Params}
use Rattle.params.proofs.Answers.{when_done}
use Rattle.gates.specs.Private.{MuxGood}
use Rattle.gates.specs.Gate.{muxed, muxed_naive, mux_out}
use Rattle.named_gates.proofs.Checks.{mux_done}

module _ (p : Params) (a b c ksk bsk o : List ℕ) (g : MuxGood p (length a) (length b) (length c) (length ksk) (length bsk) (length o)) where
  -- `mux`
  pub mux_written : mux_out muxed p a b c ksk bsk o ≡ muxed p ksk bsk a b c
  mux_written = when_done _ _ _ (mux_done p _ _ _ _ _ _ g)

  -- `mux_naive`
  pub mux_naive_written : mux_out muxed_naive p a b c ksk bsk o ≡ muxed_naive p ksk bsk a b c
  mux_naive_written = when_done _ _ _ (mux_done p _ _ _ _ _ _ g)
