-- The refusals of the choice taken apart and put together.
-- Assumes nothing.
use mathlib.Core.Path.{◌≡◌, refl}
use mathlib.Core.List.{◌∷◌}
use Prim.Native.Nat.{ℕ, ◌+◌}
use Rattle.params.specs.declared.Params.{Params}
use Rattle.refusals.specs.Table.{is}
use Rattle.refusals.proofs.Table.{good, done}
use Rattle.gates.specs.Refusals.{gate_checks, mux_number}
use Rattle.gates.specs.Private.{MuxGood}

module _ (p : Params) (la lb lc lk ls lo : ℕ) where
  pub mux_good : mux_number p la lb lc lk ls lo ≡ 0 → MuxGood p la lb lc lk ls lo
  unfolding mux_number
  mux_good e =
      let f = good p (is la (p.n + 1) 2 ∷ gate_checks p lb lc lk ls lo) refl e in
      record { good = f.0; first = f.1.0; second = f.1.1.0; third = f.1.1.1.0; switching = f.1.1.1.1.0; bootstrapping = f.1.1.1.1.1.0; result = f.1.1.1.1.1.1.0 }

  -- for callers: good arguments are not refused
  pub mux_done : MuxGood p la lb lc lk ls lo → mux_number p la lb lc lk ls lo ≡ 0
  unfolding mux_number
  mux_done g =
      done p (is la (p.n + 1) 2 ∷ gate_checks p lb lc lk ls lo) (g.good, (g.first, (g.second, (g.third, (g.switching, (g.bootstrapping, (g.result, tt)))))))
