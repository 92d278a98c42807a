-- The refusals taken apart.
-- Assumes nothing.
use mathlib.Core.Path.{◌≡◌, refl, ap}
use mathlib.Core.Bool.{Bool}
use mathlib.Core.List.{List}
use Prim.Native.Nat.{ℕ}
use Rattle.params.specs.declared.Params.{Params}
use Rattle.params.specs.Ranges.{params_number}
use Rattle.params.specs.Refusal.{check}
use Rattle.refusals.proofs.Table.{good}
use Rattle.table_drift.specs.Refusals.{lookup_drift_checks, lookup_drift_number}
use Rattle.table_drift.specs.Private.{LookupDriftGood}

module _ (p : Params) (m lf results lk ls : ℕ) (key z : List ℕ) (lc lo ld : ℕ) where
  pub lookup_drift_good : lookup_drift_number p m lf results lk ls key z lc lo ld ≡ 0 → (params_number p ≡ 0) × LookupDriftGood p m lf results lk ls key lc lo ld
  unfolding lookup_drift_number
  lookup_drift_good e =
      let f = good p (lookup_drift_checks p m lf results lk ls key z lc lo ld) refl e in
      let g = f.1.1 in
      let h = g.1.1.1.1 in
      let k = h.1.1.1 in (
        f.0,
        record {
          words = f.1.0;
          fits = k.1.1.0;
          switching = g.0;
          bootstrapping = g.1.0;
          long = g.1.1.0;
          source = h.0;
          result = h.1.0;
          drifts = h.1.1.0;
          bits = k.0;
          outcome = ap (λ (b : Bool). check b 5 0) k.1.1.1.0;
        },
      )
