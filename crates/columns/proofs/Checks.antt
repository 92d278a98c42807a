-- The refusals taken apart: what a number 0 tells of each argument, and that good arguments are not refused.
-- Assumes nothing.
use mathlib.Core.Path.{◌≡◌, refl}
use Prim.Native.Nat.{ℕ}
use Rattle.params.specs.declared.Params.{Params}
use Rattle.refusals.proofs.Table.{good, done}
use Rattle.columns.specs.Refusals.{column_checks, column_number}
use Rattle.columns.specs.Private.{ColumnGood}

module _ (p : Params) (kind count lp lk ls lo : ℕ) where
  pub column_good : column_number p kind count lp lk ls lo ≡ 0 → ColumnGood p kind count lp lk ls lo
  unfolding column_number
  column_good e =
      let f = good p (column_checks p kind count lp lk ls lo) refl e in
      record {
        good = f.0;
        lent = record { pairs = f.1.0; switching = f.1.1.0; bootstrapping = f.1.1.1.0; least = f.1.1.1.1.1.0; most = f.1.1.1.1.1.1.0 };
        results = f.1.1.1.1.0;
      }

  -- for callers: good arguments are not refused
  pub column_done : ColumnGood p kind count lp lk ls lo → column_number p kind count lp lk ls lo ≡ 0
  unfolding column_number
  column_done g =
      let t = g.lent in
      done p (column_checks p kind count lp lk ls lo) (g.good, (t.pairs, (t.switching, (t.bootstrapping, (g.results, (t.least, (t.most, tt)))))))
