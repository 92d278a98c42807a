-- The refusals taken apart and put together.
-- Assumes nothing.
use mathlib.Core.Path.{◌≡◌, refl}
use Prim.Native.Nat.{ℕ}
use Rattle.params.specs.declared.Params.{Params}
use Rattle.refusals.proofs.Table.{good, done}
use Rattle.samples.specs.Sample.{sample_checks, sample_number}
use Rattle.samples.specs.Private.{SampleGood}

module _ (p : Params) (la lb ls lo : ℕ) where
  pub sample_good : sample_number p la lb ls lo ≡ 0 → SampleGood p la lb ls lo
  unfolding sample_number
  sample_good e =
      let f = good p (sample_checks p la lb ls lo) refl e in
      record { good = f.0; first = f.1.0; second = f.1.1.0; bootstrapping = f.1.1.1.0; result = f.1.1.1.1.0 }

  -- for callers: good arguments are not refused
  pub sample_done : SampleGood p la lb ls lo → sample_number p la lb ls lo ≡ 0
  unfolding sample_number
  sample_done g = done p (sample_checks p la lb ls lo) (g.good, (g.first, (g.second, (g.bootstrapping, (g.result, tt)))))
