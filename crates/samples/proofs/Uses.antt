-- What callers cite: with good arguments a call is done and leaves what its definition says.
-- Assumes nothing.
use mathlib.Core.Path.{◌≡◌}
use mathlib.Core.List.{List}
use Prim.Native.Nat.{ℕ}
use lib.ListN.{length}
use Rattle.params.specs.declared.Params.{Params}
use Rattle.params.proofs.Answers.{when_done}
use Rattle.gate_sums.specs.declared.Kind.{Kind}
use Rattle.gate_sums.specs.Sum.{summed}
use Rattle.samples.specs.Private.{SampleGood}
use Rattle.samples.specs.Sample.{rotated_sample, sample_out}
use Rattle.samples.proofs.Checks.{sample_done}

pub sample_written : (p : Params) (kind : Kind) (a b bsk o : List ℕ) → SampleGood p (length a) (length b) (length bsk) (length o) → sample_out p kind a b bsk o ≡ rotated_sample p bsk (summed p kind a b)
sample_written p kind a b bsk o g = when_done _ _ _ (sample_done p _ _ _ _ g)
