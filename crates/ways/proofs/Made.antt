-- What each way gives, as the gates of `gates` name it: the way's samples computed.
-- Assumes nothing.
use mathlib.Core.Path.{◌≡◌, refl}
use mathlib.Core.Bool.{Bool}
use mathlib.Core.List.{List}
use Prim.Native.Nat.{ℕ, ◌+◌}
use Rattle.params.specs.declared.Params.{Params}
use Rattle.tlwe.specs.Linear.{negative}
use Rattle.gate_sums.specs.declared.Kind.{Kind}
use Rattle.gate_sums.specs.Sum.{constant_of}
use Rattle.gates.specs.Gate.{bootstrapped, gated, muxed}
use Rattle.ways.specs.declared.Way.TheVariants.{Known, Negated, Gate, NegatedGate, Choice}
use Rattle.ways.specs.Ways.{rotations_of, rotation_sum, rotated_sums, made, ran}

module _ (p : Params) (ksk bsk a b c : List ℕ) where
  pub ran_known : (bit : Bool) → ran p ksk bsk (Known bit) a b c ≡ constant_of p bit
  unfolding ran made
  ran_known bit = refl

  pub ran_negated : ran p ksk bsk Negated a b c ≡ negative (p.n + 1) a
  unfolding ran made
  ran_negated = refl

  pub ran_gate : (kind : Kind) → ran p ksk bsk (Gate kind) a b c ≡ gated p kind ksk bsk a b
  unfolding ran made rotated_sums rotations_of rotation_sum bootstrapped
  ran_gate kind = refl

  pub ran_negated_gate : (kind : Kind) → ran p ksk bsk (NegatedGate kind) a b c ≡ negative (p.n + 1) (gated p kind ksk bsk a b)
  unfolding ran made rotated_sums rotations_of rotation_sum bootstrapped
  ran_negated_gate kind = refl

  pub ran_choice : ran p ksk bsk Choice a b c ≡ muxed p ksk bsk a b c
  unfolding ran made rotated_sums rotations_of rotation_sum muxed
  ran_choice = refl
